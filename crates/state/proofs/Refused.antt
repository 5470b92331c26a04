-- A refusal has a number: 0 is none of them, and stands for an answer that is no refusal.
-- Assumes nothing.
use mathlib.Core.Bool.{false}
use mathlib.Core.Path.{◌≡◌, refl, sym}
use Rattle.std.proofs.Common.{Result, Ok, Err}
use Rattle.std.specs.Result.{is_ok}
use lib.Dec.{eqb}
use borrow.Author.Tests.{eqb-false}
use Rattle.state.specs.declared.refusal.Refusal.{Refusal}
use Rattle.state.specs.declared.refusal.Refusal.TheVariants as case
use Rattle.state.specs.Refusal.{number, outcome}

pub numbered : (refusal : Refusal) → eqb (number refusal) 0 ≡ false
unfolding number
numbered case.BadConfig = refl
numbered case.NoProcessor = refl
numbered case.BadOperand = refl
numbered case.CallAway = refl
numbered case.GoAtApp = refl
numbered case.NotOwner = refl
numbered case.NotNew = refl
numbered case.Full = refl
numbered case.NoStep = refl
numbered case.TooShort = refl
numbered case.BadLength = refl
numbered case.BadField = refl
numbered case.BadChain = refl
numbered case.BadHolder = refl
numbered case.BadRecord = refl
numbered case.BadJournal = refl
numbered case.BadScript = refl
numbered case.StillOwner = refl

pub not_none : (refusal : Refusal) → number refusal ≡ 0 → ⊥
not_none refusal = eqb-false (number refusal) 0 (numbered refusal)

pub ok-outcome : {A : Type 0} (r : Result A Refusal) → is_ok r ≡ eqb (outcome r) 0
unfolding outcome
ok-outcome (Ok x) = refl
ok-outcome (Err e) = sym (numbered e)
