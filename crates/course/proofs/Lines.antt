-- What refuses a call, as its line prints it.
use Prim.Native.Nat.{ℕ}
use mathlib.Core.Path.{◌≡◌, sym, ap, ◌∙◌}
use mathlib.Core.List.{List}
use Rattle.std.proofs.Common.{Result, Ok, Err}
use Rattle.std.specs.Result.{is_ok}
use lib.Dec.{eqb}
use Rattle.command.specs.Request.{Ask}
use Rattle.command.specs.Model.Request.{ask_in, ask_of}
use Rattle.state.specs.declared.refusal.Refusal.{Refusal}
use Rattle.state.specs.declared.Session.{Session}
use Rattle.state.specs.Refusal.{number}
use Rattle.state.proofs.Branch.{if_some}
use Rattle.state.proofs.Refused.{numbered, not_none}
use Rattle.reference.specs.Lists.{if_zero}
use Rattle.session.specs.Contract.{Answer, answer_of}

-- what is printed for a refusal
pub for_refusal : (e : Refusal) (x y : List ℕ) → if_zero (number e) x y ≡ y
for_refusal e x y = if_some (number e) x y (not_none e)

-- a start is accepted where its number is 0
pub begun_ok : (other : Session) (r : Result Session Refusal) (a : Answer) → answer_of other r ≡ a → is_ok r ≡ eqb a.refusal 0
unfolding answer_of
begun_ok other (Ok made) a h = ap (λ (b : Answer). eqb b.refusal 0) h
begun_ok other (Err e) a h = sym (numbered e) ∙ ap (λ (b : Answer). eqb b.refusal 0) h

-- what a line asks, where there is room for its numbers
pub asked_of : (a : Ask) (n : ℕ) (l : List ℕ) → n ≡ 1024 → a ≡ ask_in n l → a ≡ ask_of l
asked_of a n l h e = rw h at e
