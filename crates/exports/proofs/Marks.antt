-- A mark as one number.
-- Assumes nothing.
use Prim.Native.Nat.{ℕ, zero, suc, ◌+◌}
use mathlib.Core.List.{List}
use mathlib.Core.Path.{◌≡◌, refl, ap, ◌∙◌}
use Rattle.std.proofs.Common.{Result, Ok, Err}
use Rattle.state.specs.declared.refusal.Refusal.{Refusal}
use Rattle.state.specs.Refusal.{number}
use Rattle.state.proofs.Refused.{not_none}
use Rattle.reference.specs.Lists.{if_zero}
use Rattle.mark.specs.Mark.{Marked, mark, mark_refusal, marked, marked_of, answer}
use Rattle.stored.specs.Calls.{front_shown}

pub mark_shown : (b c : List ℕ) (r : Result ℕ Refusal) → marked_of r ≡ marked b c → front_shown r ≡ answer b c
unfolding marked_of marked answer front_shown
mark_shown b c (Ok m) h =
    let n : 0 ≡ mark_refusal b c = ap (λ (x : Marked). x.refusal) h in ap (λ (x : Marked). x.mark) h ∙ rw (← n)
mark_shown b c (Err e) h =
    let n : number e ≡ mark_refusal b c = ap (λ (x : Marked). x.refusal) h in rw (← n) (by (number e) (not_none e))
  where
    by : (n : ℕ) → (n ≡ 0 → ⊥) → 20000 + n ≡ if_zero n (mark b c) (20000 + n)
    by zero z = absurd (z refl)
    by (suc n) z = refl
