-- A branch on a number that is 0, or not.
-- Assumes nothing.
use Prim.Native.Nat.{ℕ, zero, suc}
use mathlib.Core.Path.{◌≡◌, refl}
use native.Mathlib.Omega.{arith}
use Rattle.reference.specs.Lists.{if_zero}

module _ {A : Type 0} where
  pub if_none : (n : ℕ) (a b : A) → n ≡ 0 → if_zero n a b ≡ a
  if_none zero a b e = refl
  if_none (suc n) a b e = absurd (omega arith)

  pub if_some : (n : ℕ) (a b : A) → (n ≡ 0 → ⊥) → if_zero n a b ≡ b
  if_some zero a b e = absurd (e refl)
  if_some (suc n) a b e = refl
