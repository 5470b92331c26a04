-- What the tests say: `◌&&◌`, ranges, and the rule that the first cause gives the number.
-- Assumes nothing.
use Prim.Native.Nat.{ℕ, suc, ◌≤◌}
use mathlib.Core.Bool.{Bool, true, false, ◌&&◌, true≢false}
use mathlib.Core.Path.{◌≡◌, refl, sym}
use native.Mathlib.Omega.{arith}
use borrow.Author.Tests.{leb-true, le-leb}
use Rattle.reference.specs.Refusal.{refuse}
use Rattle.reference.specs.Lists.{in_range}

pub both : {a b : Bool} → a ≡ true → b ≡ true → a && b ≡ true
both h k = rw (h, k)

pub both_left : (a b : Bool) → a && b ≡ true → a ≡ true
both_left true b e = refl
both_left false b e = e

pub both_right : (a b : Bool) → a && b ≡ true → b ≡ true
both_right true b e = e
both_right false b e = absurd (true≢false (sym e))

-- what each of two tests says, where both say yes
infixl 4 ◌and◌
pub ◌and◌ : {x y : Bool} {P Q : Type 0} → (x ≡ true → P) → (y ≡ true → Q) → x && y ≡ true → P × Q
◌and◌ {x} {y} f g e = (f (both_left x y e), g (both_right x y e))

pub range_true : (lo hi n : ℕ) → in_range lo hi n ≡ true → (lo ≤ n) × (n ≤ hi)
range_true lo hi n = leb-true lo n and leb-true n hi

pub true_range : (lo hi n : ℕ) → lo ≤ n → n ≤ hi → in_range lo hi n ≡ true
true_range lo hi n h k = both (le-leb lo n h) (le-leb n hi k)

-- no number is given: the cause is not there, and what comes after it gives none
pub passed : (b : Bool) (n x : ℕ) → refuse b (suc n) x ≡ 0 → (b ≡ false) × (x ≡ 0)
passed true n x e = absurd (omega arith)
passed false n x e = (refl, e)
