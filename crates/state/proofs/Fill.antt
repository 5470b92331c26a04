-- An array that a loop fills from the front becomes a table.
-- Assumes nothing.
use Prim.Native.Nat.{ℕ, zero, suc, ◌+◌, ◌<◌}
use mathlib.Core.Path.{◌≡◌, refl, sym, ap, ◌∙◌}
use mathlib.Core.List.{List, [], ◌∷◌, ◌++◌}
use native.Mathlib.Numerals.{add-one}
use native.Mathlib.Omega.{arith}
use lib.ListN.{length, take, set}
use lib.Seq.{take-suc-set, take_all}
use Rattle.reference.specs.Lists.{tabulate}

module _ {A : Type 0} (f : ℕ → A) where
  snoc : (a n : ℕ) → tabulate f a (suc n) ≡ tabulate f a n ++ f (a + n) ∷ []
  unfolding tabulate
  snoc a zero = rw (let e : a + 0 ≡ a = omega arith in e)
  snoc a (suc n) = ap (λ (l : List A). f a ∷ l) (snoc (suc a) n ∙ ap (λ (k : ℕ). tabulate f (suc a) n ++ f k ∷ []) (omega arith))

  pub fill_none : [] ≡ tabulate f 0 0
  unfolding tabulate
  fill_none = refl

  pub fill_more : (l : List A) (n : ℕ) → n < length l → take n l ≡ tabulate f 0 n → take (n + 1) (set l n (f n)) ≡ tabulate f 0 (n + 1)
  fill_more l n h e = rw (add-one n) (take-suc-set l n (f n) h ∙ rw e (sym (snoc 0 n ∙ ap (λ (k : ℕ). tabulate f 0 n ++ f k ∷ []) (omega arith))))

  pub fill_all : (l : List A) (n : ℕ) → length l ≡ n → take n l ≡ tabulate f 0 n → l ≡ tabulate f 0 n
  fill_all l n h e = sym (take_all n l (omega arith)) ∙ e
