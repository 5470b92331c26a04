-- Tables: when two are the same, and what a search in one finds.
-- Assumes nothing.
use Prim.Native.Nat.{ℕ, zero, suc, ◌+◌, ◌≤◌, ◌<◌}
use mathlib.Core.Bool.{Bool, true, false}
use mathlib.Core.List.{List, ◌∷◌}
use mathlib.Core.Path.{◌≡◌, refl, ap, ◌∙◌}
use native.Mathlib.Omega.{arith}
use lib.ListN.{replicate}
use Rattle.reference.specs.Lists.{tabulate, find}

module _ {A : Type 0} where
  pub tabulate-same : (f g : ℕ → A) (a n : ℕ) → ((i : ℕ) → a ≤ i → i < a + n → f i ≡ g i) → tabulate f a n ≡ tabulate g a n
  unfolding tabulate
  tabulate-same f g a zero h = refl
  tabulate-same f g a (suc n) h =
      rw (h a (omega arith) (omega arith)) (ap (λ (l : List A). g a ∷ l) (tabulate-same f g (suc a) n (λ i x y. h i (omega arith) (omega arith))))

  pub tabulate-all : (x : A) (f : ℕ → A) (a n : ℕ) → ((i : ℕ) → a ≤ i → x ≡ f i) → replicate n x ≡ tabulate f a n
  unfolding tabulate
  tabulate-all x f a zero h = refl
  tabulate-all x f a (suc n) h = rw (tabulate-all x f (suc a) n (λ i y. h i (omega arith))) (ap (λ (z : A). z ∷ tabulate f (suc a) n) (h a (omega arith)))

  module _ (test : A → Bool) where
    pub find_nowhere : (x : A) (n : ℕ) → test x ≡ false → find test (replicate n x) ≡ 0
    unfolding find
    find_nowhere x zero e = refl
    find_nowhere x (suc n) e = rw (e, find_nowhere x n e)

    module _ (f : ℕ → A) where
      pub find_none : (a n : ℕ) → ((i : ℕ) → a ≤ i → i < a + n → test (f i) ≡ false) → find test (tabulate f a n) ≡ 0
      unfolding find tabulate
      find_none a zero h = refl
      find_none a (suc n) h = rw (h a (omega arith) (omega arith), find_none (suc a) n (λ i x y. h i (omega arith) (omega arith)))

      -- j places on from a is the first that passes
      find_on : (a n j : ℕ) → j < n → test (f (a + j)) ≡ true → ((i : ℕ) → a ≤ i → i < a + j → test (f i) ≡ false) → find test (tabulate f a n) ≡ suc j
      unfolding find tabulate
      find_on a zero j l e h = absurd (omega arith)
      find_on a (suc n) zero l e h = rw (ap (λ (i : ℕ). test (f i)) (let z : a ≡ a + 0 = omega arith in z) ∙ e)
      find_on a (suc n) (suc j) l e h =
          rw (
            h a (omega arith) (omega arith),
            find_on (suc a) n j (omega arith) (ap (λ (i : ℕ). test (f i)) (let z : suc a + j ≡ a + suc j = omega arith in z) ∙ e)
                (λ i x y. h i (omega arith) (omega arith)),
          )

      pub find_first : (n k : ℕ) → 1 ≤ k → k ≤ n → test (f k) ≡ true → ((i : ℕ) → 1 ≤ i → i < k → test (f i) ≡ false) → find test (tabulate f 1 n) ≡ k
      find_first n zero r l e h = absurd (omega arith)
      find_first n (suc j) r l e h =
          find_on 1 n j l (ap (λ (i : ℕ). test (f i)) (let z : 1 + j ≡ suc j = omega arith in z) ∙ e) (λ i x y. h i x (omega arith))
