-- Tables of which the first rows are filled in.
-- Assumes nothing.
use Prim.Native.Nat.{ℕ, zero, suc, ◌+◌}
use mathlib.Core.List.{List, ◌∷◌}
use mathlib.Core.Logic.{◌≢◌}
use mathlib.Core.Path.{◌≡◌, refl, ap, sym, ◌∙◌}
use native.Mathlib.Omega.{arith}
use native.Mathlib.Decide.{dec_le}
use lib.ListN.{set, replicate}
use borrow.Author.Tests.{le-leb, lt-leb}
use Rattle.reference.specs.Lists.{tabulate}
use Rattle.reference.proofs.Tests.{true_range}
use Rattle.state.proofs.Table.{tabulate-same, tabulate-all}
use Rattle.picture.specs.Picture.{one_of}

module _ {A : Type 0} where
  -- a table with one row set, and a table that differs there alone
  pub set-row : (g h : ℕ → A) (a n j : ℕ) (x : A) → h (a + j) ≡ x → ((i : ℕ) → i ≢ a + j → g i ≡ h i) → set (tabulate g a n) j x ≡ tabulate h a n
  unfolding tabulate
  set-row g h a zero j x e o = refl
  set-row g h a (suc n) zero x e o =
      let z : a + 0 ≡ a = omega arith in
      let q : x ≡ h a = sym e ∙ ap h z in
      rw q (ap (λ (l : List A). h a ∷ l) (tabulate-same g h (suc a) n (λ i y w. o i (omega arith))))
  set-row g h a (suc n) (suc j) x e o =
      let z : suc a + j ≡ a + suc j = omega arith in
      rw (o a (omega arith)) (ap (λ (l : List A). h a ∷ l) (set-row g h (suc a) n j x (ap h z ∙ e) (λ i y. o i (omega arith))))

  pub one_none : (j : ℕ) (x z : A) → z ≡ one_of 0 j x z
  one_none zero x z = refl
  one_none (suc j) x z = rw (lt-leb (suc j) 0 (omega arith), le-leb 1 (suc j) (omega arith))

  pub one_new : (i : ℕ) (x z : A) → one_of (i + 1) (i + 1) x z ≡ x
  one_new i x z = rw (true_range 1 (i + 1) (i + 1) (omega arith) (omega arith))

  pub one_old : (i j : ℕ) (x z : A) → j ≢ i + 1 → one_of i j x z ≡ one_of (i + 1) j x z
  one_old i j x z h =
      elim (dec_le j i) [
        | yes y ↦ rw (le-leb j i y, le-leb j (i + 1) (omega arith))
        | no n ↦ rw (lt-leb j i (omega arith), lt-leb j (i + 1) (omega arith))
      ]

  module _ (f : ℕ → A) (z : A) (n : ℕ) where
    pub no_rows : replicate n z ≡ tabulate (λ j. one_of 0 j (f j) z) 0 n
    no_rows = tabulate-all z (λ j. one_of 0 j (f j) z) 0 n (λ j h. one_none j (f j) z)

    pub row_more : (i : ℕ) → set (tabulate (λ j. one_of i j (f j) z) 0 n) (i + 1) (f (i + 1)) ≡ tabulate (λ j. one_of (i + 1) j (f j) z) 0 n
    row_more i =
        let e : 0 + (i + 1) ≡ i + 1 = omega arith in
        set-row (λ j. one_of i j (f j) z) (λ j. one_of (i + 1) j (f j) z) 0 n (i + 1) (f (i + 1)) (rw e (one_new i (f (i + 1)) z)) (λ j h. one_old i j (f j) z (omega arith))
