-- The first of a queue, and the i-th of n records, case by case.
-- Assumes nothing.
use Prim.Native.Nat.{ℕ, ◌-◌, ◌≤◌, ◌<◌}
use mathlib.Core.List.{List}
use mathlib.Core.Path.{◌≡◌}
use native.Mathlib.Omega.{arith}
use borrow.Author.Tests.{eq-eqb, ne_eqb, le-leb, lt-leb}
use Rattle.picture.specs.Picture.{byte, one_of, from_record, first_read}
use Rattle.reference.proofs.Tests.{true_range}

-- the first of a queue by its number
module _ (ready : ℕ) (ps : List ℕ) (p : ℕ) (ms : List ℕ) (m q : ℕ) where
  pub first-single : q ≡ 0 → first_read ready ps p ms m q ≡ ready
  first-single e = rw (eq-eqb q 0 e)

  pub first_mutex : (q ≡ 0 → ⊥) → q ≤ 8 → first_read ready ps p ms m q ≡ one_of m q (byte (from_record 8 ms q) 1) 0
  first_mutex n l = rw (ne_eqb q 0 n, le-leb q 8 l)

  pub first-each : 8 < q → first_read ready ps p ms m q ≡ one_of p (q - 8) (byte (from_record 12 ps (q - 8)) 11) 0
  first-each l = rw (ne_eqb q 0 (omega arith), lt-leb q 8 l)

-- the i-th of n, where there is one and where there is none
module _ {A : Type 0} (n i : ℕ) (x z : A) where
  pub one_there : 1 ≤ i → i ≤ n → one_of n i x z ≡ x
  one_there h l = rw (true_range 1 n i h l)
