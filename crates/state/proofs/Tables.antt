-- An array made by a function of the index is a table.
-- Assumes nothing.
use Rattle.std.proofs.Common.{ℕ, zero, suc, ◌+◌, ◌<◌, List, ◌∷◌, ◌≡◌, ap₂, ◌∙◌, length, drop}
use Rattle.std.proofs.Math.Seq.{drop-cons}
use Rattle.std.proofs.Math.ListN.{drop_of_length-le}
use Rattle.std.specs.Array.{IsFromFnResult, IsFromFnResultFrom}
use denote.Param.Members.{Mut, Called}
use native.Mathlib.Omega.{arith}
use native.Mathlib.Numerals.{add-one}
use Rattle.reference.specs.Lists.{tabulate}

-- each call answers by the table, whatever the calls before it left of the function, as long as that is `kept`
module _ {F B : Type 0} (g : Mut F (ℕ × Unit {0}) B) (kept : F → Type 0) (t : ℕ → B) (calls : (p q : F) (i : ℕ) (y : B) → kept p → Called g p (i, tt) y q → (y ≡ t i) × kept q) where
  rest : (ys : List B) (n i : ℕ) (f : F) → kept f → i + n ≡ length ys → IsFromFnResultFrom g f ys i n → drop i ys ≡ tabulate t i n
  unfolding tabulate
  rest ys zero i f k e _ = drop_of_length-le ys (omega (arith, e))
  rest ys (suc n) i f k e (q, y, at, called, next) =
      let all = calls f q i y k called in
      let h : i < length ys = omega (arith, e) in
      drop-cons ys i y h ∙ rw (at.1 y) (ap₂ (λ (a : B) (l : List B). a ∷ l) all.0 (rest ys n (suc i) q all.1 (omega (arith, e)) (rw (← add-one i) next)))

  pub table_of : (ys : List B) (n : ℕ) (f : F) → kept f → IsFromFnResult g f ys n → ys ≡ tabulate t 0 n
  table_of ys n f k r = rest ys n 0 f k (omega (arith, r.long)) r.each
