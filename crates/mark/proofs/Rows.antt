-- The points of records: one more, those of two lists, and that no more are earned than there are.
-- Assumes nothing.
use Rattle.std.proofs.Common.{nat_eq, length, take, drop}
use Rattle.std.specs.Cmp.Lexicographic.{pointwise}
use Rattle.std.proofs.Math.Seq.{drop-cons}
use Prim.Native.Nat.{ℕ, zero, suc, ◌+◌, ◌-◌, ◌*◌, ◌/◌, ◌≤◌, ◌<◌}
use mathlib.Core.Bool.{Bool, true, false}
use mathlib.Core.List.{List, [], ◌∷◌, ◌++◌}
use mathlib.Core.Path.{◌≡◌, refl, ◌∙◌}
use native.Mathlib.Nat.{div-le_of_le-mul}
use native.Mathlib.Omega.{arith}
use lib.Dec.{eqb}
use Rattle.picture.specs.Picture.{byte}
use Rattle.reference.specs.Lists.{choose, sum, each}
use Rattle.reference.specs.Picture.{mutexes_at, threads_at}
use Rattle.mark.specs.Mark.{Row, rows, all_rows, agrees, earned, possible}

-- byte i is the same in both
abbrev pub same_byte : List ℕ → List ℕ → ℕ → Bool
same_byte b c i = eqb (byte b i) (byte c i)

-- two slices are the same exactly if each byte is
pub same_slices : (b c : List ℕ) (at w : ℕ) → at + w ≤ length b → at + w ≤ length c → pointwise nat_eq (take w (drop at b)) (take w (drop at c)) ≡ each (same_byte b c) at w
unfolding each
same_slices b c at zero h g = refl
same_slices b c at (suc w) h g = rw (drop-cons b at 0 (omega arith), drop-cons c at 0 (omega arith), same_slices b c (suc at) w (omega arith) (omega arith))

-- ---- records of one kind

pub times_turn : (w n : ℕ) → 0 < n → w * n ≡ w + w * (n - 1)
times_turn w zero h = absurd (omega arith)
times_turn w (suc n) h = let e : suc n - 1 ≡ n = omega arith in rw e (omega arith)

pub possible-rows : (at w k n : ℕ) → possible (rows at w k n) ≡ k * n
unfolding possible rows sum
possible-rows at w k zero = omega arith
possible-rows at w k (suc n) = omega (arith, possible-rows (at + w) w k n)

module _ (b c : List ℕ) where
  -- the first of them, then the others
  pub earned-turn : (at w k n : ℕ) → 0 < n →
      earned b c (rows at w k n) ≡ choose (agrees b c (record { at = at; width = w; points = 0 })) k 0 + earned b c (rows (at + w) w k (n - 1))
  unfolding earned rows sum agrees
  earned-turn at w k zero h = absurd (omega arith)
  earned-turn at w k (suc n) h = let e : suc n - 1 ≡ n = omega arith in rw e

  pub earned-none : (at w k : ℕ) → earned b c (rows at w k 0) ≡ 0
  unfolding earned rows sum
  earned-none at w k = refl

  pub earned-most : (l : List Row) → earned b c l ≤ possible l
  unfolding earned possible sum
  earned-most [] = omega arith
  earned-most (r ∷ l) = omega (arith, choose-most (agrees b c r) r.points, earned-most l)
    where
      choose-most : (t : Bool) (n : ℕ) → choose t n 0 ≤ n
      choose-most true n = omega arith
      choose-most false n = omega arith

  pub earned-rows-most : (at w k n : ℕ) → earned b c (rows at w k n) ≤ k * n
  earned-rows-most at w k n = omega (arith, earned-most (rows at w k n), possible-rows at w k n)

-- ---- all records

sum_append : {A : Type 0} (f : A → ℕ) (l m : List A) → sum f (l ++ m) ≡ sum f l + sum f m
unfolding sum
sum_append f [] m = omega arith
sum_append f (x ∷ l) m = omega (arith, sum_append f l m)

-- what three kinds weigh together
sum-all : (f : Row → ℕ) (p t m : ℕ) → sum f (all_rows p t m) ≡ sum f (rows 8 12 5 p) + sum f (rows (mutexes_at p) 8 3 m) + sum f (rows (threads_at p m) 4 2 t)
unfolding all_rows
sum-all f p t m =
    sum_append f (rows 8 12 5 p ++ rows (mutexes_at p) 8 3 m) (rows (threads_at p m) 4 2 t) ∙
    omega (arith, sum_append f (rows 8 12 5 p) (rows (mutexes_at p) 8 3 m))

pub earned-all : (b c : List ℕ) (p t m : ℕ) → earned b c (all_rows p t m) ≡ earned b c (rows 8 12 5 p) + earned b c (rows (mutexes_at p) 8 3 m) + earned b c (rows (threads_at p m) 4 2 t)
unfolding earned
earned-all b c p t m = sum-all _ p t m

pub possible-all : (p t m : ℕ) → possible (all_rows p t m) ≡ 5 * p + 3 * m + 2 * t
unfolding possible
possible-all p t m =
    omega (arith, sum-all (λ (r : Row). r.points) p t m, possible-rows 8 12 5 p, possible-rows (mutexes_at p) 8 3 m, possible-rows (threads_at p m) 4 2 t)

-- ---- the mark

pub share_most : (n e q : ℕ) → n ≡ 10000 * e / q → e ≤ q → n ≤ 10000
share_most n e q h l = rw h (div-le_of_le-mul q {m = 10000 * e} (omega arith))
