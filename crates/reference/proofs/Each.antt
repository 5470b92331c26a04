-- Laws of `each`: one more at the end, what it says of each number, and a test that goes less far.
-- Assumes nothing.
use Prim.Native.Nat.{ℕ, zero, suc, ◌+◌, ◌≤◌, ◌<◌}
use mathlib.Core.Path.{◌≡◌, refl, sym, ap, ◌∙◌}
use mathlib.Core.Bool.{Bool, true, false, ◌&&◌, ◌||◌, and_assoc}
use native.Mathlib.Decide.{dec_le}
use native.Mathlib.Omega.{arith}
use native.Mathlib.Numerals.{add-one}
use lib.Dec.{ltb}
use borrow.Author.Tests.{le-ltb, lt-ltb}
use Rattle.reference.proofs.Tests.{both, both_left, both_right}
use Rattle.reference.specs.Lists.{each}

module _ (test : ℕ → Bool) where
  pub each_none : (lo : ℕ) → each test lo 0 ≡ true
  unfolding each
  each_none lo = refl

  last : (lo n k : ℕ) → k ≡ lo + n → each test lo (suc n) ≡ each test lo n && test k
  unfolding each
  last lo zero k e = let h : lo ≡ k = omega arith in rw h (go (test k))
    where
      go : (b : Bool) → b && true ≡ b
      go true = refl
      go false = refl
  last lo (suc n) k e = ap (λ (b : Bool). test lo && b) (last (suc lo) n k (omega arith)) ∙ sym (and_assoc (test lo) (each test (suc lo) n) (test k))

  -- one turn of a loop that counts up, from 1 and from 0
  pub each_next : (i : ℕ) (ok b : Bool) → ok ≡ each test 1 i → b ≡ test (i + 1) → ok && b ≡ each test 1 (i + 1)
  each_next i ok b e h = rw (e, h, add-one) (sym (last 1 i (suc i) (omega arith)))

  pub each_next₀ : (i : ℕ) (ok b : Bool) → ok ≡ each test 0 i → b ≡ test i → ok && b ≡ each test 0 (i + 1)
  each_next₀ i ok b e h = rw (e, h, add-one) (sym (last 0 i i (omega arith)))

  -- one turn of a loop that counts up from lo
  pub each_more : (lo i : ℕ) (ok b : Bool) → ok ≡ each test lo i → b ≡ test (lo + i) → ok && b ≡ each test lo (i + 1)
  each_more lo i ok b e h = rw (e, h, add-one) (sym (last lo i (lo + i) refl))

  pub each-end : (lo i n : ℕ) (ok : Bool) → ok ≡ each test lo i → i ≡ n → ok ≡ each test lo n
  each-end lo i n ok e h = rw (← h) e

  pub each_at : (lo n : ℕ) → each test lo n ≡ true → (k : ℕ) → lo ≤ k → k < lo + n → test k ≡ true
  unfolding each
  each_at lo zero e k h g = absurd (omega arith)
  each_at lo (suc n) e k h g = go (dec_le (suc lo) k) (each_at (suc lo) n (both_right (test lo) (each test (suc lo) n) e) k)
    where
      go : Dec (suc lo ≤ k) → (suc lo ≤ k → k < suc lo + n → test k ≡ true) → test k ≡ true
      go (yes p) rest = rest p (omega arith)
      go (no p) rest = let s : lo ≡ k = omega arith in rw s at (both_left (test lo) (each test (suc lo) n) e)

  pub each_all : (lo n : ℕ) → ((k : ℕ) → lo ≤ k → k < lo + n → test k ≡ true) → each test lo n ≡ true
  unfolding each
  each_all lo zero f = refl
  each_all lo (suc n) f = both (f lo (omega arith) (omega arith)) (each_all (suc lo) n (λ k h g. f k (omega arith) (omega arith)))

-- two tests that agree from `lo` on
pub each_agree : (f g : ℕ → Bool) (lo n : ℕ) → ((k : ℕ) → lo ≤ k → f k ≡ g k) → each f lo n ≡ each g lo n
unfolding each
each_agree f g lo zero h = refl
each_agree f g lo (suc n) h = rw (h lo (omega arith), each_agree f g (suc lo) n (λ k l. h k (omega arith)))

-- a test of the numbers 1 to m, asked of 1 to n
pub each_within : (test : ℕ → Bool) (m n : ℕ) → m ≤ n → each (λ i. ltb m i || test i) 1 n ≡ each test 1 m
each_within test m n h =
    same_truth _ _
    (λ e. each_all test 1 m (λ k l g. within k (each_at (λ i. ltb m i || test i) 1 n e k l (omega arith)) (omega arith)))
    (λ e. each_all (λ i. ltb m i || test i) 1 n (λ k l g. past k l e (dec_le k m)))
  where
    same_truth : (a b : Bool) → (a ≡ true → b ≡ true) → (b ≡ true → a ≡ true) → a ≡ b
    same_truth true b f g = sym (f refl)
    same_truth false true f g = g refl
    same_truth false false f g = refl

    within : (k : ℕ) → ltb m k || test k ≡ true → k ≤ m → test k ≡ true
    within k e l = rw (le-ltb m k l) at e

    past : (k : ℕ) → 1 ≤ k → each test 1 m ≡ true → Dec (k ≤ m) → ltb m k || test k ≡ true
    past k l e (yes x) = rw (le-ltb m k x) (each_at test 1 m e k l (omega arith))
    past k l e (no x) = rw (lt-ltb m k (omega arith))
