-- Rows of bytes one after the other: their length, one more at the end, and writing one more.
-- Assumes nothing.
use Prim.Native.Nat.{ℕ, zero, suc, ◌+◌, ◌*◌, ◌-◌, ◌≤◌, ◌<◌}
use mathlib.Core.Path.{◌≡◌, refl, ap, sym, ◌∙◌}
use mathlib.Core.List.{List, [], ◌++◌, append_assoc, append-nil}
use native.Mathlib.Nat.{suc-mul, mul-le-mul_right}
use native.Mathlib.Numerals.{add-one}
use native.Mathlib.Omega.{arith}
use lib.ListN.{length, take, drop, length-append}
use lib.Seq.{drop_at, drop-drop}
use Rattle.picture.specs.Model.Parts.{over, rows}
use Rattle.picture.proofs.Over.{room, no_room, grow}

pub rows_none : (f : ℕ → List ℕ) (k : ℕ) → rows f k 0 ≡ []
unfolding rows
rows_none f k = refl

pub rows_snoc : (f : ℕ → List ℕ) (k n : ℕ) → rows f k (suc n) ≡ rows f k n ++ f (k + n)
unfolding rows
rows_snoc f k zero = append-nil (f k) ∙ ap f (omega arith)
rows_snoc f k (suc n) = rw (rows_snoc f (suc k) n, append_assoc) (ap (λ (i : ℕ). f k ++ (rows f (suc k) n ++ f i)) (omega arith))

module _ (f : ℕ → List ℕ) (w : ℕ) (wide : (i : ℕ) → length (f i) ≡ w) where
  pub rows-length : (k n : ℕ) → length (rows f k n) ≡ n * w
  unfolding rows
  rows-length k zero = omega arith
  rows-length k (suc n) = rw (length-append, wide, rows-length (suc k) n) (omega arith)

  -- one row more, written into the part that starts at its place
  pub write-row : (b₀ b y : List ℕ) (i at : ℕ) → b ≡ over b₀ (rows f 1 i) → at ≡ i * w → at + w ≤ length b₀
      → y ≡ over (take (length b - at) (drop at b)) (f (i + 1))
      → take at b ++ (y ++ drop (length b - at) (drop at b)) ≡ over b₀ (rows f 1 (i + 1))
  write-row b₀ b y i at e a h g =
      let n : length (rows f 1 i) ≡ at = rows-length 1 i ∙ sym a in
      let s : rows f 1 (i + 1) ≡ rows f 1 i ++ f (i + 1) = rw add-one (rows_snoc f 1 i ∙ ap (λ (k : ℕ). rows f 1 i ++ f k) (omega arith)) in
      rw (g, e, grow b₀ (rows f 1 i) (f (i + 1)) at n (omega (arith, wide (i + 1))), s)

  pub rows_no_room : (b : List ℕ) (n : ℕ) → length b < n * w → b ≡ over b (rows f 1 n)
  rows_no_room b n h = no_room b (rows f 1 n) (omega (arith, rows-length 1 n))

-- the i-th of n rows ends where they end, or before
pub row-room : (w i n : ℕ) → i < n → i * w + w ≤ n * w
row-room w i n h = let e : suc i * w ≡ i * w + w = suc-mul i w in let m : suc i * w ≤ n * w = mul-le-mul_right w (omega arith) in omega (arith, e, m)

-- before the first row
pub rows_start : (f : ℕ → List ℕ) (b : List ℕ) → b ≡ over b (rows f 1 0)
rows_start f b = rw (rows_none f 1, room b [] (omega arith))

pub rows_same : (f g : ℕ → List ℕ) (k n : ℕ) → ((i : ℕ) → k ≤ i → i < k + n → f i ≡ g i) → rows f k n ≡ rows g k n
unfolding rows
rows_same f g k zero h = refl
rows_same f g k (suc n) h = rw (h k (omega arith) (omega arith), rows_same f g (suc k) n (λ i x y. h i (omega arith) (omega arith)))

-- the bytes from the i-th row on begin with that row
pub rows-from : (f : ℕ → List ℕ) (w : ℕ) → ((i : ℕ) → length (f i) ≡ w) → (rest : List ℕ) (k n i : ℕ) → i < n
    → (tail : List ℕ) × (drop (w * i) (rows f k n ++ rest) ≡ f (k + i) ++ tail)
unfolding rows
rows-from f w wide rest k zero i h = absurd (omega arith)
rows-from f w wide rest k (suc n) zero h =
    let a : w * 0 ≡ 0 = omega arith in
    let b : k + 0 ≡ k = omega arith in
    (rows f (suc k) n ++ rest, rw (a, b, append_assoc))
rows-from f w wide rest k (suc n) (suc i) h =
    let t = rows-from f w wide rest (suc k) n i (omega arith) in
    let a : w * suc i ≡ w + w * i = omega arith in
    let b : suc k + i ≡ k + suc i = omega arith in
    (t.0, rw (a, append_assoc, ← drop-drop (w * i) w (f k ++ (rows f (suc k) n ++ rest)), drop_at (f k) (rows f (suc k) n ++ rest) w (wide k)) (t.1 ∙ ap (λ (j : ℕ). f j ++ t.0) b))
