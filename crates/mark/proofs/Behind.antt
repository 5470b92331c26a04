-- The records and the bytes behind the header: where each lies, and that all agree exactly if all these bytes do.
-- Assumes nothing.
use Prim.Native.Nat.{ℕ, zero, suc, ◌+◌, ◌-◌, ◌*◌, ◌≤◌, ◌<◌}
use mathlib.Core.Bool.{true}
use mathlib.Core.List.{List, [], ◌∷◌, ◌++◌}
use mathlib.Core.Path.{◌≡◌, ap, sym, ◌∙◌}
use native.Mathlib.Decide.{dec_lt}
use native.Mathlib.Omega.{arith}
use lib.ListN.{length, drop, get_or, length-drop}
use lib.Seq.{get_or-drop, ext_get_or}
use borrow.Author.Tests.{eqb-true, eq-eqb}
use Rattle.picture.specs.Picture.{byte}
use Rattle.reference.specs.Picture.{mutexes_at, threads_at, picture_bytes}
use Rattle.reference.proofs.Each.{each_at, each_all}
use Rattle.mark.specs.Mark.{Row, rows, all_rows, agrees}
use Rattle.mark.specs.Laws.{Every}
use Rattle.mark.proofs.Rows.{same_byte}

-- ---- what each record has

module _ (P : Row → Type 0) where
  every_append : (l m : List Row) → Every P l → Every P m → Every P (l ++ m)
  unfolding Every
  every_append [] m e f = f
  every_append (r ∷ l) m e f = (e.0, every_append l m e.1 f)

  every_parts : (l m : List Row) → Every P (l ++ m) → Every P l × Every P m
  unfolding Every
  every_parts [] m e = (tt, e)
  every_parts (r ∷ l) m e = let f = every_parts l m e.1 in ((e.0, f.0), f.1)

  module _ (p t m : ℕ) where
    every-all : Every P (rows 8 12 5 p) → Every P (rows (mutexes_at p) 8 3 m) → Every P (rows (threads_at p m) 4 2 t) → Every P (all_rows p t m)
    unfolding all_rows
    every-all e f g = every_append _ (rows (threads_at p m) 4 2 t) (every_append (rows 8 12 5 p) (rows (mutexes_at p) 8 3 m) e f) g

    every-kind : Every P (all_rows p t m) → Every P (rows 8 12 5 p) × Every P (rows (mutexes_at p) 8 3 m) × Every P (rows (threads_at p m) 4 2 t)
    unfolding all_rows
    every-kind e =
        let f = every_parts (rows 8 12 5 p ++ rows (mutexes_at p) 8 3 m) (rows (threads_at p m) 4 2 t) e in
        let g = every_parts (rows 8 12 5 p) (rows (mutexes_at p) 8 3 m) f.0 in
        (g.0, g.1, f.1)

pub every_map : (P Q : Row → Type 0) → ((r : Row) → P r → Q r) → (l : List Row) → Every P l → Every Q l
unfolding Every
every_map P Q f [] e = tt
every_map P Q f (r ∷ l) e = (f r e.0, every_map P Q f l e.1)

-- it earns points, and begins behind the header
abbrev pub Placed : Row → Type 0
Placed r = (0 < r.points) × (8 ≤ r.at)

rows-placed : (at w k n : ℕ) → 0 < k → 8 ≤ at → Every Placed (rows at w k n)
unfolding rows Every
rows-placed at w k zero h g = tt
rows-placed at w k (suc n) h g = ((h, g), rows-placed (at + w) w k n h (omega arith))

pub all_placed : (p t m : ℕ) → Every Placed (all_rows p t m)
all_placed p t m =
    every-all Placed p t m (rows-placed 8 12 5 p (omega arith) (omega arith)) (rows-placed (mutexes_at p) 8 3 m (omega arith) (omega arith))
    (rows-placed (threads_at p m) 4 2 t (omega arith) (omega arith))

-- ---- records that agree, and bytes

module _ (b c : List ℕ) where
  -- the same from lo to hi
  abbrev pub Same : ℕ → ℕ → Type 0
  Same lo hi = (i : ℕ) → lo ≤ i → i < hi → byte b i ≡ byte c i

  abbrev pub Agrees : Row → Type 0
  Agrees r = agrees b c r ≡ true

  agrees-same : (r : Row) → Agrees r → Same r.at (r.at + r.width)
  unfolding agrees
  agrees-same r e i x y = eqb-true (byte b i) (byte c i) (each_at (same_byte b c) r.at r.width e i x y)

  same-agrees : (r : Row) → Same r.at (r.at + r.width) → Agrees r
  unfolding agrees
  same-agrees r s = each_all (same_byte b c) r.at r.width (λ i x y. eq-eqb (byte b i) (byte c i) (s i x y))

  rows_same : (at w k n : ℕ) → Every Agrees (rows at w k n) → Same at (at + w * n)
  unfolding rows Every
  rows_same at w k zero e i x y = absurd (omega arith)
  rows_same at w k (suc n) e i x y =
      elim (dec_lt i (at + w)) [ yes z ↦ agrees-same _ e.0 i x z | no z ↦ rows_same (at + w) w k n e.1 i (omega arith) (omega arith) ]

  same_rows : (at w k n : ℕ) → Same at (at + w * n) → Every Agrees (rows at w k n)
  unfolding rows Every
  same_rows at w k zero s = tt
  same_rows at w k (suc n) s =
      (same-agrees _ (λ i x y. s i x (omega arith)), same_rows (at + w) w k n (λ i x y. s i (omega arith) (omega arith)))

  pub all_same : (p t m : ℕ) → Every Agrees (all_rows p t m) → Same 8 (picture_bytes p t m)
  all_same p t m e i x y =
      let f = every-kind Agrees p t m e in
      elim (dec_lt i (mutexes_at p)) [
        | yes z ↦ rows_same 8 12 5 p f.0 i x z
        | no z ↦ elim (dec_lt i (threads_at p m)) [ yes u ↦ rows_same (mutexes_at p) 8 3 m f.1 i (omega arith) u | no u ↦ rows_same (threads_at p m) 4 2 t f.2 i (omega arith) y ]
      ]

  pub same-all : (p t m : ℕ) → Same 8 (picture_bytes p t m) → Every Agrees (all_rows p t m)
  same-all p t m s =
      every-all Agrees p t m (same_rows 8 12 5 p (λ i x y. s i x (omega arith))) (same_rows (mutexes_at p) 8 3 m (λ i x y. s i (omega arith) (omega arith)))
      (same_rows (threads_at p m) 4 2 t (λ i x y. s i (omega arith) y))

  -- ---- without their headers

  pub dropped_same : drop 8 b ≡ drop 8 c → (i : ℕ) → 8 ≤ i → byte b i ≡ byte c i
  dropped_same e i x =
      let h : 8 + (i - 8) ≡ i = omega arith in
      sym (rw h at (get_or-drop 8 b (i - 8) 0)) ∙ ap (λ (l : List ℕ). get_or l (i - 8) 0) e ∙ rw h at (get_or-drop 8 c (i - 8) 0)

  pub same_dropped : length c ≡ length b → Same 8 (length b) → drop 8 b ≡ drop 8 c
  same_dropped l s =
      ext_get_or 0 (drop 8 b) (drop 8 c) (simp length-drop (omega arith))
      (λ i h. get_or-drop 8 b i 0 ∙ s (8 + i) (omega arith) (omega (arith, length-drop 8 b)) ∙ sym (get_or-drop 8 c i 0))
