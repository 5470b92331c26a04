-- A line that a buffer holds, fed byte by byte.
use Prim.Native.Nat.{ℕ, suc, ◌≤◌, ◌<◌}
use native.Mathlib.Omega.{arith}
use native.Mathlib.Numerals.{add-one}
use mathlib.Core.Bool.{Bool, true, false, ◌||◌}
use mathlib.Core.Path.{◌≡◌, refl, sym, ap, ◌∙◌}
use mathlib.Core.List.{List, [], ◌∷◌, ◌++◌, append_assoc}
use lib.Dec.{ltb}
use lib.ListN.{length, get_or, take, drop, set, length-append, length-take, length-drop}
use lib.Seq.{take_all, take-nil, take_at, take-append-le, length-take-le, drop-cons, set_out, set_at}
use borrow.Author.Tests.{lt-ltb, le-ltb, ltb-true, ltb-false}
use Rattle.command.specs.declared.line.Line.{Line}
use Rattle.command.specs.Model.Line.{empty_line, fed}
use Rattle.command.specs.Transcript.{Held}

pub held_none : (bytes : List ℕ) → Held [] bytes empty_line bytes
held_none bytes = record { len = rw take-nil; all = rw take-nil; long = sym (le-ltb (length bytes) 0 (omega arith)) }

-- the buffer keeps its length
pub held-length : (l bytes : List ℕ) (line : Line) (bytes' : List ℕ) → Held l bytes line bytes' → length bytes' ≡ length bytes
held-length l bytes line bytes' h =
    ap length h.all ∙ simp (length-append, length-drop) (omega (arith, h.len, length-take (length bytes) l))

-- one byte more
pub held_more : (l bytes : List ℕ) (line : Line) (bytes' : List ℕ) (b : ℕ) → Held l bytes line bytes'
    → Held (l ++ (b ∷ [])) bytes (fed line (length bytes')) (set bytes' line.len b)
held_more l bytes line bytes' b h = go (ltb (length l) (length bytes)) refl
  where
    n : ℕ
    n = length (l ++ (b ∷ []))

    same : length bytes' ≡ length bytes
    same = held-length l bytes line bytes' h

    go : (t : Bool) → ltb (length l) (length bytes) ≡ t → Held (l ++ (b ∷ [])) bytes (fed line (length bytes')) (set bytes' line.len b)
    go true t =
        let k = ltb-true (length l) (length bytes) t in
        let e = length-append l (b ∷ []) in
        let w : take (length bytes) l ≡ l = take_all (length bytes) l (omega arith) in
        let w' : take (length bytes) (l ++ (b ∷ [])) ≡ l ++ (b ∷ []) = take_all (length bytes) (l ++ (b ∷ [])) (omega arith) in
        let c : line.len ≡ length l = h.len ∙ ap length w in
        let r : line.len < length bytes = omega arith in
        let r' : line.len < length bytes' = omega (arith, same) in
        let a : bytes' ≡ l ++ (get_or bytes line.len 0 ∷ drop (suc line.len) bytes) = h.all ∙ rw (w, drop-cons bytes line.len 0 r) in
        rw (lt-ltb line.len (length bytes') r') (record {
          len = rw w' (omega arith);
          all = rw (w', add-one, a) (set_at l (get_or bytes line.len 0) (drop (suc line.len) bytes) b line.len (sym c) ∙ sym (append_assoc l (b ∷ []) (drop (suc line.len) bytes)));
          long = h.long ∙ le-ltb (length bytes) (length l) (omega arith) ∙ sym (le-ltb (length bytes) n (omega arith));
        })
    go false t =
        let k = ltb-false (length l) (length bytes) t in
        let e = length-append l (b ∷ []) in
        let w : take (length bytes) (l ++ (b ∷ [])) ≡ take (length bytes) l = take-append-le (length bytes) l (b ∷ []) k in
        let c : line.len ≡ length bytes = h.len ∙ length-take-le (length bytes) l k in
        let r : length bytes' ≤ line.len = omega (arith, same) in
        rw (le-ltb line.len (length bytes') r, set_out bytes' line.len b r) (record {
          len = rw w h.len;
          all = rw w h.all;
          long = sym (lt-ltb (length bytes) n (omega arith));
        })

-- what is held is as much of the line as the buffer has room for
pub held_front : (l bytes : List ℕ) (line : Line) (bytes' : List ℕ) → Held l bytes line bytes' → take line.len bytes' ≡ take (length bytes) l
held_front l bytes line bytes' h = ap (take line.len) h.all ∙ take_at (take (length bytes) l) (drop line.len bytes) line.len (sym h.len)

-- whether a line has a byte
pub held-some : (l bytes : List ℕ) (line : Line) (bytes' : List ℕ) → Held l bytes line bytes' → (ltb 0 line.len || line.long) ≡ ltb 0 (length l)
held-some l bytes line bytes' h = go (ltb (length bytes) (length l)) refl
  where
    or_true : (t : Bool) → (t || true) ≡ true
    or_true true = refl
    or_true false = refl

    or_false : (t : Bool) → (t || false) ≡ t
    or_false true = refl
    or_false false = refl

    go : (t : Bool) → ltb (length bytes) (length l) ≡ t → (ltb 0 line.len || line.long) ≡ ltb 0 (length l)
    go true t = let k = ltb-true (length bytes) (length l) t in rw (h.long, t) (or_true (ltb 0 line.len) ∙ sym (lt-ltb 0 (length l) (omega arith)))
    go false t =
        let k = ltb-false (length bytes) (length l) t in
        let c : line.len ≡ length l = h.len ∙ ap length (take_all (length bytes) l k) in
        rw (h.long, t, c) (or_false (ltb 0 (length l)))
