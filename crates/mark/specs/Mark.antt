-- No. 12, document 02: the mark of a handed-in picture. `b` is the machine's picture, `c` the candidate's, both as bytes.
-- Assumes nothing.
use Rattle.std.specs.Prelude.{ℕ, zero, suc, ◌+◌, ◌*◌, ◌/◌, Bool, not, List, [], ◌∷◌, ◌++◌, eqb, length, Result, Ok, Err}
use Rattle.state.specs.declared.refusal.Refusal.{Refusal}
use Rattle.state.specs.Refusal.{number}
use Rattle.picture.specs.Picture.{byte, read_refusal, write_refusal}
use Rattle.state.specs.declared.State.{State}
use Rattle.state.specs.Association.{decode}
use Rattle.reference.specs.Refusal.{bad_length, refuse}
use Rattle.reference.specs.Lists.{choose, if_zero, sum, each}
use Rattle.reference.specs.Picture.{picture, mutexes_at, threads_at}

-- ---- the records of a picture

-- a record of a picture: its first byte, how many bytes it has, and the points that it earns
pub record Row : Type 0 where
  pub at : ℕ
  pub width : ℕ
  pub points : ℕ

-- n records of one kind, one behind the other
unfoldable pub rows : ℕ → ℕ → ℕ → ℕ → List Row
rows at width points zero = []
rows at width points (suc n) = record { at = at; width = width; points = points } ∷ rows (at + width) width points n

-- 5 points for a processor's, 3 for a mutex's, 2 for a thread's; the header is none of them
unfoldable pub all_rows : ℕ → ℕ → ℕ → List Row
all_rows p t m = rows 8 12 5 p ++ rows (mutexes_at p) 8 3 m ++ rows (threads_at p m) 4 2 t

-- of the machine's picture: the candidate's header is not looked at
unfoldable pub rows_of : List ℕ → List Row
rows_of b = all_rows (byte b 0) (byte b 1) (byte b 2)

-- ---- the mark

-- all bytes of the record are equal
unfoldable pub agrees : List ℕ → List ℕ → Row → Bool
agrees b c r = each (λ i. eqb (byte b i) (byte c i)) r.at r.width

-- the points of the records that agree
unfoldable pub earned : List ℕ → List ℕ → List Row → ℕ
earned b c l = sum (λ (r : Row). choose (agrees b c r) r.points 0) l

-- the points of all
unfoldable pub possible : List Row → ℕ
possible l = sum (λ (r : Row). r.points) l

-- in hundredths, rounded down: 8,823 is shown as 88.23
unfoldable pub mark : List ℕ → List ℕ → ℕ
mark b c = 10000 * earned b c (rows_of b) / possible (rows_of b)

-- ---- the refusals: the machine's picture by 11 to 14 as reading has them, then the candidate's length

unfoldable pub mark_refusal : List ℕ → List ℕ → ℕ
mark_refusal b c = if_zero (read_refusal b) (refuse (not (eqb (length c) (length b))) bad_length 0) (read_refusal b)

-- 0 or the refusal, and the mark; refused, no mark
pub record Marked : Type 0 where
  pub refusal : ℕ
  pub mark : ℕ

unfoldable pub marked : List ℕ → List ℕ → Marked
marked b c = record { refusal = mark_refusal b c; mark = if_zero (mark_refusal b c) (mark b c) 0 }

-- the same of the code's answer
unfoldable pub marked_of : Result ℕ Refusal → Marked
marked_of (Ok mark) = record { refusal = 0; mark = mark }
marked_of (Err refusal) = record { refusal = number refusal; mark = 0 }

-- as one number: the mark, or 20,000 and the refusal
unfoldable pub answer : List ℕ → List ℕ → ℕ
answer b c = if_zero (mark_refusal b c) (mark b c) (20000 + mark_refusal b c)

-- ---- against the picture of a record's state; no picture is longer than 296 bytes, so a record is refused by 15 only

unfoldable pub state_marked : State → List ℕ → Marked
state_marked r c = if_zero (write_refusal r 296) (marked (picture (decode r)) c) (record { refusal = write_refusal r 296; mark = 0 })
