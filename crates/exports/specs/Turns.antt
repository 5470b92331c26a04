-- What turns ahead of a thread in a picture answers, as one number.
-- Assumes nothing.
use Rattle.std.specs.Prelude.{ℕ, ◌+◌, not, List}
use Rattle.picture.specs.Picture.{byte, fields, read_refusal}
use Rattle.picture.specs.Turns.{Ahead, Turns, NotWaiting, Refused, turns_ahead}
use Rattle.state.specs.Association.{decode}
use Rattle.reference.specs.Refusal.{bad_operand, refuse}
use Rattle.reference.specs.Lists.{if_zero, in_range}
use Rattle.session.specs.Contract.{or_later}

-- turns as they are, 100 for a thread that is not waiting, 200 and the number of a refusal
abbrev pub number_of : Ahead → ℕ
number_of (Turns n) = n
number_of NotWaiting = 100
number_of (Refused n) = 200 + n

-- the picture's number (11 to 14), then 3: byte 1 of a picture is T
unfoldable pub ahead_refusal : List ℕ → ℕ → ℕ
ahead_refusal b k = or_later (read_refusal b) (refuse (not (in_range 1 (byte b 1) k)) bad_operand 0)

-- turns in the state that the picture shows
unfoldable pub ahead_answer : List ℕ → ℕ → ℕ
ahead_answer b k = number_of (if_zero (ahead_refusal b k) (turns_ahead (decode (fields b)) k) (Refused (ahead_refusal b k)))
