-- What a list of moves answers about the words that they touch: a start table, then the moves as bytes, three to a move, then four bytes for each.
-- Assumes nothing.
use Rattle.std.specs.Prelude.{ℕ, ◌*◌, ◌/◌, List, [], ◌∷◌, ◌++◌, ltb, length}
use Rattle.reference.specs.Refusal.{too_short, refuse}
use Rattle.reference.specs.Lists.{if_zero, with_front}
use Rattle.reference.specs.State.{State}
use Rattle.reference.specs.Start.{Config, config_cause, start}
use Rattle.reference.specs.Step.{Move, next}
use Rattle.reference.specs.Touch.{touch}
use Rattle.reference.specs.Session.{moves}
use Rattle.touch.specs.Association.{touch_bytes}
use Rattle.session.specs.Contract.{or_later}
use Rattle.exports.specs.Replay.{whole}

-- the moves in a list of bytes; one or two bytes left over make none
abbrev pub moves_in : List ℕ → List Move
moves_in bytes = moves (length bytes / 3) bytes

-- the bytes of what each move touches in the state before it, one after the other
unfoldable pub words_of : State → List Move → List ℕ
words_of s [] = []
words_of s (a ∷ rest) = touch_bytes (touch s a) ++ words_of (next s a) rest

-- 1, then the number of the first refused move, then 10; `n` is the length of the buffer
unfoldable pub words_number : Config → List ℕ → ℕ → ℕ
words_number c bytes n =
    or_later (config_cause c) (or_later (whole c bytes).refusal (refuse (ltb n (4 * length (moves_in bytes))) too_short 0))

-- the words, followed by the buffer's later bytes; refused, the buffer as it was
unfoldable pub words_written : Config → List ℕ → List ℕ → List ℕ
words_written c bytes buffer = if_zero (words_number c bytes (length buffer)) (with_front buffer (words_of (start c) (moves_in bytes))) buffer
