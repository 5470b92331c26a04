-- What the calls on a session's bytes answer, on all inputs: what the entry points answer of the session at their front. `b` is the bytes, `j` the journal lent.
-- Assumes nothing.
use Rattle.std.specs.Prelude.{ℕ, ◌+◌, not, List, ltb, length, Result, Ok, Err}
use Rattle.state.specs.declared.refusal.Refusal.{Refusal}
use Rattle.state.specs.Refusal.{number}
use Rattle.state.specs.Association.{decode}
use Rattle.state.specs.Rules.{session_ok}
use Rattle.reference.specs.Refusal.{too_short, bad_record, refuse}
use Rattle.reference.specs.Lists.{if_zero, with_front}
use Rattle.reference.specs.Start.{Config, config_cause}
use Rattle.reference.specs.Step.{Move}
use Rattle.reference.specs.Picture.{picture}
use Rattle.reference.specs.Session.{picture_size}
use Rattle.picture.specs.Picture.{picture_length}
use Rattle.session.specs.Contract.{started, or_later, lent_refusal, moved, went, front}
use Rattle.turns.specs.Contract.{turned}
use Rattle.stored.specs.Stored.{session_in, bytes_after}

-- ---- start: 1, 10

abbrev pub start_number : Config → ℕ → ℕ
start_number c n = or_later (config_cause c) (refuse (ltb n (picture_size c + 3)) too_short 0)

unfoldable pub start_bytes : Config → List ℕ → List ℕ
start_bytes c b = bytes_after b (start_number c (length b)) (started c).session

-- ---- move, turn, going: the numbers and the journal are the entry points' own

unfoldable pub move_bytes : List ℕ → List ℕ → Move → List ℕ
move_bytes b j a = bytes_after b (moved (session_in b) j a).refusal (moved (session_in b) j a).session

unfoldable pub turn_bytes : List ℕ → List ℕ → List ℕ → ℕ → List ℕ
turn_bytes b j x p = bytes_after b (turned (session_in b) j x p).refusal (turned (session_in b) j x p).session

unfoldable pub goto_bytes : List ℕ → List ℕ → ℕ → List ℕ
goto_bytes b j k = bytes_after b (went (session_in b) j k).refusal (went (session_in b) j k).session

-- ---- picture: 15, 10; the buffer's later bytes are kept, and refused, all of them

abbrev pub picture_number : List ℕ → ℕ → ℕ
picture_number b n = refuse (not (session_ok (session_in b))) bad_record (refuse (ltb n (picture_length (session_in b).state)) too_short 0)

unfoldable pub picture_after : List ℕ → List ℕ → List ℕ
picture_after b buffer = if_zero (picture_number b (length buffer)) (with_front buffer (picture (decode (session_in b).state))) buffer

-- ---- the length of the journal's front, or 20,000 and 10 or 15

unfoldable pub front_number : List ℕ → List ℕ → ℕ
front_number b j =
    let refusal : ℕ = lent_refusal (session_in b) (length j) in
    if_zero refusal (length (front (session_in b) j)) (20000 + refusal)

-- what the code's answer means
unfoldable pub front_shown : Result ℕ Refusal → ℕ
front_shown (Ok n) = n
front_shown (Err refusal) = 20000 + number refusal
