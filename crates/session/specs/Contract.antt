-- What start, the journal's test, move, going, the last move's words and the journal's front answer, on all inputs: the equations that their contracts state.
-- Assumes nothing.
use Rattle.std.specs.Prelude.{ℕ, suc, ◌+◌, ◌*◌, Bool, not, List, [], ◌∷◌, ◌++◌, eqb, ltb, length, take, drop, replicate, Result, Ok, Err}
use Rattle.std.specs.Borrow.{Bor}
use Rattle.session.specs.declared.Moved.{Moved}
use Rattle.state.specs.declared.Session.{Session}
use Rattle.state.specs.declared.refusal.Refusal.{Refusal}
use Rattle.state.specs.Refusal.{number}
use Rattle.state.specs.Record.{zero_session}
use Rattle.state.specs.Association.{decode, session_record}
use Rattle.state.specs.Rules.{session_ok}
use Rattle.touch.specs.declared.Touch as code
use Rattle.touch.specs.Association.{touch_record}
use Rattle.reference.specs.Refusal.{too_short, bad_record, no_step, bad_journal, refuse}
use Rattle.reference.specs.Lists.{choose, if_zero, tabulate}
use Rattle.reference.specs.State.{State}
use Rattle.reference.specs.Start.{Config, config_cause, start}
use Rattle.reference.specs.Step.{Move, next, run}
use Rattle.reference.specs.Cause.{cause}
use Rattle.reference.specs.Touch.{Touch, nothing, touch, last_touch}
use Rattle.reference.specs.Break.{step_breaks}
use Rattle.reference.specs.Script.{progress}
use Rattle.reference.specs.Session.{bytes, moves, short, replays}

-- the state that a record shows, and the start table read off it
abbrev pub shown : Session → State
shown r = decode r.state

abbrev pub config_of : Session → Config
config_of r = record { P = r.state.p; T = r.state.t; M = r.state.m; B = r.initial; stealing = r.state.stealing }

-- a start table from its numbers
abbrev pub table : ℕ → ℕ → ℕ → ℕ → ℕ → Config
table p t m b stealing = record { P = p; T = t; M = m; B = b; stealing = stealing }

-- what a start, a going or a class answers: the number that refuses it, or 0, and the session's record
pub record Answer : Type 0 where
  pub refusal : ℕ
  pub session : Session

-- what the code's answer means, where a record stands for a refusal
unfoldable pub answer_of : Session → Result Session Refusal → Answer
answer_of other (Ok made) = record { refusal = 0; session = made }
answer_of other (Err refusal) = record { refusal = number refusal; session = other }

-- accepted, a call gives the record that it makes; refused, the one that stands for it
abbrev pub answered : ℕ → Session → Session → Answer
answered n made other = record { refusal = n; session = choose (eqb n 0) made other }

-- ---- start: 1; refused, an all-zero record

unfoldable pub started : Config → Answer
started c = answered (config_cause c) (session_record (start c) c.B 0) zero_session

-- a cause that is there, else the later one
abbrev pub or_later : ℕ → ℕ → ℕ
or_later cause later = if_zero cause later cause

-- 10, 15: the first causes of each call that is lent a journal of n bytes
unfoldable pub lent_refusal : Session → ℕ → ℕ
lent_refusal r n = refuse (short n) too_short (refuse (not (session_ok r)) bad_record 0)

-- ---- the journal's test (document 02, No. 6): 10, 15, 16; and how many calls each thread has made by the journal, 0 where it is refused

-- the journal's standing moves
abbrev pub standing : Session → List ℕ → List Move
standing r j = moves (shown r).applied j

-- they give the record, and the kept ones behind them are accepted
unfoldable pub matches : Session → List ℕ → Bool
matches r j = replays (start (config_of r)) r.kept (shown r).applied j (shown r)

-- the first causes of a move and of a turn
unfoldable pub test_refusal : Session → List ℕ → ℕ
test_refusal r j = or_later (lent_refusal r (length j)) (refuse (not (matches r j)) bad_journal 0)

abbrev pub progress_in : Session → List ℕ → ℕ → ℕ
progress_in r j = progress (start (config_of r)) (standing r j)

-- what the test of a journal finds: the number that refuses it, or 0; and how many calls each thread has made by it
pub record Tested : Type 0 where
  pub refusal : ℕ
  pub calls : List ℕ

unfoldable pub tested_of : Result (List ℕ) Refusal → Tested
tested_of (Ok calls) = record { refusal = 0; calls = calls }
tested_of (Err refusal) = record { refusal = number refusal; calls = replicate 33 0 }

unfoldable pub tested : Session → List ℕ → Tested
tested r j =
    record { refusal = test_refusal r j; calls = if_zero (test_refusal r j) (tabulate (progress_in r j) 0 33) (replicate 33 0) }

-- ---- move: 10, 15 (record), 16, 2, 3, 8, 4 or 5, 6, 7 or 21, 15 (step); refused, the record handed in, nothing touched and the journal as it was

unfoldable pub move_refusal : Session → List ℕ → Move → ℕ
move_refusal r j a = or_later (test_refusal r j) (or_later (cause (shown r) a) (refuse (step_breaks (shown r) a) bad_record 0))

-- what a move or a turn answers: the number that refuses it, or 0, the session's record, and the words that it touched
pub record MoveAnswer : Type 0 where
  pub refusal : ℕ
  pub session : Session
  pub touch : code.Touch

-- what the code's answer means, where a record stands for a refusal, which touches nothing
unfoldable pub move_answer_of : Session → Result Moved Refusal → MoveAnswer
move_answer_of other (Ok made) = record { refusal = 0; session = made.session; touch = made.touch }
move_answer_of other (Err refusal) = record { refusal = number refusal; session = other; touch = touch_record nothing }

-- accepted, a move gives the record that it makes and the words that it touches; refused, the one that stands for it and none
abbrev pub move_answered : ℕ → Session → Session → Touch → MoveAnswer
move_answered n made other t = record { refusal = n; session = choose (eqb n 0) made other; touch = touch_record (choose (eqb n 0) t nothing) }

-- the moves kept are then those that stand
unfoldable pub moved : Session → List ℕ → Move → MoveAnswer
moved r j a = move_answered (move_refusal r j a) (session_record (next (shown r) a) r.initial (suc (shown r).applied)) r (touch (shown r) a)

-- the journal with the move at 3n, every other byte as it was
unfoldable pub written_at : ℕ → Move → List ℕ → List ℕ
written_at n a j = take (3 * n) j ++ bytes (a ∷ []) ++ drop (3 * n + 3) j

unfoldable pub journal_after : Session → List ℕ → Move → List ℕ
journal_after r j a = choose (eqb (move_refusal r j a) 0) (written_at (shown r).applied a j) j

-- ---- going to step k: 10, 15, 9, 16; refused, the record handed in. The journal is left.

unfoldable pub goto_refusal : Session → List ℕ → ℕ → ℕ
goto_refusal r j k =
    or_later (lent_refusal r (length j))
    (refuse (ltb r.kept k) no_step
    (refuse (not (matches r j)) bad_journal 0))

-- the state of the first k kept moves; as many are kept as before
unfoldable pub went : Session → List ℕ → ℕ → Answer
went r j k = answered (goto_refusal r j k) (session_record (run (start (config_of r)) (moves k j)) r.initial r.kept) r

-- ---- what the last standing move touched: nothing where the journal's test refuses or no move stands

unfoldable pub last_touched : Session → List ℕ → code.Touch
last_touched r j = touch_record (choose (eqb (test_refusal r j) 0) (last_touch (start (config_of r)) (standing r j)) nothing)

-- ---- the journal's front: 10, 15; refused, its empty front

-- what the code's answer means
unfoldable pub front_of : Result (Bor (List ℕ)) Refusal → List ℕ
front_of (Ok bytes) = bytes.now
front_of (Err refusal) = []

unfoldable pub front : Session → List ℕ → List ℕ
front r j = choose (eqb (lent_refusal r (length j)) 0) (take (3 * (shown r).applied) j) []
