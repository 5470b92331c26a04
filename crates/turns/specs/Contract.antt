-- Document 02, No. 7: what a scripted start, a turn and a class answer, on all inputs: the equations that their contracts state.
-- `r` is the record, `j` the journal lent, `x` the scripts.
-- Assumes nothing.
use Rattle.std.specs.Prelude.{ℕ, not, List, eqb, length}
use Rattle.state.specs.declared.Session.{Session}
use Rattle.state.specs.Record.{zero_session}
use Rattle.state.specs.Association.{session_record}
use Rattle.session.specs.Contract.{Answer, MoveAnswer, shown, config_of, answered, or_later, lent_refusal, standing, matches, test_refusal, progress_in, move_refusal, move_answered, moved, journal_after}
use Rattle.reference.specs.Refusal.{too_short, bad_journal, refuse}
use Rattle.reference.specs.Lists.{choose, with_front}
use Rattle.reference.specs.Start.{Config, config_cause, start}
use Rattle.reference.specs.Step.{Move}
use Rattle.reference.specs.Touch.{touch}
use Rattle.reference.specs.Script.{scripts_cause, turn_move, class_moves, class_answers, class_pictures}
use Rattle.reference.specs.Session.{bytes, state_of, lacks_room}

-- ---- scripted start: 1, 19; refused, an all-zero record

unfoldable pub scripted : Config → List ℕ → Answer
scripted c x = answered (or_later (config_cause c) (scripts_cause c.T x)) (session_record (start c) c.B 0) zero_session

-- ---- turn of processor p: 10, 15 (record), 16, 19, then its move's; refused, the record handed in, nothing touched and the journal as it was

-- its move: a thread's calls are counted in the journal
abbrev pub turn_made : Session → List ℕ → List ℕ → ℕ → Move
turn_made r j x p = turn_move (shown r) (progress_in r j) x p

unfoldable pub turn_refusal : Session → List ℕ → List ℕ → ℕ → ℕ
turn_refusal r j x p = or_later (test_refusal r j) (or_later (scripts_cause r.state.t x) (move_refusal r j (turn_made r j x p)))

unfoldable pub turned : Session → List ℕ → List ℕ → ℕ → MoveAnswer
turned r j x p = move_answered (turn_refusal r j x p) (moved r j (turn_made r j x p)).session r (touch (shown r) (turn_made r j x p))

unfoldable pub turn_journal : Session → List ℕ → List ℕ → ℕ → List ℕ
turn_journal r j x p = choose (eqb (turn_refusal r j x p) 0) (journal_after r j (turn_made r j x p)) j

-- ---- class, turns of the processors ps with buffers for answers and pictures: 10 (journal), 15, 10 (buffers), 16, 19;
-- refused, the record handed in, journal and buffers as they were

module _ (r : Session) (j x ps answers pictures : List ℕ) where
  unfoldable pub class_refusal : ℕ
  class_refusal =
      or_later (lent_refusal r (length j))
      (refuse (lacks_room (config_of r) (length ps) answers pictures) too_short
      (refuse (not (matches r j)) bad_journal (scripts_cause r.state.t x)))

  -- the moves that stand after it
  abbrev pub class_made : List Move
  class_made = class_moves (config_of r) x (standing r j) ps

  -- the moves kept are then those that stand, or where no turn is accepted the same as before
  abbrev pub class_kept : ℕ
  class_kept = choose (eqb (length class_made) (shown r).applied) r.kept (length class_made)

  unfoldable pub classed : Answer
  classed = answered class_refusal (session_record (state_of (config_of r) class_made) r.initial class_kept) r

  unfoldable pub class_journal : List ℕ
  class_journal = choose (eqb class_refusal 0) (with_front j (bytes class_made)) j

  unfoldable pub answers_after : List ℕ
  answers_after = choose (eqb class_refusal 0) (with_front answers (class_answers (config_of r) x (standing r j) ps)) answers

  unfoldable pub pictures_after : List ℕ
  pictures_after = choose (eqb class_refusal 0) (with_front pictures (class_pictures (config_of r) x (standing r j) ps)) pictures
