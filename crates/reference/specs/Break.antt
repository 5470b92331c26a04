-- 15 at a step: what the step would make of the record breaks a rule. No session meets it (`unbroken` in Bounds.antt); a record that no session made can.
-- Assumes nothing.
use Rattle.std.specs.Prelude.{ℕ, ◌+◌, Bool, true, false, ◌&&◌, ◌||◌, List, eqb, leb}
use Rattle.reference.specs.Lists.{if_empty}
use Rattle.reference.specs.State.{State, Line, L1, L9, TL3, U1, H5, same_line, processor_at}
use Rattle.reference.specs.Step.{View, Move, action_of, view}
use Rattle.reference.specs.Cause.{is_go}

abbrev pub is_empty : List ℕ → Bool
is_empty q = if_empty q true (λ x rest. false)

-- the count would leave 0 to T + 1, the own sequence number would pass 4,000, or L9 finds an empty queue
abbrev pub line_breaks : ℕ → Line → View → Bool
line_breaks t l v =
    same_line l U1 && eqb v.mutex.count 0 || (same_line l L1 || same_line l TL3) && leb (t + 1) v.mutex.count ||
    same_line l H5 && leb 4000 v.proc.sequence || same_line l L9 && is_empty v.mutex.queue

unfoldable pub step_breaks : State → Move → Bool
step_breaks s a =
    is_go (action_of a.action) &&
    line_breaks s.T (processor_at s a.processor).position (view s a.processor (processor_at s a.processor).mutex)
