-- The rows of moves made one after the other on a record.
-- Assumes nothing.
use Rattle.std.specs.Prelude.{ℕ, List, [], ◌∷◌, ◌++◌}
use Rattle.state.specs.declared.State.{State}
use Rattle.step.specs.Model.Moves.{moved_of}
use Rattle.reference.specs.Step.{Move}
use Rattle.chart.specs.Chart.{row}

-- the record after a move
abbrev pub after : State → Move → State
after s a = (moved_of s a.processor a.action a.operand).state

unfoldable pub made_chart : ℕ → State → List Move → List ℕ
made_chart count s [] = []
made_chart count s (a ∷ ms) = row s a (after s a) count ++ made_chart count (after s a) ms
