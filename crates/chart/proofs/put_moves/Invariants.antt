-- `chart::put_moves`: what is still to come behind what is there is the whole.
use mathlib.Core.Path.{◌≡◌}
use Rattle.command.specs.Printing.{written}
use Rattle.chart.specs.Model.Made.{made_chart}
use Rattle.chart.proofs.Loops.{moves_left}
use Rattle.chart.proofs.put_moves.Given as goal

abbrev pub invariant-loop-i : goal.invariant-loop-i
invariant-loop-i l =
    written l.page (made_chart l.count l.before (moves_left l.n l.journal l.i)) ≡ written l.initial.page (made_chart l.count l.initial.before (moves_left l.n l.journal 0))
