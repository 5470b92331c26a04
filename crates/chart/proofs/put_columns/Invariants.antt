-- `chart::put_columns`: the first i columns are there.
use mathlib.Core.Path.{◌≡◌}
use Rattle.command.specs.Printing.{written}
use Rattle.view.specs.Words.{rows}
use Rattle.chart.specs.Chart.{column_head}
use Rattle.chart.proofs.put_columns.Given as goal

abbrev pub invariant-loop-i : goal.invariant-loop-i
invariant-loop-i l = l.page ≡ written l.initial.page (rows column_head 1 l.i-counter)
