-- The move of a row.
-- Assumes nothing.
use Rattle.reference.specs.Step.{Move, move_of}
use Rattle.chart.specs.declared.row.Row.{Row}

abbrev pub move_in : Row → Move
move_in x = move_of x.p x.a x.o
