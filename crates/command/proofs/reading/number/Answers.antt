-- `command::reading::number` meets its contract.
use mathlib.Core.Path.{sym}
use Rattle.command.proofs.Fields.{number-within}
use Rattle.command.proofs.reading.number.Goals as goal

pub slice_bounds-result-count : goal.slice_bounds-result-count
slice_bounds-result-count c = number-within c.args.s.now (c.in_ok-value.value, c.in_ok-value.width) (rw (← c.byte.ensures, ← c.byte-2.ensures, ← c.byte-3.ensures, ← c.byte-4.ensures, ← c.byte-5.ensures) (sym c.in_ok-value.ensures))

pub slice_bounds-result-start : goal.slice_bounds-result-start
slice_bounds-result-start c = slice_bounds-result-count c
