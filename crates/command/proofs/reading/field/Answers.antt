-- `command::reading::field` meets its contract.
use mathlib.Core.Path.{sym}
use native.Mathlib.Omega.{arith}
use Rattle.command.proofs.Fields.{number_small}
use Rattle.command.proofs.reading.field.Goals as goal

pub overflow_cast-result : goal.overflow_cast-result
overflow_cast-result c = omega (arith, number_small 255 c.args.s.now _ (sym c.in_ok-value.ensures))
