-- `command::hex::pairs` meets its contract.
use mathlib.Core.Path.{◌≡◌}
use lib.ListN.{length}
use Rattle.command.proofs.Digits.{Front}
use Rattle.command.proofs.hex.pairs.Given as goal

abbrev pub invariant-loop-n : goal.invariant-loop-n
invariant-loop-n l = (length l.numbers ≡ length l.initial.numbers) × Front l.s l.initial.numbers l.numbers l.n
