-- `command::request::fields` meets its contract.
use mathlib.Core.Path.{◌≡◌}
use lib.ListN.{length}
use Rattle.command.proofs.Listed.{Row}
use Rattle.command.proofs.request.fields.Given as goal

abbrev pub invariant-loop-count : goal.invariant-loop-count
invariant-loop-count l = (length l.numbers ≡ length l.initial.numbers) × Row l.line l.initial.numbers l.numbers l.count l.s
