-- `command::input::next_line` meets its contract.
use mathlib.Core.Path.{◌≡◌}
use lib.ListN.{length}
use Rattle.command.proofs.Scan.{Reading}
use Rattle.command.proofs.input.next_line.Given as goal

abbrev pub invariant-loop : goal.invariant-loop
invariant-loop l = (length l.chunk ≡ length l.fn.chunk) × (length l.bytes ≡ length l.fn.bytes) × Reading l.fn.input l.fn.chunk l.fn.bytes l.next l.chunk l.bytes l.counter
