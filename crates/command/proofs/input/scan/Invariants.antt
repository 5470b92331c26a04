-- `command::input::scan` meets its contract.
use mathlib.Core.Path.{◌≡◌}
use lib.ListN.{length}
use Rattle.command.specs.Transcript.{left_of}
use Rattle.command.proofs.Scan.{Scanning}
use Rattle.command.proofs.input.scan.Given as goal

abbrev pub invariant-loop-at : goal.invariant-loop-at
invariant-loop-at l = (length l.bytes ≡ length l.initial.bytes) × Scanning (left_of l.fn.input l.chunk) l.initial.held l.initial.bytes (left_of (record { at = l.at; end = l.end }) l.chunk) l.held l.bytes
