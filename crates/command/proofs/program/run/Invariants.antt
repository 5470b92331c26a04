-- `command::program::run` meets its contract.
use mathlib.Core.Bool.{false, true}
use mathlib.Core.Path.{◌≡◌}
use lib.ListN.{length}
use Rattle.command.proofs.Transcript.{SoFar}
use Rattle.command.proofs.program.run.Given as goal

abbrev pub invariant-loop : goal.invariant-loop
invariant-loop g l =
    (length l.bytes ≡ length l.initial.bytes) × (length l.out ≡ length l.initial.out)
    × SoFar g.A.Answering.program (g.A.Answering.context l.initial.program) (g.A.Answering.context l.program) l.input l.chunk l.counter false true
