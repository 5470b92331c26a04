-- `step::moves::run` meets its contract.
use Rattle.step.proofs.InPlace.{Running}
use Rattle.step.proofs.moves.run.Given as goal

abbrev pub invariant-loop-made : goal.invariant-loop-made
invariant-loop-made l = Running l.initial.s l.moves l.initial.calls l.made l.s l.calls
