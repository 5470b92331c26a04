-- `state::start::first_processors` meets its contract.
-- Assumes nothing.
use Rattle.std.proofs.Common.{◌≡◌, length, take}
use Rattle.reference.specs.Lists.{tabulate}
use Rattle.state.specs.Model.Access.{first_processor}
use Rattle.state.proofs.start.first_processors.Given as goal

abbrev pub invariant-loop-i : goal.invariant-loop-i
invariant-loop-i l = (length l.processors ≡ 9) × (take l.i l.processors ≡ tabulate (first_processor l.p l.b) 0 l.i)
