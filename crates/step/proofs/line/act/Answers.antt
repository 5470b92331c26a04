-- `step::line::act` meets its contract for a call: none looks into the queues.
-- Assumes nothing.
use Rattle.step.specs.Model.Moves.{act_outcome, act_effect, trylock_call}
use Rattle.step.proofs.line.act.Goals as goal

pub returns-in-2 : goal.returns-in-2
unfolding act_outcome act_effect trylock_call
returns-in-2 c = rw (c.keeps-in-2.ensures, c.trylock.ensures, c.in-2.is)
