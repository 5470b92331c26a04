-- `state::queues::ready_queues` meets its contract.
-- Assumes nothing.
use mathlib.Core.Path.{sym}
use Rattle.state.proofs.Branch.{if_some}
use Rattle.state.proofs.queues.ready_queues.Goals as goal

pub returns-else-stealing-eq0 : goal.returns-else-stealing-eq0
returns-else-stealing-eq0 c = sym (if_some c.args.stealing _ _ c.if-stealing-eq0.false)
