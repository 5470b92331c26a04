-- `state::queues::queued_in` meets its contract.
-- Assumes nothing.
use native.Mathlib.Omega.{arith}
use borrow.Author.Tests.{le-leb, lt-leb}
use Rattle.state.proofs.queues.queued_in.Goals as goal

pub returns-then-q-gt8 : goal.returns-then-q-gt8
returns-then-q-gt8 c = rw (le-leb 1 c.args.q (omega arith), lt-leb c.args.q 8 (omega arith))

pub returns-then-q-eq0 : goal.returns-then-q-eq0
returns-then-q-eq0 c = rw (lt-leb 1 c.args.q (omega arith), le-leb c.args.q 8 (omega arith))

pub returns-else-q-eq0 : goal.returns-else-q-eq0
returns-else-q-eq0 c = rw (le-leb 1 c.args.q (omega arith), le-leb c.args.q 8 (omega arith))
