-- `state::start::first_index` meets its contract.
-- Assumes nothing.
use Prim.Native.Nat.{◌-◌}
use native.Mathlib.Omega.{arith}
use native.Mathlib.Nat.{mod-lt}
use Rattle.reference.proofs.Tests.{range_true}
use Rattle.state.proofs.Begun.{index_each, index_single, index_none}
use Rattle.state.proofs.start.first_index.Goals as goal

pub overflow_add-result : goal.overflow_add-result
overflow_add-result c =
    let a = c.args in
    let r = range_true 1 8 a.p c.if-there.true in
    omega (arith, c.around.ensures, r, mod-lt (a.k - 1) {m = a.p} r.0)

pub returns-then-stealing-ne0 : goal.returns-then-stealing-ne0
returns-then-stealing-ne0 c =
    let a = c.args in
    rw c.around.ensures (index_each a.p a.stealing a.k c.if-there.true c.if-stealing-ne0.true)

pub returns-else-stealing-ne0 : goal.returns-else-stealing-ne0
returns-else-stealing-ne0 c = let a = c.args in index_single a.p a.stealing a.k c.if-stealing-ne0.false

pub returns-else-there : goal.returns-else-there
returns-else-there c = let a = c.args in index_none a.p a.stealing a.k c.if-there.false
