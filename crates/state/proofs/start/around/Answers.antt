-- `state::start::around` meets its contract.
-- Assumes nothing.
use Prim.Native.Nat.{◌-◌}
use native.Mathlib.Omega.{arith}
use native.Mathlib.Nat.{mod-le}
use Rattle.state.proofs.Begun.{around-none, around-alone}
use Rattle.state.proofs.start.around.Goals as goal

pub returns-then-k-eq0 : goal.returns-then-k-eq0
returns-then-k-eq0 c = around-none c.args.p c.args.k c.if-k-eq0.true

pub returns-then-p-eq0 : goal.returns-then-p-eq0
returns-then-p-eq0 c = let a = c.args in around-alone a.p a.k c.if-k-eq0.false c.if-p-eq0.true

pub overflow_add-result : goal.overflow_add-result
overflow_add-result c = let a = c.args in omega (arith, mod-le (a.k - 1) a.p)
