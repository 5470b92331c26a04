-- `step::moves::on_ring` meets its contract.
-- Assumes nothing.
use native.Mathlib.Omega.{arith}
use Rattle.step.proofs.Ring.{on_ring_tests, on_ring-within, on_ring_past}
use Rattle.step.proofs.moves.on_ring.Goals as goal

pub overflow_add-i : goal.overflow_add-i
overflow_add-i c =
    let a = c.args in
    let e = rw (c.in_range.ensures, c.in_range-2.ensures) at c.if-there.true in
    omega (arith, on_ring_tests a.n a.p a.l e)

pub overflow_add-result : goal.overflow_add-result
overflow_add-result c =
    let a = c.args in
    let e = rw (c.in_range.ensures, c.in_range-2.ensures) at c.if-there.true in
    omega (arith, on_ring_tests a.n a.p a.l e)

pub overflow_add-result-else-i-n : goal.overflow_add-result-else-i-n
overflow_add-result-else-i-n c =
    let a = c.args in
    let e = rw (c.in_range.ensures, c.in_range-2.ensures) at c.if-there.true in
    omega (arith, on_ring_tests a.n a.p a.l e)

pub returns-then-i-n : goal.returns-then-i-n
returns-then-i-n c =
    let a = c.args in
    let e = rw (c.in_range.ensures, c.in_range-2.ensures) at c.if-there.true in
    on_ring-within a.n a.p a.l e c.if-i-n.true

pub returns-else-i-n : goal.returns-else-i-n
returns-else-i-n c =
    let a = c.args in
    let e = rw (c.in_range.ensures, c.in_range-2.ensures) at c.if-there.true in
    on_ring_past a.n a.p a.l e (omega arith)

pub returns : goal.returns
returns c = rw (← c.in_range.ensures, ← c.in_range-2.ensures, c.if-there.false)
