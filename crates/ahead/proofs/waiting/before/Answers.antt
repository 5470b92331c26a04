-- `ahead::waiting::before` meets its contract.
-- Assumes nothing.
use mathlib.Core.Path.{◌≡◌}
use Prim.Native.Nat.{suc, ◌+◌, ◌-◌}
use native.Mathlib.Omega.{arith}
use Rattle.state.specs.Record.{thread_in}
use Rattle.ahead.proofs.Walk.{walk_out, walk_end, walk_here, walk_on}
use Rattle.ahead.proofs.waiting.before.Goals as goal

pub returns-then-k-eq0 : goal.returns-then-k-eq0
returns-then-k-eq0 c =
    let a = c.args in
    let l = c.loop-n in
    omega (arith, l.invariant, walk_end (thread_in a.threads.now) a.thread (32 - l.n) l.k c.if-k-eq0.true)

pub returns-then-k-thread : goal.returns-then-k-thread
returns-then-k-thread c =
    let a = c.args in
    let l = c.loop-n in
    omega (arith, l.invariant, walk_here (thread_in a.threads.now) a.thread (32 - l.n) l.k c.if-k-thread.true)

pub loop-n-preserved : goal.loop-n-preserved
loop-n-preserved c =
    let a = c.args in
    let l = c.loop-n in
    let e : 32 - l.n ≡ suc (32 - (l.n + 1)) = omega arith in
    let w = walk_on (thread_in a.threads.now) a.thread (32 - (l.n + 1)) l.k c.if-k-eq0.false c.if-k-thread.false in
    let i = rw e at l.invariant in
    rw c.at-k.ensures (omega (arith, w, i))

pub returns : goal.returns
returns c =
    let a = c.args in
    let l = c.loop-n in
    let n : l.n ≡ 32 = omega arith in
    let e : 32 - l.n ≡ 0 = omega arith in
    let i = rw e at l.invariant in
    omega (arith, i, walk_out (thread_in a.threads.now) a.thread l.k)
