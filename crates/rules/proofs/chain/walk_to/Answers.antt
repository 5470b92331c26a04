-- `rules::chain::walk_to` meets its contract: after q turns, the walk of all queues before q.
-- Assumes nothing.
use Prim.Native.Nat.{ℕ}
use mathlib.Core.Path.{◌≡◌}
use native.Mathlib.Omega.{arith}
use lib.ListN.{get_or}
use Rattle.rules.proofs.Bits.{bits_none}
use Rattle.rules.proofs.Walks.{before-none, represents_on, represents_over, represents_more}
use Rattle.rules.proofs.chain.walk_to.Goals as goal

pub loop-q-init : goal.loop-q-init
loop-q-init g c = (rw before-none, rw before-none bits_none)

pub returns-then-w : goal.returns-then-w
returns-then-w g c =
    let a = c.args in
    let o = c.loop-q in
    represents_over (g.T.ThreadTable.thread a.threads) (λ (j : ℕ). get_or a.firsts.now j 0) o.q a.last a.most _ (omega arith)
    (represents_on _ _ o.q 33 _ _ o.invariant.0 c.at.ensures (c.walk-w.ensures _ o.invariant.1)) c.if-w.true

pub loop-q-preserved : goal.loop-q-preserved
loop-q-preserved g c =
    let a = c.args in
    let o = c.loop-q in
    let m = represents_more (g.T.ThreadTable.thread a.threads) (λ (j : ℕ). get_or a.firsts.now j 0) o.q _
    (represents_on _ _ o.q 33 _ _ o.invariant.0 c.at.ensures (c.walk-w.ensures _ o.invariant.1)) c.if-w.false
    in m

pub returns : goal.returns
returns g c =
    let a = c.args in
    let o = c.loop-q in
    let e : o.q ≡ a.last = omega arith in
    represents_on _ _ a.last a.most _ _ (rw e at o.invariant.0) c.at-2.ensures (c.walk.ensures _ (rw e at o.invariant.1))
