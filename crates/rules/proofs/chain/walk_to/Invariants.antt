-- `rules::chain::walk_to` meets its contract: after q turns, the walk of all queues before q.
-- Assumes nothing.
use Prim.Native.Nat.{ℕ}
use mathlib.Core.Bool.{false}
use mathlib.Core.Path.{◌≡◌}
use lib.ListN.{get_or}
use Rattle.rules.specs.Walk.{Bits, ended, walk_before}
use Rattle.rules.proofs.chain.walk_to.Given as goal

abbrev pub invariant-loop-q : goal.invariant-loop-q
invariant-loop-q g l =
    let w = walk_before (g.T.ThreadTable.thread l.threads) (λ (j : ℕ). get_or l.firsts j 0) l.q in
    (ended w ≡ false) × Bits l.met w.met
