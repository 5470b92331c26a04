-- `ahead::waiting::before` meets its contract.
-- Assumes nothing.
use mathlib.Core.Path.{◌≡◌}
use Prim.Native.Nat.{◌+◌, ◌-◌}
use Rattle.state.specs.Record.{thread_in, chain}
use Rattle.overtaking.specs.Ahead.{before}
use Rattle.ahead.proofs.waiting.before.Given as goal

abbrev pub invariant-loop-n : goal.invariant-loop-n
invariant-loop-n l = l.n + before l.thread (chain (thread_in l.threads) (32 - l.n) l.k) ≡ before l.thread (chain (thread_in l.threads) 32 l.first)
