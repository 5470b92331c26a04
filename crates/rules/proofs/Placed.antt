-- Only the threads that a record has can be placed in a queue.
-- Assumes nothing.
use Prim.Native.Nat.{ℕ, ◌≤◌, ◌<◌}
use mathlib.Core.Path.{◌≡◌, refl}
use mathlib.Core.Bool.{Bool, true, false, ◌&&◌}
use native.Mathlib.Decide.{dec_lt}
use native.Mathlib.Omega.{arith}
use lib.Dec.{eqb}
use Rattle.reference.specs.Lists.{choose, in_range}
use Rattle.state.specs.declared.Thread.{Thread}
use Rattle.state.specs.Record.{zero_thread}
use Rattle.state.specs.Association.{queued_as}
use Rattle.state.specs.Rules.{placed_in}
use Rattle.rules.proofs.Logic.{never}

unplaced : (q : ℕ) → placed_in zero_thread q ≡ false
unplaced q = go (in_range 1 8 q)
  where
    go : (b : Bool) → eqb 0 (choose b 2 1) && eqb 0 (queued_as q 0).holder ≡ false
    go true = refl
    go false = refl

-- thread k with the record x, where there is none from 33 on
pub placed-small : (x : Thread) (k q : ℕ) → (33 ≤ k → x ≡ zero_thread) → placed_in x q ≡ true → k < 64
placed-small x k q none h =
    elim (dec_lt k 33) [
      | yes l ↦ omega arith
      | no l ↦ let e : x ≡ zero_thread = none (omega arith) in never (placed_in zero_thread q) (unplaced q) (rw e at h)
    ]
