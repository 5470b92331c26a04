-- Answers that no walk may give: threads noted otherwise, on chains of ready threads.
-- Assumes nothing.
use Prim.Native.Nat.{ℕ}
use mathlib.Core.Path.{sym}
use mathlib.Core.Bool.{Bool, true, false, true≢false}
use Rattle.reference.specs.Lists.{sum, is}
use Rattle.state.specs.declared.Thread.{Thread}
use Rattle.rules.specs.declared.chain.Walked.{Walked}
use Rattle.rules.specs.Walk.{has_bit, along, walk_before, walk_to, Represents}

abbrev answer : ℕ → Bool → Bool → Walked
answer met twice misplaced = record { met = met; twice = twice; misplaced = misplaced }

-- every thread is ready, and `next` behind it
abbrev ready : (ℕ → ℕ) → ℕ → Thread
ready next k = record { status = 1; holder = 0; next = next k }

-- each queue's chain begins with the same thread
abbrev from : ℕ → ℕ → ℕ
from k q = k

-- the bit of the thread before: thread 2 met, bit 1 set
pub bit_of_thread_before : ¬ (Represents (walk_to (ready (from 0)) (from 2) 0 1) (answer 2 false false))
unfolding has_bit walk_before along sum is
bit_of_thread_before t = true≢false (t.bits 1)

-- 32 bits only: thread 32 met, no bit set
pub no_bit_32 : ¬ (Represents (walk_to (ready (from 0)) (from 32) 0 1) (answer 0 false false))
unfolding has_bit walk_before along sum is
no_bit_32 t = true≢false (sym (t.bits 32))

-- noted only after the successor was looked at: thread 1 met, and no bit yet
pub noted_after_successor : ¬ (Represents (walk_to (ready (from 2)) (from 1) 0 1) (answer 0 false false))
unfolding has_bit walk_before along sum is
noted_after_successor t = true≢false (sym (t.bits 1))

-- looked for among earlier queues' threads only: a thread that is its own successor is met again and not found
pub own_chain_unlooked : ¬ (Represents (walk_to (ready (from 1)) (from 1) 0 2) (answer 2 false false))
unfolding has_bit walk_before along sum is
own_chain_unlooked t = true≢false (sym t.twice)

-- bits cleared between two queues: thread 1 stands in queues 0 and 1, and is found misplaced only
pub cleared_between_queues : ¬ (Represents (walk_to (ready (from 0)) (from 1) 1 1) (answer 0 false true))
unfolding has_bit walk_before along sum is
cleared_between_queues t = true≢false (sym t.twice)
