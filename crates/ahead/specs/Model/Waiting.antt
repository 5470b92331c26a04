-- Turns ahead and the mark by a thread's own record and the chain of its mutex.
-- Assumes nothing.
use Rattle.std.specs.Prelude.{ℕ, ◌+◌, Bool, ◌&&◌, ◌||◌, not, eqb, ltb}
use Rattle.state.specs.declared.Processor.{Processor}
use Rattle.state.specs.declared.State.{State}
use Rattle.state.specs.Record.{thread_of, processor_of, mutex_of, first_of, chain}
use Rattle.reference.specs.Lists.{choose, if_zero, each}
use Rattle.overtaking.specs.Ahead.{before}
use Rattle.ahead.specs.Turns.{Ahead, NotWaiting, waiting_for}

-- those before k in the chain of mutex m, and its owner
unfoldable pub chain_turns : State → ℕ → ℕ → ℕ
chain_turns r m k = before k (chain (thread_of r) 32 (first_of r m)) + if_zero (mutex_of r m).owner 0 1

-- a processor at H5, line 18, on mutex m
abbrev pub offering : ℕ → Processor → Bool
offering m x = eqb x.position 18 && eqb x.mutex m

-- the mark of mutex m
unfoldable pub marked : State → ℕ → Bool
marked r m = ltb 0 (mutex_of r m).token.processor || not (each (λ p. not (offering m (processor_of r p))) 1 r.p)

-- the answer about thread k, whose record has its mutex
unfoldable pub chain_answer : State → ℕ → Ahead
chain_answer r k =
    let m = (thread_of r k).holder in
    choose (eqb (thread_of r k).status 2) (waiting_for (marked r m) (chain_turns r m k)) NotWaiting
