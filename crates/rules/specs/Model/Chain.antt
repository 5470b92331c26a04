-- Parts of the chain check, as the code goes; its walk is in specs/Walk.antt.
-- Assumes nothing.
use Rattle.std.specs.Prelude.{ℕ, ◌^◌, Bool, ◌&&◌, ◌||◌, not, eqb, leb, ltb}
use Rattle.std.specs.Int.Bits.{bit_or}
use Rattle.reference.specs.Lists.{choose, in_range, each}
use Rattle.state.specs.declared.Thread.{Thread}
use Rattle.rules.specs.Walk.{has_bit}

-- the number with bit k set, where 64 bits have it
unfoldable pub with_bit : ℕ → ℕ → ℕ
with_bit met k = choose (ltb k 64) (bit_or met (2 ^ k)) met

-- the thread is placed in one of the queues
abbrev pub queued : Thread → Bool
queued x = eqb x.status 1 && leb x.holder 8 || eqb x.status 2 && in_range 1 8 x.holder

-- none of the threads 1 to t that are placed in a queue is missed
abbrev pub none_missed : (ℕ → Thread) → ℕ → ℕ → Bool
none_missed thread met t = each (λ k. not (queued (thread k)) || has_bit met k) 1 t
