-- Document 02, No. 13: the ready queues of every state that a session reaches, and which of them a processor works on.
-- Assumes nothing.
use Rattle.std.specs.Prelude.{ℕ, ◌+◌, ◌<◌, true, false, List, ◌≡◌, length}
use Rattle.reference.specs.Lists.{around}
use Rattle.reference.specs.State.{CI2, same_line, processor_at, queues}
use Rattle.reference.specs.Start.{Config}
use Rattle.reference.specs.Step.{Move, works_on}
use Rattle.reference.specs.Safe.{In, end}

module _ (c : Config) (ms : List Move) where
  pub record ReadyQueues : Type 0 where
    -- one for all processors, or one for each
    pub count : length (end c ms).ready ≡ queues c.stealing c.P
    -- a single one is everybody's, and nobody probes
    pub single : (p : ℕ) → In c.P p → c.stealing ≡ 0 → (works_on (end c ms) p ≡ 1) × ((processor_at (end c ms) p).probe ≡ 0)
    -- of one for each, a processor that does not idle works on its own, with probe 0,
    pub own : (p : ℕ) → In c.P p → c.stealing ≡ 1 → same_line (processor_at (end c ms) p).position CI2 ≡ false →
        (works_on (end c ms) p ≡ p) × ((processor_at (end c ms) p).probe ≡ 0)
    -- and one that idles on the one that its probe says, from its own on round the ring
    pub idle : (p : ℕ) → In c.P p → c.stealing ≡ 1 → same_line (processor_at (end c ms) p).position CI2 ≡ true →
        (works_on (end c ms) p ≡ around c.P (p + (processor_at (end c ms) p).probe)) × ((processor_at (end c ms) p).probe < c.P)
