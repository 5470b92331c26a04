-- With one processor both choices of ready queues (document 02, No. 13) lead to the same states, but for the choice itself.
-- Assumes nothing.
use Rattle.std.specs.Prelude.{ℕ, List, ◌≡◌, eqb, set}
use Rattle.reference.specs.Lists.{choose}
use Rattle.reference.specs.State.{State}
use Rattle.reference.specs.Start.{Config, config_cause, start}
use Rattle.reference.specs.Step.{Move, run}
use Rattle.reference.specs.Cause.{cause}
use Rattle.reference.specs.Picture.{Entry, entry, thread_entry, header_bytes, processor_record}

-- a configuration, and a state, with choice n
abbrev pub choosing : ℕ → Config → Config
choosing n c = record { P = c.P; T = c.T; M = c.M; B = c.B; stealing = n }

abbrev pub with_stealing : ℕ → State → State
with_stealing n s =
    record {
      P = s.P;
      T = s.T;
      M = s.M;
      stealing = n;
      ready = s.ready;
      processors = s.processors;
      mutexes = s.mutexes;
      lives = s.lives;
      applied = s.applied;
    }

-- a thread's entry, but for the queue that a ready thread's names
abbrev pub unnamed : Entry → Entry
unnamed e = entry e.status (choose (eqb e.status 1) 0 e.holder) e.next

-- one list of moves from one configuration with either choice
module _ (c : Config) (ms : List Move) where
  abbrev pub ending : ℕ → State
  ending n = run (start (choosing n c)) ms

  pub record Alike : Type 0 where
    pub starts : config_cause (choosing 1 c) ≡ config_cause (choosing 0 c)
    -- the next move is answered alike,
    pub causes : (a : Move) → cause (ending 1) a ≡ cause (ending 0) a
    -- the states differ in the choice and in nothing else,
    pub states : ending 1 ≡ with_stealing 1 (ending 0)
    -- and their pictures, record by record, in header bytes 3 and 7, in the processor's byte 11 and in the queue that a ready thread's record names
    pub header : set (set (header_bytes (ending 1)) 3 0) 7 0 ≡ set (set (header_bytes (ending 0)) 3 0) 7 0
    pub processor : set (processor_record (ending 1) 1) 11 0 ≡ set (processor_record (ending 0) 1) 11 0
    pub mutexes : (ending 1).mutexes ≡ (ending 0).mutexes
    pub threads : (k : ℕ) → unnamed (thread_entry (ending 1) k) ≡ unnamed (thread_entry (ending 0) k)
