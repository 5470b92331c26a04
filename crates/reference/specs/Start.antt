-- A configuration (document 01: start table) with its ranges, and the state at start.
-- Assumes nothing.
use Rattle.std.specs.Prelude.{ℕ, suc, ◌-◌, ◌&&◌, not, List, eqb, leb, replicate}
use Rattle.reference.specs.Refusal.{bad_config, refuse}
use Rattle.reference.specs.Lists.{choose, in_range, tabulate, those, around}
use Rattle.reference.specs.State.{Processor, State, Life, new, live, App, CI2, Line, queues, no_token, free_mutex}

-- how many processors, threads and mutexes; B: how many threads are live at first (document 01: born); stealing: the choice of ready queues
pub record Config : Type 0 where
  pub P : ℕ
  pub T : ℕ
  pub M : ℕ
  pub B : ℕ
  pub stealing : ℕ

-- each number is in its range
unfoldable pub config_cause : Config → ℕ
config_cause c =
    refuse (not (in_range 1 8 c.P && in_range 1 32 c.T && in_range 1 8 c.M && in_range 1 c.T c.B && leb c.stealing 1)) bad_config 0

abbrev pub idle_at : Line → ℕ → Processor
idle_at l k = record { position = l; current = k; transit = 0; mutex = 0; observed = no_token; sequence = 0; answer = 0; probe = 0 }

-- processor k runs thread k if that is live, else it idles
abbrev pub first_processor : ℕ → ℕ → Processor
first_processor b k = choose (leb k b) (idle_at App k) (idle_at CI2 0)

-- the first B threads are live
abbrev pub first_life : ℕ → ℕ → Life
first_life b k = choose (leb k b) live new

abbrev pub itself : ℕ → ℕ
itself k = k

-- the live threads that nobody runs are dealt out to the ready queues in turn, each queue in ascending order
abbrev pub first_queue : Config → ℕ → List ℕ
first_queue c q = those (λ k. eqb (around (queues c.stealing c.P) k) q) (tabulate itself (suc c.P) (c.B - c.P))

-- nothing has happened to the mutexes
unfoldable pub start : Config → State
start c =
    record {
      P = c.P;
      T = c.T;
      M = c.M;
      stealing = c.stealing;
      ready = tabulate (first_queue c) 1 (queues c.stealing c.P);
      processors = tabulate (first_processor c.B) 1 c.P;
      mutexes = replicate c.M free_mutex;
      lives = tabulate (first_life c.B) 1 c.T;
      applied = 0;
    }
