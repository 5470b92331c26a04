-- The four laws of safety, of a configuration and a list of moves, by history.
-- Assumes nothing.
use Rattle.std.specs.Prelude.{ℕ, ◌+◌, ◌≤◌, Bool, true, false, ◌&&◌, not, List, [], ◌≡◌, ltb}
use Rattle.reference.specs.Lists.{choose, sum, is, occurrences}
use Rattle.reference.specs.State.{State, Processor, Mutex, processor_at, mutex_at}
use Rattle.reference.specs.Start.{Config, config_cause, start}
use Rattle.reference.specs.Step.{Move, run}
use Rattle.reference.specs.Cause.{accepted}
use Rattle.reference.specs.History.{owns, created, exited}

-- one of the numbers 1 to n
abbrev pub In : ℕ → ℕ → Type 0
In n i = (1 ≤ i) × (i ≤ n)

-- what holds after every accepted start and every list of accepted moves
abbrev pub Always : (Config → List Move → Type 0) → Type 0
Always Q = (c : Config) (ms : List Move) → config_cause c ≡ 0 → accepted (start c) ms ≡ true → Q c ms

abbrev pub one_if : Bool → ℕ
one_if b = choose b 1 0

-- how often thread k is in a queue, ready or a mutex's, or in a current or transit register
abbrev pub held : State → ℕ → ℕ
held s k =
    sum (occurrences k) s.ready + sum (λ (x : Mutex). occurrences k x.queue) s.mutexes +
    sum (λ (r : Processor). is k r.current + is k r.transit) s.processors

module _ (c : Config) (ms : List Move) where
  -- the state after the moves
  abbrev pub end : State
  end = run (start c) ms

  -- thread k owns mutex m
  abbrev pub Owns : ℕ → ℕ → Type 0
  Owns m k = owns (start c) ms m k false ≡ true

  -- thread k was created neither at start nor by a move
  abbrev pub unborn : ℕ → Bool
  unborn k = ltb c.B k && not (created ms k)

  -- thread k has exited
  abbrev pub ended : ℕ → Bool
  ended k = exited (start c) ms k

  -- in how many places thread k is
  abbrev pub places : ℕ → ℕ
  places k = held end k + one_if (unborn k) + one_if (ended k)

  -- some processor is in a call on m
  abbrev pub UnderWay : ℕ → Type 0
  UnderWay m = (p : ℕ) × In c.P p × ((processor_at end p).mutex ≡ m)

  pub record Safe : Type 0 where
    -- two owners of one mutex are one thread,
    pub one_owner : (m k j : ℕ) → In c.M m → In c.T k → In c.T j → Owns m k → Owns m j → k ≡ j
    -- which was created and has not exited,
    pub owner_lives : (m k : ℕ) → In c.M m → In c.T k → Owns m k → (unborn k ≡ false) × (ended k ≡ false)
    -- a thread is neither lost nor in two places,
    pub one_place : (k : ℕ) → In c.T k → places k ≡ 1
    -- and none waits for a mutex without an owner on which no call is under way
    pub none_left : (m : ℕ) → In c.M m → ((k : ℕ) → In c.T k → ¬ (Owns m k)) → ¬ (UnderWay m) → (mutex_at end m).queue ≡ []
