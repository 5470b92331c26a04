-- What else holds of every state that accepted moves reach from an accepted start: where each register is zero, what bounds each number, and that no step breaks a rule.
-- Assumes nothing.
use Rattle.std.specs.Prelude.{ℕ, ◌+◌, ◌*◌, ◌≤◌, false, List, ◌≡◌, eqb, length}
use Rattle.reference.specs.State.{Processor, Mutex, Row, L9, U1, row, processor_at, mutex_at}
use Rattle.reference.specs.Start.{Config, start}
use Rattle.reference.specs.Step.{Move}
use Rattle.reference.specs.Cause.{cause}
use Rattle.reference.specs.Break.{step_breaks}
use Rattle.reference.specs.History.{owns}
use Rattle.reference.specs.Safe.{In, end}

-- 1 to `most` where the column has 1, and 0 where it has 0
abbrev pub Register : ℕ → ℕ → ℕ → Type 0
Register column most n = (column ≤ n) × (n ≤ most * column)

module _ (c : Config) (ms : List Move) where
  abbrev pub proc : ℕ → Processor
  proc p = processor_at (end c ms) p

  abbrev pub mutex_of : ℕ → Mutex
  mutex_of m = mutex_at (end c ms) m

  -- the register table's row for processor p's line
  abbrev pub row_of : ℕ → Row
  row_of p = row (proc p).position

  pub record Bounds : Type 0 where
    -- L9 never finds an empty queue,
    pub queue_at_L9 : (p : ℕ) → In c.P p → (proc p).position ≡ L9 → 1 ≤ length (mutex_of (proc p).mutex).queue
    -- U1 never meets count 0,
    pub count_at_U1 : (p : ℕ) → In c.P p → (proc p).position ≡ U1 → 1 ≤ (mutex_of (proc p).mutex).count
    -- a register is nonzero exactly at the lines that the register table gives it, and then it is one of the threads, mutexes or processors,
    pub current : (p : ℕ) → In c.P p → Register (row_of p).current c.T (proc p).current
    pub transit : (p : ℕ) → In c.P p → Register (row_of p).transit c.T (proc p).transit
    pub mutex : (p : ℕ) → In c.P p → Register (row_of p).mutex c.M (proc p).mutex
    pub observed : (p : ℕ) → In c.P p → Register (row_of p).observed c.P (proc p).observed.processor
    pub answer : (p : ℕ) → In c.P p → (proc p).answer ≤ 2
    -- the owner field is the owner by history,
    pub owner : (m k : ℕ) → In c.M m → 1 ≤ k → eqb (mutex_of m).owner k ≡ owns (start c) ms m k false
    pub owner_range : (m : ℕ) → In c.M m → (mutex_of m).owner ≤ c.T
    -- a count is at most T + 1,
    pub count : (m : ℕ) → In c.M m → (mutex_of m).count ≤ c.T + 1
    -- no sequence number is above the moves applied: a processor's own, that of the token it observed, that of a mutex's token,
    pub applied : (end c ms).applied ≡ length ms
    pub sequence : (p : ℕ) → In c.P p → (proc p).sequence ≤ length ms
    pub observed_sequence : (p : ℕ) → In c.P p → (proc p).observed.sequence ≤ length ms
    pub token_sequence : (m : ℕ) → In c.M m → (mutex_of m).token.sequence ≤ length ms
    -- and 15 is never there at a step
    pub unbroken : (a : Move) → cause (end c ms) a ≡ 0 → step_breaks (end c ms) a ≡ false
