-- The reference states that the rules of a picture allow: those that a record can show.
-- Assumes nothing.
use Rattle.std.specs.Prelude.{ℕ, ◌+◌, true, not, ◌≡◌, length}
use Rattle.state.specs.Association.{encode}
use Rattle.state.specs.Rules.{fields_ok, every}
use Rattle.reference.specs.Lists.{in_range}
use Rattle.reference.specs.State as reference
use Rattle.reference.specs.State.{live, same_life, life_at, queues, queue_at, mutex_at}
use Rattle.reference.specs.Safe.{In, one_if, held}

pub record Allowed (s : reference.State) : Type 0 where
  -- P processors, M mutexes, T threads
  pub processors : length s.processors ≡ s.P
  pub mutexes : length s.mutexes ≡ s.M
  pub lives : length s.lives ≡ s.T
  -- one ready queue, or one for each processor
  pub count : length s.ready ≡ queues s.stealing s.P
  -- the fields and registers are as the rules want them
  pub fields : fields_ok (encode s) ≡ true
  -- the queues hold threads
  pub ready : (i : ℕ) → In (length s.ready) i → every (in_range 1 s.T) (queue_at s i) ≡ true
  pub queues : (m : ℕ) → In s.M m → every (in_range 1 s.T) (mutex_at s m).queue ≡ true
  -- each thread has exactly one place: held once, or new, or terminated
  pub one_place : (k : ℕ) → In s.T k → held s k + one_if (not (same_life (life_at s k) live)) ≡ 1
