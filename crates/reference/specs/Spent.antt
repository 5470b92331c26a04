-- A thread that owns a mutex and has made all calls of its script (document 02, No. 9): it has no turn left but its exit, which is refused for good.
-- Assumes nothing.
use Rattle.std.specs.Prelude.{ℕ, ◌≤◌, true, List, ◌≡◌, leb, length}
use Rattle.reference.specs.Refusal.{full, still_owner, refuse}
use Rattle.reference.specs.State.{App, processor_at}
use Rattle.reference.specs.Start.{Config, config_cause, start}
use Rattle.reference.specs.Step.{Move}
use Rattle.reference.specs.Cause.{accepted}
use Rattle.reference.specs.Safe.{In, end, Owns}
use Rattle.reference.specs.Script.{script_length, progress, turn_cause, class_moves}

module _ (c : Config) (x : List ℕ) (p m k : ℕ) (ms : List Move) where
  -- after the moves, thread k stands at App on processor p, has made all calls of its script, and owns mutex m
  pub record Spent : Type 0 where
    pub position : (processor_at (end c ms) p).position ≡ App
    pub current : (processor_at (end c ms) p).current ≡ k
    pub spent : script_length x k ≤ progress (start c) ms k
    pub owner : Owns c ms m k

  -- and its turn is refused by 21, or by 8 where no further move can stand
  pub record Stuck : Type 0 where
    pub spent : Spent
    pub refused : turn_cause c x ms p ≡ refuse (leb 4000 (length ms)) full still_owner

-- once it is so, it is so after any turns of any processors
abbrev pub SpentOwners : Type 0
SpentOwners =
    (c : Config) (x : List ℕ) (p m k : ℕ) (ms : List Move) → config_cause c ≡ 0 → accepted (start c) ms ≡ true → In c.P p → In c.M m →
    Spent c x p m k ms → (ps : List ℕ) → Stuck c x p m k (class_moves c x ms ps)
