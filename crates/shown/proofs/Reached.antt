-- Every state that a session reaches is allowed, so a record shows it.
-- Assumes nothing.
use Prim.Native.Nat.{◌≤◌}
use mathlib.Core.Bool.{true}
use mathlib.Core.List.{List}
use mathlib.Core.Path.{◌≡◌}
use native.Mathlib.Omega.{arith}
use Rattle.state.specs.Allowed.{Allowed}
use Rattle.reference.specs.State as reference
use Rattle.reference.specs.Start.{Config, config_cause, start}
use Rattle.reference.specs.Step.{Move, run}
use Rattle.reference.specs.Cause.{accepted}
use Rattle.reference.specs.Safe.{In}
use Rattle.reference.proofs.Invariant.{Good}
use Rattle.reference.proofs.Bound.{count_bound}
use Rattle.reference.proofs.Start.{ranges}
use Rattle.reference.proofs.Laws.{good, sized}
use Rattle.shown.proofs.Regular.{regular_allowed}

good_allowed : (s : reference.State) → Good s → In 8 s.P → In 32 s.T → In 8 s.M → s.stealing ≤ 1 → Allowed s
good_allowed s g rp rt rm rc =
    regular_allowed s
    (record {
      p_range = rp;
      t_range = rt;
      m_range = rm;
      stealing = rc;
      applied = g.applied;
      placed = record { processors = g.processors; mutexes = g.mutexes; lives = g.lives; count = g.queues; one_place = g.census };
      probe = g.probe;
      ready = g.ready;
      registers = λ p i. omega (arith, g.table p i, g.applied);
      mutex = λ m i. omega (arith, g.sound m i, count_bound s g m i);
    })

-- of a configuration in its ranges, after any moves that are accepted
pub reached-allowed : (c : Config) → config_cause c ≡ 0 → (ms : List Move) → accepted (start c) ms ≡ true → Allowed (run (start c) ms)
reached-allowed c e ms ok =
    let z = sized c ms in
    let r = ranges c e in
    good_allowed (run (start c) ms) (good c e ms ok) (rw z.0 r.processors) (rw z.1 r.threads) (rw z.2 r.mutexes) (rw z.3 r.stealing)
