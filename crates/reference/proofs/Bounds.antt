-- The bounds of every state that accepted moves reach from an accepted start.
-- Assumes nothing.
use Prim.Native.Nat.{ℕ}
use mathlib.Core.Path.{◌≡◌, sym}
use native.Mathlib.Omega.{arith}
use Rattle.reference.specs.State.{processor_at}
use Rattle.reference.specs.Safe.{In, end, Always}
use Rattle.reference.specs.Bounds.{Bounds}
use Rattle.reference.proofs.Local.{Registers}
use Rattle.reference.proofs.Invariant.{Good}
use Rattle.reference.proofs.Bound.{count_bound}
use Rattle.reference.proofs.Laws.{queue_at_L9, count_at_U1, sequence_bound, observed_bound, token_bound, good, sized, applied-is, owner-is}
use Rattle.reference.proofs.Break.{never_breaks}

pub bounds : Always Bounds
bounds c ms e ok =
    record {
      queue_at_L9 = λ p r. queue_at_L9 (end c ms) g p (processors r);
      count_at_U1 = λ p r. count_at_U1 (end c ms) g p (processors r);
      current = λ p r. ((registers r).current-low, rw z.1 at (registers r).current-high);
      transit = λ p r. ((registers r).transit-low, rw z.1 at (registers r).transit-high);
      mutex = λ p r. ((registers r).mutex-low, rw z.2 at (registers r).mutex-high);
      observed = λ p r. ((registers r).observed-low, rw z.0 at (registers r).observed-high);
      answer = λ p r. (registers r).answer;
      owner = λ m k r i. sym (owner-is c e ms ok m k r i);
      owner_range = λ m r. omega (arith, g.sound m (mutexes r), z);
      count = λ m r. omega (arith, count_bound (end c ms) g m (mutexes r), z);
      applied = applied-is c ms;
      sequence = λ p r. omega (arith, sequence_bound (end c ms) g p (processors r).1, applied-is c ms);
      observed_sequence = λ p r. omega (arith, observed_bound (end c ms) g p (processors r), applied-is c ms);
      token_sequence = λ m r. omega (arith, token_bound (end c ms) g m (mutexes r), applied-is c ms);
      unbroken = λ a h. never_breaks (end c ms) a g h;
    }
  where
    g : Good (end c ms)
    g = good c e ms ok

    z : ((end c ms).P ≡ c.P) × ((end c ms).T ≡ c.T) × ((end c ms).M ≡ c.M) × ((end c ms).stealing ≡ c.stealing)
    z = sized c ms

    processors : {p : ℕ} → In c.P p → In (end c ms).P p
    processors r = omega (arith, z)

    registers : {p : ℕ} → In c.P p → Registers (end c ms).P (end c ms).T (end c ms).M (end c ms).applied (processor_at (end c ms) p).position (processor_at (end c ms) p)
    registers {p} r = (g.table p (processors r)).registers

    mutexes : {m : ℕ} → In c.M m → In (end c ms).M m
    mutexes r = omega (arith, z)
