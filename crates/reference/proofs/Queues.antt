-- The ready queues of a state that is reached, and which of them a processor works on.
-- Assumes nothing.
use Prim.Native.Nat.{ℕ, ◌+◌, ◌*◌, ◌<◌}
use mathlib.Core.Bool.{Bool, true, false}
use mathlib.Core.Path.{◌≡◌, ap, ◌∙◌}
use native.Mathlib.Omega.{arith}
use lib.ListN.{length}
use Rattle.reference.specs.Lists.{choose, around}
use Rattle.reference.specs.State.{State, CI2, same_line, probes, processor_at, queues}
use Rattle.reference.specs.Step.{works_on}
use Rattle.reference.specs.Safe.{In, end, Always}
use Rattle.reference.specs.Queues.{ReadyQueues}
use Rattle.reference.proofs.Sums.{around-self}
use Rattle.reference.proofs.Invariant.{Good, works_in}
use Rattle.reference.proofs.Laws.{good, sized}

module _ (s : State) (g : Good s) (p : ℕ) (r : In s.P p) where
  abbrev look : ℕ
  look = (processor_at s p).probe

  abbrev idles : Bool
  idles = same_line (processor_at s p).position CI2

  single_one : s.stealing ≡ 0 → (works_on s p ≡ 1) × (look ≡ 0)
  single_one e =
      let z : length s.ready ≡ 1 = rw e at g.queues in
      (omega (arith, works_in s g p r), omega (arith, g.probe p r))

  module _ (e : s.stealing ≡ 1) where
    each : length s.ready ≡ s.P
    each = rw e at g.queues

    own_one : idles ≡ false → (works_on s p ≡ p) × (look ≡ 0)
    own_one l =
        let c : probes (processor_at s p).position ≡ 0 = ap (λ (b : Bool). choose b 1 0) l in
        let n : p + probes (processor_at s p).position * look ≡ p = rw c (omega arith) in
        let z : look ≡ 0 = let h = rw c at (g.probe p r).zero in omega (arith, h) in
        (rw (each, n) (around-self s.P p r), z)

    idle_one : idles ≡ true → (works_on s p ≡ around s.P (p + look)) × (look < s.P)
    idle_one l =
        let c : probes (processor_at s p).position ≡ 1 = ap (λ (b : Bool). choose b 1 0) l in
        let n : probes (processor_at s p).position * look ≡ look = rw c (omega arith) in
        (rw (each, n), omega (arith, (g.probe p r).most, each))

pub ready-queues : Always ReadyQueues
ready-queues c ms e ok =
    let g = good c e ms ok in
    let z = sized c ms in
    record {
      count = g.queues ∙ (λ i. queues (z.3 i) (z.0 i));
      single = λ p r s. single_one (end c ms) g p (rw z.0 r) (z.3 ∙ s);
      own = λ p r s l. own_one (end c ms) g p (rw z.0 r) (z.3 ∙ s) l;
      idle = λ p r s l. rw z.0 at (idle_one (end c ms) g p (rw z.0 r) (z.3 ∙ s) l);
    }
