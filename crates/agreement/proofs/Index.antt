-- The ready queue that the code works on is the one that the reference machine works on, and the code's next look number is its next one.
-- Assumes nothing.
use Prim.Native.Nat.{ℕ, suc, ◌+◌, ◌-◌, ◌*◌, ◌%◌, ◌≤◌, ◌<◌}
use mathlib.Core.Bool.{Bool, true, false}
use mathlib.Core.Path.{◌≡◌, ap, sym, ◌∙◌}
use native.Mathlib.Omega.{arith}
use native.Mathlib.Decide.{ℕ_discrete, dec_le}
use native.Mathlib.Nat.{mod-eq_of_lt, mod_self}
use native.Mathlib.Numerals.{add-one}
use lib.ListN.{length}
use borrow.Author.Tests.{lt-ltb, le-ltb}
use Rattle.reference.specs.Lists.{choose, around}
use Rattle.reference.specs.State.{State, CI2, same_line, probes, processor_at}
use Rattle.reference.specs.Step.{works_on}
use Rattle.reference.specs.Safe.{In}
use Rattle.reference.proofs.Tests.{true_range}
use Rattle.state.specs.Association.{processor_record}
use Rattle.state.proofs.Branch.{if_none, if_some}
use Rattle.association.proofs.Transfers.{number}
use Rattle.shown.proofs.Regular.{Regular}
use Rattle.step.specs.Model.Moves.{next_probe, on_ring, index_of}

-- back to 0 after n − 1
pub next-is : (n l : ℕ) → l < n → next_probe n l ≡ suc l % n
next-is n l h =
    elim (dec_le (suc (suc l)) n) [
      | yes k ↦ rw (lt-ltb l (n - 1) (omega arith)) (add-one l ∙ sym (mod-eq_of_lt {n = suc l} {m = n} (omega arith)))
      | no k ↦
          let e : suc l ≡ n = omega arith in
          rw (le-ltb l (n - 1) (omega arith)) (sym (ap (λ (x : ℕ). x % n) e ∙ mod_self n))
    ]

on_ring-is : (n p l : ℕ) → In 8 n → In n p → l < n → on_ring n p l ≡ 8 + around n (p + l)
on_ring-is n p l a b h = rw (true_range 1 8 n a.0 a.1, true_range 1 n p b.0 b.1, lt-ltb l n h)

by-probe : (b : Bool) (n : ℕ) → choose b n 0 ≡ choose b 1 0 * n
by-probe true n = omega arith
by-probe false n = omega arith

at_most : (b : Bool) (n : ℕ) → choose b n 0 ≤ n
at_most true n = omega arith
at_most false n = omega arith

module _ (s : State) (g : Regular s) (p : ℕ) (rp : In s.P p) where
  abbrev b : Bool
  b = same_line (processor_at s p).position CI2

  abbrev n : ℕ
  n = (processor_at s p).probe

  pub index_is : index_of s.stealing s.P p (processor_record (processor_at s p)) ≡ number s p
  index_is =
      elim (ℕ_discrete s.stealing 0) [
        | yes e ↦ if_none s.stealing 0 _ e ∙ sym (if_none s.stealing 0 (8 + works_on s p) e)
        | no e ↦
            let r : length s.ready ≡ s.P = g.placed.count ∙ if_some s.stealing 1 s.P e in
            let l : choose b n 0 < s.P = omega (arith, at_most b n, (g.probe p rp).most) in
            if_some s.stealing 0 _ e ∙ on_ring-is s.P p (choose b n 0) g.p_range rp l ∙
            ap (λ (k : ℕ). 8 + around s.P (p + k)) (by-probe b n) ∙
            ap (λ (k : ℕ). 8 + around k (p + probes (processor_at s p).position * n)) (sym r) ∙ sym (if_some s.stealing 0 (8 + works_on s p) e)
      ]
