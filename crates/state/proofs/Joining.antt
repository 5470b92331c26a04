-- The end of a chain, and joining a queue: what each gives where its test holds, and where it does not.
-- Assumes nothing.
use Prim.Native.Nat.{ℕ, zero, suc}
use mathlib.Core.Path.{◌≡◌, refl}
use mathlib.Core.List.{List}
use lib.ListN.{get_or, set}
use borrow.Author.Tests.{eq-eqb, ne_eqb}
use Rattle.state.specs.declared.Thread.{Thread}
use Rattle.state.specs.declared.Chains.{Chains}
use Rattle.state.specs.Record.{thread_in}
use Rattle.state.specs.Model.Access.{next_of, queued_in, linked_to, last_from, joined}

module _ (ts : List Thread) where
  pub last-stop : (fuel k : ℕ) → next_of ts k ≡ 0 → last_from ts fuel k ≡ k
  unfolding last_from
  last-stop zero k e = refl
  last-stop (suc fuel) k e = simp (eq-eqb (next_of ts k) 0 e)

  pub last_on : (fuel k : ℕ) → (next_of ts k ≡ 0 → ⊥) → last_from ts (suc fuel) k ≡ last_from ts fuel (next_of ts k)
  unfolding last_from
  last_on fuel k e = simp (ne_eqb (next_of ts k) 0 e)

module _ (c : Chains) (q : ℕ) where
  pub joined-none : (k : ℕ) → get_or c.firsts q 0 ≡ 0
      → joined c q k ≡ record { firsts = set c.firsts q k; threads = set c.threads k (queued_in q) }
  unfolding joined
  joined-none k e = simp (eq-eqb (get_or c.firsts q 0) 0 e)

  pub joined-some : (k : ℕ) → (get_or c.firsts q 0 ≡ 0 → ⊥)
      → joined c q k ≡
      record {
        firsts = c.firsts;
        threads =
            set (set c.threads k (queued_in q)) (last_from c.threads 32 (get_or c.firsts q 0))
            (linked_to k (thread_in (set c.threads k (queued_in q)) (last_from c.threads 32 (get_or c.firsts q 0))));
      }
  unfolding joined
  joined-some k e = simp (ne_eqb (get_or c.firsts q 0) 0 e)
