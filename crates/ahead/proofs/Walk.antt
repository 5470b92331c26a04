-- The walk along a chain up to a thread, and the turns that it gives.
-- Assumes nothing.
use Prim.Native.Nat.{ℕ, zero, suc, ◌+◌, ◌≤◌}
use mathlib.Core.Bool.{Bool, true, false}
use mathlib.Core.Path.{◌≡◌, refl, ap, ◌∙◌}
use native.Mathlib.Omega.{arith}
use lib.Dec.{eqb}
use borrow.Author.Tests.{eq-eqb, ne_eqb}
use Rattle.state.specs.declared.Thread.{Thread}
use Rattle.state.specs.declared.Mutex.{Mutex}
use Rattle.state.specs.declared.State.{State}
use Rattle.state.specs.Record.{thread_of, mutex_of, first_of, chain}
use Rattle.reference.specs.Lists.{choose, if_zero}
use Rattle.overtaking.specs.Ahead.{before}
use Rattle.ahead.specs.Model.Waiting.{chain_turns}

module _ (thread : ℕ → Thread) (k : ℕ) where
  pub walk_out : (at : ℕ) → before k (chain thread 0 at) ≡ 0
  unfolding chain before
  walk_out at = refl

  pub walk_end : (fuel at : ℕ) → at ≡ 0 → before k (chain thread fuel at) ≡ 0
  unfolding chain before
  walk_end zero at e = refl
  walk_end (suc fuel) at e = rw e

  pub walk_here : (fuel at : ℕ) → at ≡ k → before k (chain thread fuel at) ≡ 0
  unfolding chain before
  walk_here zero at e = refl
  walk_here (suc fuel) zero e = refl
  walk_here (suc fuel) (suc at) e = rw (eq-eqb (suc at) k e)

  pub walk_on : (fuel at : ℕ) → (at ≡ 0 → ⊥) → (at ≡ k → ⊥) → before k (chain thread (suc fuel) at) ≡ suc (before k (chain thread fuel (thread at).next))
  unfolding chain before
  walk_on fuel zero h g = absurd (h refl)
  walk_on fuel (suc at) h g = rw (ne_eqb (suc at) k g)

  pub walk_most : (fuel at : ℕ) → before k (chain thread fuel at) ≤ fuel
  unfolding chain before
  walk_most zero at = omega arith
  walk_most (suc fuel) zero = omega arith
  walk_most (suc fuel) (suc at) = go (eqb (suc at) k) (walk_most fuel (thread (suc at)).next)
    where
      go : (b : Bool) → before k (chain thread fuel (thread (suc at)).next) ≤ fuel → choose b 0 (suc (before k (chain thread fuel (thread (suc at)).next))) ≤ suc fuel
      go true h = omega arith
      go false h = omega arith

-- ---- the turns, by what was read

module _ (r : State) (m k first n : ℕ) (y : Mutex) (f : first ≡ first_of r m) (b : n ≡ before k (chain (thread_of r) 32 first)) (o : y ≡ mutex_of r m) where
  some-turns : n + if_zero y.owner 0 1 ≡ chain_turns r m k
  unfolding chain_turns
  some-turns = rw (b, f, o)

  pub turns_free : y.owner ≡ 0 → n ≡ chain_turns r m k
  turns_free h = let z : n ≡ n + if_zero y.owner 0 1 = rw h (omega arith) in z ∙ some-turns

  pub turns-owned : (y.owner ≡ 0 → ⊥) → n + 1 ≡ chain_turns r m k
  turns-owned h = ap (λ (i : ℕ). n + i) (one y.owner h) ∙ some-turns
    where
      one : (i : ℕ) → (i ≡ 0 → ⊥) → ◌≡◌ {A = ℕ} 1 (if_zero i 0 1)
      one zero g = absurd (g refl)
      one (suc i) g = refl
