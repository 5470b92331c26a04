-- Rule 13 is the same over any two tables with the same threads from number 1 on.
-- Assumes nothing.
use Prim.Native.Nat.{ℕ, zero, suc, ◌≤◌}
use mathlib.Core.Path.{◌≡◌, refl}
use mathlib.Core.Bool.{◌||◌, not}
use native.Mathlib.Omega.{arith}
use Rattle.reference.specs.Picture.{stands_in}
use Rattle.reference.proofs.Each.{each_agree}
use Rattle.state.specs.declared.Thread.{Thread}
use Rattle.state.specs.Record.{chain}
use Rattle.state.specs.Rules.{every, placed_in, met, chain_ok, chains_in}

module _ (f g : ℕ → Thread) (same : (k : ℕ) → 1 ≤ k → f k ≡ g k) where
  chain_agree : (fuel k : ℕ) → chain f fuel k ≡ chain g fuel k
  unfolding chain
  chain_agree zero k = refl
  chain_agree (suc fuel) zero = refl
  chain_agree (suc fuel) (suc k) = rw (same (suc k) (omega arith), chain_agree fuel (g (suc k)).next)

  every_agree : (q fuel k : ℕ) → every (λ i. placed_in (f i) q) (chain g fuel k) ≡ every (λ i. placed_in (g i) q) (chain g fuel k)
  unfolding chain every
  every_agree q zero k = refl
  every_agree q (suc fuel) zero = refl
  every_agree q (suc fuel) (suc k) = rw (same (suc k) (omega arith), every_agree q fuel (g (suc k)).next)

  chain_ok_agree : (t q first : ℕ) → chain_ok f t q first ≡ chain_ok g t q first
  unfolding chain_ok
  chain_ok_agree t q first =
      rw (chain_agree 33 first, every_agree q 33 first, each_agree (λ k. not (placed_in (f k) q) || stands_in k (met g first)) (λ k. not (placed_in (g k) q) || stands_in k (met g first)) 1 t (λ k h. rw (same k h)))

  pub chains_agree : (first : ℕ → ℕ) (t : ℕ) → chains_in f first t ≡ chains_in g first t
  chains_agree first t = each_agree (λ q. chain_ok f t q (first q)) (λ q. chain_ok g t q (first q)) 0 17 (λ q h. chain_ok_agree t q (first q))
