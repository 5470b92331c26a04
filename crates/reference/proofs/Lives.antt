-- A thread is new or terminated by history exactly if its life says so.
-- Assumes nothing.
use Prim.Native.Nat.{ℕ, zero, suc, ◌+◌, ◌≤◌}
use mathlib.Core.Bool.{Bool, true, false, ◌&&◌, ◌||◌, not, and-true, or-false, or-true}
use mathlib.Core.List.{List, [], ◌∷◌}
use mathlib.Core.Logic.{◌≢◌}
use mathlib.Core.Path.{◌≡◌, refl, ap, ap₂, sym, ◌∙◌}
use native.Mathlib.Omega.{arith}
use lib.Dec.{eqb}
use borrow.Author.Tests.{eq-eqb, ne_eqb}
use Rattle.reference.specs.Lists.{at, put}
use Rattle.reference.specs.State.{Life, new, live, terminated, State, nobody, processor_at, life_at, same_life}
use Rattle.reference.specs.Step.{Move, Action, go, lock, trylock, unlock, yield, exit, create, created_by, ended_by, action_of, next, run}
use Rattle.reference.specs.Cause.{accepted}
use Rattle.reference.specs.History.{created, exited}
use Rattle.reference.specs.Safe.{In, one_if, held}
use Rattle.reference.proofs.Sums.{is_same, sum-at, at-put}
use Rattle.reference.proofs.Legal.{Here, legal, accepted_cons}
use Rattle.reference.proofs.Invariant.{Good, next_good, gone, in_registers}

abbrev pub is_new : Life → Bool
is_new l = same_life l new

abbrev pub is-over : Life → Bool
is-over l = same_life l terminated

gone_is : (l : Life) → gone l ≡ one_if (is_new l && true) + one_if (is-over l || false)
gone_is new = refl
gone_is live = refl
gone_is terminated = refl

is_live : (l : Life) → gone l ≡ 0 → l ≡ live
is_live new h = absurd (omega arith)
is_live live h = refl
is_live terminated h = absurd (omega arith)

module _ (s : State) (g : Good s) where
  -- a thread that is held is live
  pub held-lives : (k : ℕ) → In s.T k → 1 ≤ held s k → life_at s k ≡ live
  held-lives k r h = is_live (life_at s k) (omega (arith, g.census k r))

  -- and so is a processor's current thread
  pub current-lives : (p : ℕ) → In s.P p → life_at s (processor_at s p).current ≡ live
  current-lives p r = by (processor_at s p).current refl
    where
      by : (k : ℕ) → (processor_at s p).current ≡ k → life_at s (processor_at s p).current ≡ live
      by zero e = ap (life_at s) e
      by (suc k) e =
          held-lives (processor_at s p).current (omega (arith, (g.table p r).registers.current-most))
          (omega (
            arith,
            is_same (processor_at s p).current,
            sum-at (in_registers (processor_at s p).current) s.processors p nobody (omega (arith, g.processors)),
          ))

later-new : (u x y : Bool) → (u && not x) && not y ≡ u && not (x || y)
later-new true true y = refl
later-new true false y = refl
later-new false x y = refl

later-over : (u x y : Bool) → (u || x) || y ≡ u || (x || y)
later-over true x y = refl
later-over false x y = refl

-- what the creation of i and the end of j make of thread k, which was x and is y
abbrev Turned : ℕ → ℕ → ℕ → Life → Life → Type 0
Turned i j k x y = (is_new y ≡ is_new x && not (eqb i k)) × (is-over y ≡ is-over x || eqb j k)

turned_none : (i j k : ℕ) (x : Life) → i ≢ k → j ≢ k → Turned i j k x x
turned_none i j k x h l = (rw (ne_eqb i k h) (sym (and-true (is_new x))), rw (ne_eqb j k l) (sym (or-false (is-over x))))

module _ (s : State) (g : Good s) (p : ℕ) (rp : In s.P p) (k : ℕ) (rk : In s.T k) where
  turned-created : (o : ℕ) → life_at s o ≡ new → Turned o 0 k (life_at s k) (at (put s.lives o live) k live)
  turned-created o e =
      at-put (λ (k : ℕ) (x : Life). Turned o 0 k (life_at s k) x) s.lives o k live live (omega (arith, g.lives))
      (λ i. (rw (eq-eqb o o refl, e), rw (ne_eqb 0 o (omega arith), e)))
      (λ n. turned_none o 0 k (life_at s k) (λ z. n (sym z)) (omega arith))

  turned-ended : Turned 0 (processor_at s p).current k (life_at s k) (at (put s.lives (processor_at s p).current terminated) k live)
  turned-ended =
      at-put (λ (k : ℕ) (x : Life). Turned 0 (processor_at s p).current k (life_at s k) x) s.lives (processor_at s p).current k terminated live (omega (arith, g.lives))
      (λ i. (rw (current-lives s g p rp), rw (eq-eqb (processor_at s p).current (processor_at s p).current refl) (sym (or-true (is-over (life_at s (processor_at s p).current))))))
      (λ n. turned_none 0 (processor_at s p).current k (life_at s k) (omega arith) (λ z. n (sym z)))

  turned : (a : Action) (o : ℕ) → Here s p a o →
      Turned (created_by a o) (ended_by a (processor_at s p).current) k (life_at s k)
      (at (put (put s.lives (created_by a o) live) (ended_by a (processor_at s p).current) terminated) k live)
  turned go o h = turned_none 0 0 k (life_at s k) (omega arith) (omega arith)
  turned lock o h = turned_none 0 0 k (life_at s k) (omega arith) (omega arith)
  turned trylock o h = turned_none 0 0 k (life_at s k) (omega arith) (omega arith)
  turned unlock o h = turned_none 0 0 k (life_at s k) (omega arith) (omega arith)
  turned yield o h = turned_none 0 0 k (life_at s k) (omega arith) (omega arith)
  turned exit o h = turned-ended
  turned create o h = turned-created o (h.unborn refl)

pub life_history : (ms : List Move) (s : State) (k : ℕ) → Good s → accepted s ms ≡ true → In s.T k →
    gone (life_at (run s ms) k) ≡ one_if (is_new (life_at s k) && not (created ms k)) + one_if (is-over (life_at s k) || exited s ms k)
unfolding run created exited next
life_history [] s k g ok rk = gone_is (life_at s k)
life_history (a ∷ rest) s k g ok rk =
    let e = accepted_cons s a rest ok in
    let h = legal s a e.0 in
    let i : ℕ = created_by (action_of a.action) a.operand in
    let j : ℕ = ended_by (action_of a.action) (processor_at s a.processor).current in
    let x : Life = life_at s k in
    let z = turned s g a.processor h.processor k rk (action_of a.action) a.operand h.here in
    life_history rest (next s a) k (next_good s a g e.0) e.1 rk ∙
    ap₂ (λ (m n : Bool). one_if m + one_if n)
    (ap (λ (b : Bool). b && not (created rest k)) z.0 ∙ later-new (is_new x) (eqb i k) (created rest k))
    (ap (λ (b : Bool). b || exited (next s a) rest k) z.1 ∙ later-over (is-over x) (eqb j k) (exited (next s a) rest k))
