-- A mutex's count is at most T + 1: the threads of its queue and those carried to it are all different.
-- Assumes nothing.
use Prim.Native.Nat.{ℕ, zero, suc, ◌+◌, ◌*◌, ◌≤◌, ◌<◌}
use mathlib.Core.List.{List, [], ◌∷◌}
use mathlib.Core.Path.{◌≡◌, refl, sym}
use native.Mathlib.Decide.{ℕ_discrete}
use native.Mathlib.Omega.{arith}
use lib.ListN.{length, get_or}
use Rattle.reference.specs.Lists.{sum, is, occurrences, tabulate}
use Rattle.reference.specs.State.{Processor, Mutex, State, nobody, free_mutex, processor_at, mutex_at}
use Rattle.reference.specs.Start.{itself}
use Rattle.reference.specs.Safe.{In}
use Rattle.reference.proofs.Sums.{is_same, is-other, some_one, sum-at, sum_one, length-tabulate, tabulate_getD}
use Rattle.reference.proofs.Local.{out, out_in, duty}
use Rattle.reference.proofs.Invariant.{Good, weighs, on, in_registers}

module _ {A : Type 0} where
  sum-add : (f g : A → ℕ) (l : List A) → sum (λ x. f x + g x) l ≡ sum f l + sum g l
  unfolding sum
  sum-add f g [] = refl
  sum-add f g (x ∷ xs) = omega (arith, sum-add f g xs)

  sum-zero : (l : List A) → sum (λ (x : A). 0) l ≡ 0
  unfolding sum
  sum-zero [] = refl
  sum-zero (x ∷ xs) = omega (arith, sum-zero xs)

  sum_le : (f g : A → ℕ) (l : List A) (d : A) → ((i : ℕ) → i < length l → f (get_or l i d) ≤ g (get_or l i d)) → sum f l ≤ sum g l
  unfolding sum
  sum_le f g [] d h = omega arith
  sum_le f g (x ∷ xs) d h = omega (arith, h 0 (omega arith), sum_le f g xs d (λ i r. h (suc i) (omega arith)))

sum_swap : {A : Type 0} (h : ℕ → A → ℕ) (ks : List ℕ) (l : List A) → sum (λ k. sum (h k) l) ks ≡ sum (λ x. sum (λ k. h k x) ks) l
unfolding sum
sum_swap h [] l = sym (sum-zero l)
sum_swap h (k ∷ ks) l = omega (arith, sum_swap h ks l, sum-add (h k) (λ x. sum (λ k. h k x) ks) l)

-- the threads 1 to T
abbrev all : ℕ → List ℕ
all T = tabulate itself 1 T

sum_ones : (l : List ℕ) → sum (λ (k : ℕ). 1) l ≡ length l
unfolding sum
sum_ones [] = refl
sum_ones (x ∷ xs) = omega (arith, sum_ones xs)

is_one : (a b : ℕ) → is a b ≤ 1
is_one a b = elim (ℕ_discrete a b) [ yes e ↦ rw e (omega (arith, is_same b)) | no n ↦ omega (arith, is-other a b n) ]

threads_one : (T x : ℕ) → In T x → sum (λ k. is k x) (all T) ≡ 1
threads_one T x r = sum_one (λ k. is k x) itself 1 T x r.0 (omega arith) (is_same x) (λ i n. is-other i x n)

-- so the threads of a queue are as many as their occurrences
queue-all : (T : ℕ) (q : List ℕ) → sum (out T) q ≡ 0 → sum (λ k. occurrences k q) (all T) ≡ length q
unfolding sum
queue-all T [] h = sum-zero (all T)
queue-all T (x ∷ xs) h =
    omega (arith, sum-add (λ k. is k x) (λ k. occurrences k xs) (all T), queue-all T xs (omega arith), threads_one T x (out_in T x (omega arith)))

times_le : (a b h : ℕ) → a ≤ 1 → b ≤ 1 → a * b * h ≤ h
times_le zero b h x y = omega arith
times_le (suc zero) zero h x y = omega arith
times_le (suc zero) (suc zero) h x y = omega arith
times_le (suc zero) (suc (suc b)) h x y = absurd (omega arith)
times_le (suc (suc a)) b h x y = absurd (omega arith)

factor_one : (a b : ℕ) → a ≤ 1 → b ≤ 1 → 1 ≤ a * b → (a ≡ 1) × (b ≡ 1)
factor_one zero b x y h = absurd (omega arith)
factor_one (suc zero) zero x y h = absurd (omega arith)
factor_one (suc zero) (suc zero) x y h = (refl, refl)
factor_one (suc zero) (suc (suc b)) x y h = absurd (omega arith)
factor_one (suc (suc a)) b x y h = absurd (omega arith)

held-some : (T l h : ℕ) → 1 ≤ l + h → l ≤ T → h ≤ T → 1 ≤ sum (λ k. is k l + is k h) (all T)
held-some T zero h c x y = omega (arith, sum-add (λ k. is k 0) (λ k. is k h) (all T), threads_one T h (omega arith))
held-some T (suc l) h c x y = omega (arith, sum-add (λ k. is k (suc l)) (λ k. is k h) (all T), threads_one T (suc l) (omega arith))

module _ (s : State) (g : Good s) (m : ℕ) (rm : In s.M m) where
  abbrev carried : ℕ → Processor → ℕ
  carried k r = weighs (λ w. w.carries) m r * in_registers k r

  carried_ge : (p : ℕ) → In s.P p → weighs (λ w. w.carries) m (processor_at s p) ≤ sum (λ k. carried k (processor_at s p)) (all s.T)
  carried_ge p r = by (weighs (λ w. w.carries) m (processor_at s p)) refl
    where
      c : ℕ
      c = (duty (processor_at s p).position).carries

      i : ℕ
      i = is m (processor_at s p).mutex

      by : (n : ℕ) → weighs (λ w. w.carries) m (processor_at s p) ≡ n → weighs (λ w. w.carries) m (processor_at s p) ≤ sum (λ k. carried k (processor_at s p)) (all s.T)
      by zero e = omega arith
      by (suc n) e =
          let z = factor_one c i (omega (arith, g.table p r)) (is_one m (processor_at s p).mutex) (omega arith) in
          let h = held-some s.T (processor_at s p).current (processor_at s p).transit (omega (arith, g.table p r)) (omega (arith, g.table p r)) (omega (arith, g.table p r)) in
          rw (z.0, z.1) (omega (arith, sum_le (λ k. in_registers k (processor_at s p)) (λ k. 1 * 1 * in_registers k (processor_at s p)) (all s.T) 0 (λ i l. omega arith), h))

  one_each : (k : ℕ) → In s.T k → occurrences k (mutex_at s m).queue + sum (carried k) s.processors ≤ 1
  one_each k r =
      omega (
        arith,
        g.census k r,
        sum-at (λ (x : Mutex). occurrences k x.queue) s.mutexes m free_mutex (omega (arith, g.mutexes)),
        sum_le (carried k) (in_registers k) s.processors nobody
            (λ i l.
            times_le (duty (processor_at s (suc i)).position).carries (is m (processor_at s (suc i)).mutex) (in_registers k (processor_at s (suc i)))
            (omega (arith, g.table (suc i) (omega (arith, g.processors)))) (is_one m (processor_at s (suc i)).mutex)),
      )

  waiting_bound : length (mutex_at s m).queue + on s (λ w. w.carries) m ≤ s.T
  waiting_bound =
      omega (
        arith,
        queue-all s.T (mutex_at s m).queue (g.sound m rm).queue,
        sum_swap carried (all s.T) s.processors,
        sum-add (λ k. occurrences k (mutex_at s m).queue) (λ k. sum (carried k) s.processors) (all s.T),
        sum_ones (all s.T),
        length-tabulate itself 1 s.T,
        sum_le (weighs (λ w. w.carries) m) (λ (r : Processor). sum (λ k. carried k r) (all s.T)) s.processors nobody (λ i l. carried_ge (suc i) (omega (arith, g.processors))),
        sum_le (λ k. occurrences k (mutex_at s m).queue + sum (carried k) s.processors) (λ (k : ℕ). 1) (all s.T) 0
            (λ i l.
            let n : i < s.T = omega (arith, length-tabulate itself 1 s.T) in
            one_each (get_or (all s.T) i 0) (omega (arith, tabulate_getD itself 1 s.T i 0 n))),
      )

  pub count_bound : (mutex_at s m).count ≤ s.T + 1
  count_bound = omega (arith, waiting_bound, g.counts m rm, some_one (mutex_at s m).owner)
