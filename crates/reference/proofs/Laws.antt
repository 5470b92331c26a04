-- The laws of safety, and what else is known of a state that has the invariant or is reached.
-- Assumes nothing.
use Prim.Native.Nat.{ℕ, zero, suc, ◌+◌, ◌≤◌}
use mathlib.Core.Bool.{Bool, true, false}
use mathlib.Core.List.{List, [], ◌∷◌}
use mathlib.Core.Path.{◌≡◌, refl, ap, sym, ◌∙◌}
use native.Mathlib.Decide.{ℕ_discrete}
use native.Mathlib.Omega.{arith}
use lib.Dec.{eqb, ltb, leb}
use lib.ListN.{length}
use borrow.Author.Tests.{leb-true, leb-false, le-ltb, lt-ltb, eqb-true, eq-eqb, ne_eqb}
use Rattle.reference.specs.State.{Processor, Mutex, Life, live, State, L9, U1, nobody, processor_at, mutex_at, life_at}
use Rattle.reference.specs.Start.{Config, config_cause, first_life, start}
use Rattle.reference.specs.Step.{Move, next, run}
use Rattle.reference.specs.Cause.{accepted}
use Rattle.reference.specs.History.{owns}
use Rattle.reference.specs.Safe.{In, one_if, end, Owns, unborn, ended, UnderWay, Always, Safe}
use Rattle.reference.proofs.Sums.{is-other, some, some_le, some_pos, sum-some, choose-by}
use Rattle.reference.proofs.Local.{Duty, duty}
use Rattle.reference.proofs.Invariant.{Good, reached, weighs, on, times_zero, gone}
use Rattle.reference.proofs.Owners.{owner_history}
use Rattle.reference.proofs.Start.{ranges, start_good, mutex-start, life-start}
use Rattle.reference.proofs.Lives.{life_history, is_new, is-over}
use Rattle.reference.proofs.Living.{Living, living}

-- ---- of a run

sizes : (ms : List Move) (s : State) → ((run s ms).P ≡ s.P) × ((run s ms).T ≡ s.T) × ((run s ms).M ≡ s.M) × ((run s ms).stealing ≡ s.stealing)
unfolding run next
sizes [] s = (refl, refl, refl, refl)
sizes (a ∷ rest) s = sizes rest (next s a)

applied-run : (ms : List Move) (s : State) → (run s ms).applied ≡ s.applied + length ms
unfolding run next
applied-run [] s = omega arith
applied-run (a ∷ rest) s = omega (arith, applied-run rest (next s a))

-- ---- of a state that has the invariant

module _ (s : State) (g : Good s) where
  -- a processor at L9 finds someone in the queue
  pub queue_at_L9 : (p : ℕ) → In s.P p → (processor_at s p).position ≡ L9 → 1 ≤ length (mutex_at s (processor_at s p).mutex).queue
  queue_at_L9 p r e = let t : (duty (processor_at s p).position).takes ≡ 1 = ap (λ l. (duty l).takes) e in omega (arith, g.claims p r)

  -- a processor at U1 finds its own thread counted
  pub count_at_U1 : (p : ℕ) → In s.P p → (processor_at s p).position ≡ U1 → 1 ≤ (mutex_at s (processor_at s p).mutex).count
  count_at_U1 p r e =
      let t : (duty (processor_at s p).position).holds ≡ 1 = ap (λ l. (duty l).holds) e in
      let o = g.holds p r (omega arith) in
      omega (
        arith,
        g.hands (processor_at s p).mutex (omega (arith, g.table p r)),
        some_le (mutex_at s (processor_at s p).mutex).count,
        some_pos (mutex_at s (processor_at s p).mutex).owner (omega (arith, g.table p r)),
      )

  -- no sequence number is above the moves that stand
  pub sequence_bound : (p : ℕ) → p ≤ s.P → (processor_at s p).sequence ≤ s.applied
  sequence_bound zero r = omega arith
  sequence_bound (suc p) r = (g.table (suc p) (omega arith)).registers.sequence

  pub observed_bound : (p : ℕ) → In s.P p → (processor_at s p).observed.sequence ≤ s.applied
  observed_bound p r = omega (arith, g.known-observed p r, sequence_bound (processor_at s p).observed.processor (g.table p r).registers.observed-most)

  pub token_bound : (m : ℕ) → In s.M m → (mutex_at s m).token.sequence ≤ s.applied
  token_bound m r = (g.sound m r).token-high

  -- a sum over the processors on m that is not 0 shows a call on m under way
  on_call : (m : ℕ) (w : Duty → ℕ) → 1 ≤ on s w m → (p : ℕ) × In s.P p × ((processor_at s p).mutex ≡ m)
  on_call m w h = let x = sum-some (weighs w m) s.processors nobody h in (x.0, omega (arith, x.1, g.processors), on_it (processor_at s x.0) x.2)
    where
      on_it : (r : Processor) → 1 ≤ weighs w m r → r.mutex ≡ m
      on_it r c = elim (ℕ_discrete m r.mutex) [ yes z ↦ sym z | no n ↦ absurd (omega (arith, times_zero (w (duty r.position)) (is-other m r.mutex n))) ]

  -- somebody waits for m and nobody owns it: a call on m is under way
  on_call_waits : (m : ℕ) → In s.M m → 1 ≤ length (mutex_at s m).queue → (mutex_at s m).owner ≡ 0 → (p : ℕ) × In s.P p × ((processor_at s p).mutex ≡ m)
  on_call_waits m rm q c = by (on s (λ w. w.uncounted) m) (on s (λ w. w.responsible) m) refl refl
    where
      by : (u r : ℕ) → on s (λ w. w.uncounted) m ≡ u → on s (λ w. w.responsible) m ≡ r → (p : ℕ) × In s.P p × ((processor_at s p).mutex ≡ m)
      by (suc u) r a b = on_call m (λ w. w.uncounted) (omega arith)
      by zero (suc r) a b = on_call m (λ w. w.responsible) (omega arith)
      by zero zero a b =
          let n : 1 ≤ (mutex_at s m).count = omega (arith, g.counts m rm) in
          let t : 1 ≤ some (mutex_at s m).token.processor = omega (arith, g.hands m rm, some_pos (mutex_at s m).count n, ap some c) in
          let w = g.watched m rm t q in
          (w.0, w.1, w.2)

-- ---- of a state that is reached

pub good : (c : Config) → config_cause c ≡ 0 → (ms : List Move) → accepted (start c) ms ≡ true → Good (run (start c) ms)
good c e ms ok = reached ms (start c) (start_good c (ranges c e)) ok

-- the sizes are those of the configuration
pub sized : (c : Config) (ms : List Move) → ((run (start c) ms).P ≡ c.P) × ((run (start c) ms).T ≡ c.T) × ((run (start c) ms).M ≡ c.M) × ((run (start c) ms).stealing ≡ c.stealing)
unfolding start
sized c ms = sizes ms (start c)

-- the applied moves are those of the list
pub applied-is : (c : Config) (ms : List Move) → (run (start c) ms).applied ≡ length ms
unfolding start
applied-is c ms = omega (arith, applied-run ms (start c))

first-lives : (b k : ℕ) → (is_new (first_life b k) ≡ ltb b k) × (is-over (first_life b k) ≡ false)
first-lives b k =
    choose-by (λ (l : Life). (is_new l ≡ ltb b k) × (is-over l ≡ false)) (leb k b)
    (λ e. (sym (le-ltb b k (leb-true k b e)), refl)) (λ e. (sym (lt-ltb b k (leb-false k b e)), refl))

-- at start no mutex has an owner
start_living : (c : Config) → Living (start c)
start_living c m rm = ap (λ (x : Mutex). life_at (start c) x.owner) (mutex-start c m)

module _ (c : Config) (e : config_cause c ≡ 0) (ms : List Move) (ok : accepted (start c) ms ≡ true) where
  -- the owner by history is the owner field
  pub owner-is : (m k : ℕ) → In c.M m → 1 ≤ k → owns (start c) ms m k false ≡ eqb (mutex_at (run (start c) ms) m).owner k
  unfolding start
  owner-is m k rm rk =
      let z : eqb (mutex_at (start c) m).owner k ≡ false = rw (mutex-start c m) (ne_eqb 0 k (omega arith)) in
      rw z at (owner_history ms (start c) m k (start_good c (ranges c e)) ok rm rk)

  -- a thread is new or terminated by history where its life says so
  gone_is : (k : ℕ) → In c.T k → gone (life_at (run (start c) ms) k) ≡ one_if (unborn c ms k) + one_if (ended c ms k)
  unfolding start
  gone_is k r =
      let z = first-lives c.B k in
      rw (life-start c k r, z.0, z.1) at (life_history ms (start c) k (start_good c (ranges c e)) ok r)

-- one of two tests counts where it holds
none-counted : (a b : Bool) → one_if a + one_if b ≡ 0 → (a ≡ false) × (b ≡ false)
none-counted true b h = absurd (omega arith)
none-counted false true h = absurd (omega arith)
none-counted false false h = (refl, refl)

pub safe : Always Safe
safe c ms e ok =
    record {
      one_owner = λ m k j rm rk rj h i. owned m k rm rk h ∙ sym (owned m j rm rj i);
      owner_lives = λ m k rm rk h. none-counted (unborn c ms k) (ended c ms k) (sym (gone_is c e ms ok k rk) ∙ ap gone (lives m k rm (owned m k rm rk h)));
      one_place = λ k r. omega (arith, g.census k (omega (arith, sized c ms)), gone_is c e ms ok k r);
      none_left = λ m rm nobody-owns nobody-calls. empty (mutex_at (end c ms) m).queue (λ q. nobody-calls (calls m rm q (no_owner m rm nobody-owns)));
    }
  where
    g : Good (end c ms)
    g = good c e ms ok

    owned : (m k : ℕ) → In c.M m → In c.T k → Owns c ms m k → k ≡ (mutex_at (end c ms) m).owner
    owned m k rm rk h = sym (eqb-true (mutex_at (end c ms) m).owner k (sym (owner-is c e ms ok m k rm rk.0) ∙ h))

    lives : (m k : ℕ) → In c.M m → k ≡ (mutex_at (end c ms) m).owner → life_at (end c ms) k ≡ live
    lives m k rm h = ap (life_at (end c ms)) h ∙ living ms (start c) (start_good c (ranges c e)) (start_living c) ok m (omega (arith, sized c ms))

    no_owner : (m : ℕ) → In c.M m → ((k : ℕ) → In c.T k → ¬ (Owns c ms m k)) → (mutex_at (end c ms) m).owner ≡ 0
    no_owner m rm h = by (mutex_at (end c ms) m).owner refl
      where
        by : (o : ℕ) → (mutex_at (end c ms) m).owner ≡ o → (mutex_at (end c ms) m).owner ≡ 0
        by zero z = z
        by (suc o) z =
            absurd
            (h (suc o) (omega (arith, g.sound m (omega (arith, sized c ms)), sized c ms))
            (owner-is c e ms ok m (suc o) rm (omega arith) ∙ eq-eqb (mutex_at (end c ms) m).owner (suc o) z))

    calls : (m : ℕ) → In c.M m → 1 ≤ length (mutex_at (end c ms) m).queue → (mutex_at (end c ms) m).owner ≡ 0 → UnderWay c ms m
    calls m rm q o = let x = on_call_waits (end c ms) g m (omega (arith, sized c ms)) q o in (x.0, omega (arith, x.1, sized c ms), x.2)

    empty : (q : List ℕ) → ¬ (1 ≤ length q) → q ≡ []
    empty [] h = refl
    empty (x ∷ xs) h = absurd (h (omega arith))
