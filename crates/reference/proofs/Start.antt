-- The ranges of a configuration without a cause, and the invariant at start.
-- Assumes nothing.
use Prim.Native.Nat.{ℕ, zero, suc, ◌+◌, ◌-◌, ◌≤◌, ◌<◌}
use mathlib.Core.Bool.{◌&&◌, not}
use mathlib.Core.Path.{◌≡◌, refl, ap, sym, ◌∙◌}
use native.Mathlib.Decide.{dec_le}
use native.Mathlib.Omega.{arith}
use lib.Dec.{leb}
use lib.ListN.{replicate, length-replicate, get_or-replicate, get_or-eq_default}
use borrow.Author.Tests.{leb-true, leb-false, le-leb, not-false}
use Rattle.reference.specs.Lists.{sum, is, choose, occurrences, around, in_range, tabulate}
use Rattle.reference.specs.State.{Processor, Mutex, App, CI2, queues, free_mutex, processor_at, mutex_at, life_at, nobody, live}
use Rattle.reference.specs.Start.{Config, config_cause, idle_at, first_processor, first_life, itself, first_queue, start}
use Rattle.reference.specs.Safe.{In}
use Rattle.reference.proofs.Tests.{◌and◌, range_true, passed}
use Rattle.reference.proofs.Sums.{is_same, is-other, some, length-tabulate, tabulate-at, around_in, sum-none, sum_one, sum_dealt, choose-by}
use Rattle.reference.proofs.Local.{out, in_out, Table, ProbeFits, Duty, duty}
use Rattle.reference.proofs.Invariant.{Good, some_queue, weighs, gone, in_registers, Claims}

pub record Ranges (c : Config) : Type 0 where
  pub processors : (1 ≤ c.P) × (c.P ≤ 8)
  pub threads : (1 ≤ c.T) × (c.T ≤ 32)
  pub mutexes : (1 ≤ c.M) × (c.M ≤ 8)
  pub created : (1 ≤ c.B) × (c.B ≤ c.T)
  pub stealing : c.stealing ≤ 1

pub ranges : (c : Config) → config_cause c ≡ 0 → Ranges c
unfolding config_cause
ranges c e =
    let f = range_true 1 8 c.P and range_true 1 32 c.T and range_true 1 8 c.M and range_true 1 c.T c.B and leb-true c.stealing 1 in
    let h = f (not-false _ (passed (not (in_range 1 8 c.P && in_range 1 32 c.T && in_range 1 8 c.M && in_range 1 c.T c.B && leb c.stealing 1)) _ _ e).0) in
    record { processors = h.0.0.0.0; threads = h.0.0.0.1; mutexes = h.0.0.1; created = h.0.1; stealing = h.1 }

module _ (c : Config) where
  pub processor-start : (p : ℕ) → In c.P p → processor_at (start c) p ≡ first_processor c.B p
  unfolding start
  processor-start p r = tabulate-at (first_processor c.B) c.P p nobody r

  pub mutex-start : (m : ℕ) → mutex_at (start c) m ≡ free_mutex
  unfolding start
  mutex-start zero = refl
  mutex-start (suc i) =
      elim (dec_le (suc i) c.M) [
        | yes h ↦ get_or-replicate c.M i free_mutex free_mutex h
        | no h ↦ get_or-eq_default (replicate c.M free_mutex) free_mutex (omega (arith, length-replicate c.M free_mutex))
      ]

  pub life-start : (k : ℕ) → In c.T k → life_at (start c) k ≡ first_life c.B k
  unfolding start
  life-start k r = tabulate-at (first_life c.B) c.T k live r

  -- what holds of App with a thread and of CI2 without one holds of every processor
  by-processor : (Q : Processor → Type 0) (p : ℕ) → In c.P p → (p ≤ c.B → Q (idle_at App p)) → Q (idle_at CI2 0) → Q (processor_at (start c) p)
  by-processor Q p r h k = rw (processor-start p r) (choose-by Q (leb p c.B) (λ e. h (leb-true p c.B e)) (λ e. k))

-- ---- the sums at start

module _ (b : ℕ) where
  weigh_none : (w : Duty → ℕ) (m n : ℕ) → w (duty App) ≡ 0 → w (duty CI2) ≡ 0 → sum (weighs w m) (tabulate (first_processor b) 1 n) ≡ 0
  weigh_none w m n h k =
      sum-none (weighs w m) (first_processor b) 1 n
      (λ i x y. choose-by (λ (r : Processor). weighs w m r ≡ 0) (leb i b) (λ e. rw h (omega arith)) (λ e. rw k (omega arith)))

  register_none : (k i : ℕ) → 1 ≤ k → (i ≡ k → b < k) → in_registers k (first_processor b i) ≡ 0
  register_none k i r h =
      choose-by (λ (c : Processor). in_registers k c ≡ 0) (leb i b)
      (λ e. let l = leb-true i b e in omega (arith, is-other k 0 (omega arith), is-other k i (λ z. absurd (omega (arith, h (sym z))))))
      (λ e. omega (arith, is-other k 0 (omega arith)))

  register_one : (k : ℕ) → 1 ≤ k → k ≤ b → in_registers k (first_processor b k) ≡ 1
  register_one k r l = rw (le-leb k b l) (omega (arith, is_same k, is-other k 0 (omega arith)))

  gone_start : (k : ℕ) → gone (first_life b k) ≡ choose (leb k b) 0 1
  gone_start k = choose-by (λ (n : ℕ). gone (first_life b k) ≡ n) (leb k b) (λ e. rw e) (λ e. rw e)

queues-start : (k n : ℕ) → sum (λ (x : Mutex). occurrences k x.queue) (replicate n free_mutex) ≡ 0
unfolding sum
queues-start k zero = refl
queues-start k (suc n) = omega (arith, queues-start k n)

module _ (c : Config) (x : Ranges c) where
  fits : c.B ≤ c.T
  fits = x.created.1

  -- the ready queues hold the threads P + 1 to B
  ready-start : (f : ℕ → ℕ) → sum (sum f) (tabulate (first_queue c) 1 (queues c.stealing c.P)) ≡ sum f (tabulate itself (suc c.P) (c.B - c.P))
  ready-start f =
      let r = queues c.stealing c.P in
      sum_dealt f (around r) r (λ k. around_in r k (some_queue c.stealing c.P 1 (omega (arith, x.processors)))) (tabulate itself (suc c.P) (c.B - c.P))

  abbrev in_ready : ℕ → ℕ
  in_ready k = occurrences k (tabulate itself (suc c.P) (c.B - c.P))

  abbrev in_processors : ℕ → ℕ
  in_processors k = sum (in_registers k) (tabulate (first_processor c.B) 1 c.P)

  census_start : (k : ℕ) → In c.T k → in_ready k + in_processors k + choose (leb k c.B) 0 1 ≡ 1
  census_start k r =
      choose-by (λ (n : ℕ). in_ready k + in_processors k + n ≡ 1) (leb k c.B)
      (λ e.
      let h = leb-true k c.B e in
      elim (dec_le k c.P) [ yes l ↦ omega (arith, waits-not (λ x. l), loaded h l) | no l ↦ omega (arith, waits h l, loaded_not (λ i x y. absurd (omega arith))) ])
      (λ e. let h = leb-false k c.B e in omega (arith, waits-not (λ x. absurd (omega arith)), loaded_not (λ i x y. h)))
    where
      waits : k ≤ c.B → (k ≤ c.P → ⊥) → in_ready k ≡ 1
      waits h l = sum_one (is k) itself (suc c.P) (c.B - c.P) k (omega arith) (omega arith) (is_same k) (λ i n. is-other k i (λ z. n (sym z)))

      waits-not : (k ≤ c.B → k ≤ c.P) → in_ready k ≡ 0
      waits-not h = sum-none (is k) itself (suc c.P) (c.B - c.P) (λ i x y. is-other k i (λ z. absurd (omega (arith, h (omega arith)))))

      loaded : k ≤ c.B → k ≤ c.P → in_processors k ≡ 1
      loaded h l =
          sum_one (in_registers k) (first_processor c.B) 1 c.P k r.0 (omega arith) (register_one c.B k r.0 h)
          (λ i n. register_none c.B k i r.0 (λ z. absurd (n z)))

      loaded_not : ((i : ℕ) → i < 1 + c.P → i ≡ k → c.B < k) → in_processors k ≡ 0
      loaded_not h = sum-none (in_registers k) (first_processor c.B) 1 c.P (λ i x y. register_none c.B k i r.0 (h i y))

  no_token-start : (m : ℕ) → 1 ≤ some (mutex_at (start c) m).token.processor → ⊥
  no_token-start m a = let z : 1 ≤ 0 = rw (mutex-start c m) at a in omega arith

  pub start_good : Good (start c)
  unfolding start sum
  start_good =
      record {
        applied = omega arith;
        processors = length-tabulate (first_processor c.B) 1 c.P;
        mutexes = length-replicate c.M free_mutex;
        lives = length-tabulate (first_life c.B) 1 c.T;
        table = λ p r. by-processor c (λ (x : Processor). Table c.P c.T c.M 0 x.position x) p r (λ h. omega arith) (omega arith);
        sound = λ m r. rw (mutex-start c m) (omega arith);
        queues = length-tabulate (first_queue c) 1 (queues c.stealing c.P);
        probe = λ p r.
            rw (length-tabulate (first_queue c) 1 (queues c.stealing c.P))
            (by-processor c (λ (x : Processor). ProbeFits (queues c.stealing c.P) x.position x.probe) p r
            (λ h. omega (arith, some_queue c.stealing c.P p r)) (omega (arith, some_queue c.stealing c.P p r)));
        ready = ready-start (out c.T) ∙ sum-none (out c.T) itself (suc c.P) (c.B - c.P) (λ i x y. in_out c.T i (omega arith) (omega (arith, fits)));
        counts = λ m r.
            rw (mutex-start c m)
            (omega (arith, weigh_none c.B (λ w. w.uncounted) m c.P refl refl, weigh_none c.B (λ w. w.carries) m c.P refl refl));
        hands = λ m r. rw (mutex-start c m) (omega (arith, weigh_none c.B (λ w. w.responsible) m c.P refl refl));
        holds = λ p r. by-processor c (λ (x : Processor). 1 ≤ (duty x.position).holds → x.current ≡ (mutex_at (start c) x.mutex).owner) p r (λ h. omega arith) (omega arith);
        census = λ k r. omega (arith, census_start k r, ready-start (is k), ap gone (life-start c k r), gone_start c.B k, queues-start k c.M);
        known-token = λ m r. rw (mutex-start c m) (omega arith);
        known-observed = λ p r. by-processor c (λ (x : Processor). x.observed.sequence ≤ (processor_at (start c) x.observed.processor).sequence) p r (λ h. omega arith) (omega arith);
        watched = λ m r a. absurd (no_token-start m a);
        claims = λ p r. by-processor c (λ (x : Processor). Claims (start c) x) p r (λ h. omega arith) (omega arith);
      }
