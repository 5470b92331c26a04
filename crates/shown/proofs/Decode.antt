-- The record of an allowed state keeps the rules, and it shows that state.
-- Assumes nothing.
use Prim.Native.Nat.{ℕ, zero, suc, ◌≤◌, ◌<◌}
use mathlib.Core.Bool.{Bool, true, false, ◌&&◌, ◌||◌, not}
use mathlib.Core.List.{List, []}
use mathlib.Core.Logic.{◌≢◌}
use mathlib.Core.Path.{◌≡◌, refl, ap, sym, subst, ◌∙◌}
use native.Mathlib.Omega.{arith}
use lib.Dec.{eqb}
use lib.ListN.{length}
use lib.Seq.{ext_get_or}
use borrow.Author.Tests.{eqb-true, eq-eqb, ne_eqb}
use Rattle.state.specs.declared.Thread.{Thread}
use Rattle.state.specs.Record.{zero_thread, thread_of, processor_of, mutex_of, first_of}
use Rattle.state.specs.Association.{encode, decode, queue_at, ready_index, queued_as, queue_shown, mutex_shown, processor_shown, token_shown, life_shown, thread_record, processor_record, mutex_record}
use Rattle.state.specs.Rules.{placed_in, chain_ok, chains_ok, register_matches, thread_matches, holders_ok, zero_processor?, zero_mutex?, zero_thread?, within_or, zero_past, state_ok}
use Rattle.state.specs.Allowed.{Allowed}
use Rattle.state.proofs.Numbers.{stands, queue-mutex, queue-ready, number_one}
use Rattle.reference.specs.Lists.{at, choose, in_range, tabulate}
use Rattle.reference.specs.State as reference
use Rattle.reference.specs.State.{Life, new, live, terminated, processor_at, mutex_at, life_at, nobody, free_mutex}
use Rattle.reference.specs.Picture.{behind}
use Rattle.reference.specs.Safe.{In}
use Rattle.reference.proofs.Tests.{both, both_left, both_right}
use Rattle.reference.proofs.Same.{line-number}
use Rattle.reference.proofs.Sums.{length-tabulate, tabulate_getD}
use Rattle.association.proofs.Spots.{Spot, AtSpot, entry_for, spot_entry, spot_of}
use Rattle.association.proofs.Shown.{Fits, allowed-fits, queue-thread, queue-once, queue-row, queue-short, read-processor, read-mutex, read_first, read-thread, read-entry}
use Rattle.shown.proofs.Tests.{at_out, Member, all-each}
use Rattle.shown.proofs.Chains.{Queue, linked_chain, behind_linked, queue-ok}
use Rattle.shown.proofs.Kept.{Kept, kept-state, Fields, fields_say, processor-says, placed_inside}

-- a list is the table of what is read from it
tabulate-back : {A : Type 0} (g : ℕ → A) (n : ℕ) (l : List A) (d : A) → length l ≡ n → ((i : ℕ) → In n i → g i ≡ at l i d) → tabulate g 1 n ≡ l
tabulate-back g n l d e h =
    ext_get_or d (tabulate g 1 n) l (length-tabulate g 1 n ∙ sym e)
    (λ i l. let z : i < n = omega (arith, length-tabulate g 1 n) in tabulate_getD g 1 n i d z ∙ ap g (omega arith) ∙ h (suc i) (omega arith))

processor_again : (x : reference.Processor) → processor_shown (processor_record x) ≡ x
processor_again x =
    λ i.
    record {
      position = line-number x.position i;
      current = x.current;
      transit = x.transit;
      mutex = x.mutex;
      observed = x.observed;
      sequence = x.sequence;
      answer = x.answer;
      probe = x.probe;
    }

-- a thread of a queue is placed in no other, and one that is placed in a queue has status 1 or 2
placed-number : (x q n : ℕ) → placed_in (queued_as x n) q ≡ true → x ≡ q
placed-number x q n e =
    let a : Thread = queued_as x n in
    let b : Thread = queued_as q 0 in
    number_one x n q 0 (eqb-true a.status b.status (both_left (eqb a.status b.status) (eqb a.holder b.holder) e))
    (eqb-true a.holder b.holder (both_right (eqb a.status b.status) (eqb a.holder b.holder) e))

placed-status : (n o x q : ℕ) → n ≢ 1 → n ≢ 2 → placed_in (stands n o x) q ≡ true → ⊥
placed-status n o x q h g e = by (in_range 1 8 q) (both_left (eqb n (choose (in_range 1 8 q) 2 1)) (eqb o (queued_as q 0).holder) e)
  where
    by : (b : Bool) → eqb n (choose b 2 1) ≡ true → ⊥
    by true e = g (eqb-true n 2 e)
    by false e = h (eqb-true n 1 e)

module _ (s : reference.State) (h : Allowed s) where
  fits : Fits s
  fits = allowed-fits s h

  -- ---- threads

  thread-at : (k : ℕ) → In s.T k → (x : Spot) → AtSpot s k x → thread_of (encode s) k ≡ thread_record (entry_for s k x)
  thread-at k i x a = read-entry s fits k i ∙ ap thread_record (spot_entry s fits.placed k i x a)

  no_thread : (k : ℕ) → in_range 1 s.T k ≡ false → thread_of (encode s) k ≡ zero_thread
  no_thread k e = read-thread s fits k ∙ rw e

  life-is : (k : ℕ) → In s.T k → life_shown (thread_of (encode s) k).status ≡ life_at s k
  life-is k i = by (life_at s k) refl
    where
      is_live : (b : Bool) → life_shown (choose b 2 1) ≡ live
      is_live true = refl
      is_live false = refl

      spot : (x : Spot) → AtSpot s k x → live ≡ life_at s k → life_shown (thread_record (entry_for s k x)).status ≡ live
      spot (Spot.queued q) a e = is_live (in_range 1 8 q)
      spot (Spot.current p) a e = refl
      spot (Spot.transit p) a e = refl
      spot Spot.new a e = sym (e ∙ a)
      spot Spot.terminated a e = sym (e ∙ a)

      by : (l : Life) → life_at s k ≡ l → life_shown (thread_of (encode s) k).status ≡ l
      by new e = rw (thread-at k i Spot.new e)
      by terminated e = rw (thread-at k i Spot.terminated e)
      by live e = let x = spot_of s fits.placed k i fits.m_most in rw (thread-at k i x.0 x.1) (spot x.0 x.1 (sym e))

  -- ---- queues

  -- a thread that is placed in a queue
  met : (q k : ℕ) → placed_in (thread_of (encode s) k) q ≡ true → Member k (queue_at s q)
  unfolding encode
  met q k e =
      let i : In s.T k = placed_inside (encode s) no_thread q k e in
      let x = spot_of s fits.placed k i fits.m_most in
      by x.0 x.1 (rw (thread-at k i x.0 x.1) at e)
    where
      by : (x : Spot) → AtSpot s k x → placed_in (thread_record (entry_for s k x)) q ≡ true → Member k (queue_at s q)
      by (Spot.queued x) a e = subst (λ (q : ℕ). Member k (queue_at s q)) (placed-number x q (behind k (queue_at s x)) e) a
      by (Spot.current p) a e = absurd (placed-status 3 p 0 q (omega arith) (omega arith) e)
      by (Spot.transit p) a e = absurd (placed-status 4 p 0 q (omega arith) (omega arith) e)
      by Spot.new a e = absurd (placed-status 0 0 0 q (omega arith) (omega arith) e)
      by Spot.terminated a e = absurd (placed-status 5 0 0 q (omega arith) (omega arith) e)

  queue-is : (q : ℕ) → Queue (thread_of (encode s)) q (first_of (encode s) q) (queue_at s q)
  queue-is q =
      record {
        linked =
            rw (read_first s fits q)
            (behind_linked (λ k. (thread_of (encode s) k).next) (queue_at s q) (queue-once s fits q) (λ k m. (queue-thread s fits q k m).0)
            (λ k m. ap (λ (x : Thread). x.next) (queue-row s fits q k m)));
        once = queue-once s fits q;
        placed = λ k m. rw (queue-row s fits q k m, eq-eqb (queued_as q 0).status (queued_as q 0).status refl) (eq-eqb (queued_as q 0).holder (queued_as q 0).holder refl);
        met = met q;
      }

  queue-most : (q : ℕ) → length (queue_at s q) ≤ 32
  queue-most q = omega (arith, queue-short s fits q, fits.t_most)

  queue_again : (q : ℕ) → queue_shown (encode s) q ≡ queue_at s q
  queue_again q = linked_chain (thread_of (encode s)) 32 (first_of (encode s) q) (queue_at s q) (queue-is q).linked (queue-most q)

  -- ---- the state that is shown

  processors_again : tabulate (λ p. processor_shown (processor_of (encode s) p)) 1 s.P ≡ s.processors
  processors_again =
      tabulate-back (λ p. processor_shown (processor_of (encode s) p)) s.P s.processors nobody h.processors
      (λ p i. ap processor_shown (read-processor s fits p) ∙ processor_again (processor_at s p))

  ready_again : tabulate (λ i. queue_shown (encode s) (ready_index s.stealing i)) 1 (reference.queues s.stealing s.P) ≡ s.ready
  ready_again =
      tabulate-back (λ i. queue_shown (encode s) (ready_index s.stealing i)) (reference.queues s.stealing s.P) s.ready [] h.count
      (λ i l. queue_again (ready_index s.stealing i) ∙ queue-ready s i l)

  mutexes_again : tabulate (mutex_shown (encode s)) 1 s.M ≡ s.mutexes
  mutexes_again = tabulate-back (mutex_shown (encode s)) s.M s.mutexes free_mutex h.mutexes by
    where
      by : (m : ℕ) → In s.M m → mutex_shown (encode s) m ≡ mutex_at s m
      by zero i = absurd (omega (arith, i.0))
      by (suc m) i =
          λ j.
          record {
            count = (read-mutex s fits (suc m) j).count;
            queue = (queue_again (suc m) ∙ queue-mutex s (suc m) (omega (arith, fits.m_most))) j;
            owner = (read-mutex s fits (suc m) j).owner;
            token = token_shown (read-mutex s fits (suc m) j).token;
          }

  lives_again : tabulate (λ k. life_shown (thread_of (encode s) k).status) 1 s.T ≡ s.lives
  lives_again = tabulate-back (λ k. life_shown (thread_of (encode s) k).status) s.T s.lives live h.lives life-is

  pub decode-encode : decode (encode s) ≡ s
  unfolding decode encode
  decode-encode =
      λ i.
      record {
        P = s.P;
        T = s.T;
        M = s.M;
        stealing = s.stealing;
        ready = ready_again i;
        processors = processors_again i;
        mutexes = mutexes_again i;
        lives = lives_again i;
        applied = s.applied;
      }

  -- ---- the record keeps the rules

  -- a register of processor p that holds k; `n` is the status of the threads that it holds
  register_kept : (n p k : ℕ) → (In s.T k → thread_of (encode s) k ≡ stands n p 0) → k ≤ s.T → register_matches (encode s) n p k ≡ true
  register_kept n p zero h l = refl
  register_kept n p (suc k) h l = rw (h (omega arith), eq-eqb n n refl, eq-eqb p p refl, ne_eqb (suc k) 0 (omega arith))

  kept-fields : Fields (encode s)
  kept-fields = fields_say (encode s) h.fields

  -- the registers of a processor hold threads
  holds_threads : (p : ℕ) → In s.P p → ((processor_at s p).current ≤ s.T) × ((processor_at s p).transit ≤ s.T)
  unfolding encode
  holds_threads p i =
      let f = processor-says (encode s) (processor_of (encode s) p) (kept-fields.processor p i) in
      let e = read-processor s fits p in
      (rw e at f.1, rw e at f.2)

  registers : (p : ℕ) → In s.P p → register_matches (encode s) 3 p (processor_of (encode s) p).current && register_matches (encode s) 4 p (processor_of (encode s) p).transit ≡ true
  registers p i =
      rw (read-processor s fits p)
      (both (register_kept 3 p (processor_at s p).current (λ k. thread-at (processor_at s p).current k (Spot.current p) (i, refl)) (holds_threads p i).0)
      (register_kept 4 p (processor_at s p).transit (λ k. thread-at (processor_at s p).transit k (Spot.transit p) (i, refl)) (holds_threads p i).1))

  matches : (k : ℕ) → In s.T k → thread_matches (encode s) k ≡ true
  matches k i = let x = spot_of s fits.placed k i fits.m_most in by x.0 x.1
    where
      in_queue : (b x y : Bool) → (not (eqb (choose b 2 1) 3) || x) && (not (eqb (choose b 2 1) 4) || y) ≡ true
      in_queue true x y = refl
      in_queue false x y = refl

      by : (x : Spot) → AtSpot s k x → thread_matches (encode s) k ≡ true
      by (Spot.queued q) a = rw (thread-at k i (Spot.queued q) a) (in_queue (in_range 1 8 q) _ _)
      by (Spot.current p) a = rw (thread-at k i (Spot.current p) a, read-processor s fits p) (both (eq-eqb (processor_at s p).current k a.1) refl)
      by (Spot.transit p) a = rw (thread-at k i (Spot.transit p) a, read-processor s fits p) (eq-eqb (processor_at s p).transit k a.1)
      by Spot.new a = rw (thread-at k i Spot.new a)
      by Spot.terminated a = rw (thread-at k i Spot.terminated a)

  -- what lies outside is zero
  past : zero_past (encode s) ≡ true
  unfolding zero_past encode
  past =
      both
      (both (all-each (λ p. within_or s.P p (zero_processor? (processor_of (encode s) p))) 0 9 (λ p a b. no_processor p (in_range 1 s.P p) refl))
      (all-each (λ m. within_or s.M m (zero_mutex? (mutex_of (encode s) m))) 0 9 (λ m a b. no_mutex m (in_range 1 s.M m) refl)))
      (all-each (λ k. within_or s.T k (zero_thread? (thread_of (encode s) k))) 0 33 (λ k a b. none k (in_range 1 s.T k) refl))
    where
      no_processor : (p : ℕ) (b : Bool) → in_range 1 s.P p ≡ b → b || zero_processor? (processor_of (encode s) p) ≡ true
      no_processor p true e = refl
      no_processor p false e = ap zero_processor? (read-processor s fits p ∙ ap processor_record (at_out s.processors s.P p nobody h.processors e))

      no_mutex : (m : ℕ) (b : Bool) → in_range 1 s.M m ≡ b → b || zero_mutex? (mutex_of (encode s) m) ≡ true
      no_mutex m true e = refl
      no_mutex m false e = ap zero_mutex? (read-mutex s fits m ∙ ap mutex_record (at_out s.mutexes s.M m free_mutex h.mutexes e))

      none : (k : ℕ) (b : Bool) → in_range 1 s.T k ≡ b → b || zero_thread? (thread_of (encode s) k) ≡ true
      none k true e = refl
      none k false e = ap zero_thread? (no_thread k e)

  kept : Kept (encode s)
  unfolding chains_ok holders_ok encode
  kept =
      record {
        fields = h.fields;
        chains =
            all-each (λ q. chain_ok (thread_of (encode s)) s.T q (first_of (encode s) q)) 0 17
            (λ q a b. queue-ok (thread_of (encode s)) s.T q (first_of (encode s) q) (queue_at s q) (queue-most q) (queue-is q));
        holders = both (all-each _ 1 s.P (λ p a b. registers p (omega arith))) (all-each (thread_matches (encode s)) 1 s.T (λ k a b. matches k (omega arith)));
        past = past;
      }

  pub encode-ok : state_ok (encode s) ≡ true
  encode-ok = kept-state (encode s) kept
