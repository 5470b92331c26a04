-- What is read from the record of a state, at every index; and the record that reads like it.
-- Assumes nothing.
use Prim.Native.Nat.{ℕ, zero, suc, ◌≤◌, ◌<◌}
use mathlib.Core.Bool.{Bool, true, false, ◌&&◌}
use mathlib.Core.List.{List, [], ◌∷◌, ◌++◌}
use Rattle.std.proofs.Common.{Some, None}
use mathlib.Core.Logic.{◌≢◌}
use mathlib.Core.Path.{◌≡◌, refl, ap, sym, ◌∙◌}
use native.Mathlib.Omega.{arith}
use native.Mathlib.Decide.{dec_le}
use lib.Dec.{leb}
use lib.ListN.{length}
use borrow.Author.Tests.{eq-eqb, ne_eqb, lt-leb}
use Rattle.reference.specs.Lists.{sum, occurrences, if_empty, in_range}
use Rattle.reference.specs.State as reference
use Rattle.reference.specs.State.{nobody, free_mutex, processor_at, mutex_at}
use Rattle.reference.specs.Safe.{In}
use Rattle.reference.specs.Picture.{thread_entry, behind, first}
use Rattle.reference.proofs.Tests.{both_left, ◌and◌, true_range, range_true}
use Rattle.reference.proofs.Sums.{sum-at}
use Rattle.state.specs.declared.Thread.{Thread}
use Rattle.state.specs.declared.Processor.{Processor}
use Rattle.state.specs.declared.Mutex.{Mutex}
use Rattle.state.specs.declared.State.{State}
use Rattle.state.specs.Model.Access.{taken}
use Rattle.state.specs.Record.{zero_thread, zero_processor, zero_mutex, thread_of, processor_of, mutex_of, first_of}
use Rattle.state.specs.Association.{encode, processor_record, mutex_record, thread_record, thread_row, queue_at, ready_index, queued_as}
use Rattle.state.proofs.Numbers.{at_past, by_number}
use Rattle.state.specs.Rules.{every, fields_ok, sizes_ok}
use Rattle.state.specs.Allowed.{Allowed}
use Rattle.association.proofs.Tables.{tabulate-read, tabulate_of}
use Rattle.association.proofs.Queues.{every_in, occurs_here, behind-at, last, walk, queue-length}
use Rattle.association.proofs.Spots.{queued, Placed, allowed-placed, spot_entry}

-- each thread in one place, within the record's arrays, and the queues hold threads
pub record Fits (s : reference.State) : Type 0 where
  pub placed : Placed s
  pub p_most : s.P ≤ 8
  pub m_most : s.M ≤ 8
  pub t_most : s.T ≤ 32
  pub queues : (q : ℕ) → every (in_range 1 s.T) (queue_at s q) ≡ true

no_members : (test : ℕ → Bool) → every test [] ≡ true
unfolding every
no_members test = refl

allowed_sizes : (s : reference.State) → Allowed s → sizes_ok (encode s) ≡ true
unfolding fields_ok
allowed_sizes s h =
    both_left (sizes_ok (encode s)) _ (both_left _ _ (both_left _ _ (both_left _ _ (both_left _ _ (both_left _ _ h.fields)))))

pub allowed-fits : (s : reference.State) → Allowed s → Fits s
unfolding encode
allowed-fits s h =
    let e = (range_true 1 8 s.P and range_true 1 32 s.T and range_true 1 8 s.M) (allowed_sizes s h) in
    record {
      placed = allowed-placed h;
      p_most = e.0.0.1;
      m_most = e.1.1;
      t_most = e.0.1.1;
      queues =
          by_number s (λ q l. every (in_range 1 s.T) l ≡ true) h.count (λ q. no_members (in_range 1 s.T))
          h.ready (λ m l u. h.queues m (omega (arith, h.mutexes)));
    }

-- ---- rows of threads

pub row-some : (s : reference.State) (k : ℕ) → In s.T k → thread_row s k ≡ thread_record (thread_entry s k)
row-some s k r = rw (true_range 1 s.T k r.0 r.1)

pub out_of_range : (lo hi n : ℕ) → (lo ≤ n → n ≤ hi → ⊥) → in_range lo hi n ≡ false
out_of_range lo hi n h =
    elim (dec_le lo n) [ yes l ↦ rw (lt-leb n hi (omega (arith, h l))) (both_false (leb lo n)) | no l ↦ rw (lt-leb lo n (omega arith)) ]
  where
    both_false : (b : Bool) → b && false ≡ false
    both_false true = refl
    both_false false = refl

pub row-none : (s : reference.State) (k : ℕ) → (In s.T k → ⊥) → thread_row s k ≡ zero_thread
row-none s k n = rw (out_of_range 1 s.T k (λ l g. n (l, g)))

-- a thread stands in a queue at most once
pub placed-once : (s : reference.State) → Placed s → (q k : ℕ) → In s.T k → occurrences k (queue_at s q) ≤ 1
unfolding sum
placed-once s h q k r =
    by_number s (λ q l. occurrences k l ≤ 1) h.count (λ q. omega arith)
    (λ i l. omega (arith, h.one_place k r, sum-at (occurrences k) s.ready i [] l))
    (λ m l u. omega (arith, h.one_place k r, sum-at (λ (x : reference.Mutex). occurrences k x.queue) s.mutexes m free_mutex l))
    q

-- a ready queue's number is at most 16
some_number : (stealing P i : ℕ) → In (reference.queues stealing P) i → P ≤ 8 → 16 < ready_index stealing i → ⊥
some_number zero P i r l u = omega arith
some_number (suc c) P i r l u = omega arith

-- ---- reads

module _ (s : reference.State) (h : Fits s) where
  mutex_past : (m : ℕ) → s.M < m → mutex_at s m ≡ free_mutex
  mutex_past m l = at_past s.mutexes m free_mutex (omega (arith, h.placed.mutexes))

  -- there are 17 queues
  queue_past : (q : ℕ) → 16 < q → queue_at s q ≡ []
  queue_past q =
      by_number s (λ q l. 16 < q → l ≡ []) h.placed.count (λ q l. refl)
      (λ i l u. absurd (some_number s.stealing s.P i (omega (arith, h.placed.count)) h.p_most u)) (λ m l b u. absurd (omega arith)) q

  pub read-processor : (p : ℕ) → processor_of (encode s) p ≡ processor_record (processor_at s p)
  unfolding encode
  read-processor p =
      tabulate-read (λ p. processor_record (processor_at s p)) 9 p zero_processor
      (λ l. sym (ap processor_record (at_past s.processors p nobody (omega (arith, h.placed.processors, h.p_most)))))

  pub read-mutex : (m : ℕ) → mutex_of (encode s) m ≡ mutex_record (mutex_at s m)
  unfolding encode
  read-mutex m = tabulate-read (λ m. mutex_record (mutex_at s m)) 9 m zero_mutex (λ l. sym (ap mutex_record (mutex_past m (omega (arith, h.m_most)))))

  pub read_first : (q : ℕ) → first_of (encode s) q ≡ first (queue_at s q)
  unfolding encode
  read_first q = tabulate-read (λ q. first (queue_at s q)) 17 q 0 (λ l. sym (ap first (queue_past q l)))

  pub read-thread : (k : ℕ) → thread_of (encode s) k ≡ thread_row s k
  unfolding encode
  read-thread k = tabulate-read (thread_row s) 33 k zero_thread (λ l. sym (row-none s k (λ r. omega (arith, h.t_most))))

  pub read-entry : (k : ℕ) → In s.T k → thread_of (encode s) k ≡ thread_record (thread_entry s k)
  read-entry k r = read-thread k ∙ row-some s k r

  -- ---- queues

  -- the record's first tells whether a queue is empty
  pub first-none : (q : ℕ) → queue_at s q ≡ [] → first_of (encode s) q ≡ 0
  first-none q e = read_first q ∙ ap first e

  pub first_some : (q k : ℕ) (rest : List ℕ) → queue_at s q ≡ k ∷ rest → first_of (encode s) q ≡ k
  first_some q k rest e = read_first q ∙ ap first e

  -- only threads stand in a queue, none twice, and so it is not long
  pub queue-thread : (q k : ℕ) → 1 ≤ occurrences k (queue_at s q) → In s.T k
  queue-thread q k o = every_in s.T k (queue_at s q) (h.queues q) o

  pub queue-once : (q k : ℕ) → occurrences k (queue_at s q) ≤ 1
  queue-once q k =
      elim (dec_le 1 (occurrences k (queue_at s q))) [ yes o ↦ placed-once s h.placed q k (queue-thread q k o) | no o ↦ omega arith ]

  pub queue-short : (q : ℕ) → length (queue_at s q) ≤ s.T
  queue-short q = queue-length s.T (queue_at s q) (h.queues q) (λ k r. queue-once q k)

  -- the one behind is the record's next
  pub queue-row : (q k : ℕ) → 1 ≤ occurrences k (queue_at s q) → thread_of (encode s) k ≡ queued_as q (behind k (queue_at s q))
  queue-row q k o =
      let r = queue-thread q k o in
      read-entry k r ∙ ap thread_record (spot_entry s h.placed k r (queued q) o)

  pub queue-next : (q k : ℕ) (a b : List ℕ) → queue_at s q ≡ a ++ k ∷ b → thread_of (encode s) k ≡ queued_as q (first b)
  queue-next q k a b e =
      queue-row q k (rw e (occurs_here k a b)) ∙ ap (queued_as q) (ap (behind k) e ∙ behind-at k a b (rw e at (queue-once q k)))

  -- what taking from a queue finds
  pub read_taken : (q : ℕ) → taken (encode s).chains q ≡ if_empty (queue_at s q) None (λ k rest. Some (record { thread = k; rest = first rest }))
  unfolding taken
  read_taken q = by (queue_at s q) refl
    where
      by : (a : List ℕ) → queue_at s q ≡ a → taken (encode s).chains q ≡ if_empty (queue_at s q) None (λ k rest. Some (record { thread = k; rest = first rest }))
      by [] e = rw (e, eq-eqb (first_of (encode s) q) 0 (first-none q e))
      by (k ∷ rest) e =
          let r : In s.T k = queue-thread q k (rw e (occurs_here k [] rest)) in
          let d : first_of (encode s) q ≡ k = first_some q k rest e in
          let n : (thread_of (encode s) k).next ≡ first rest = ap (λ (t : Thread). t.next) (queue-next q k [] rest e) in
          rw (e, d, ne_eqb k 0 (omega arith), n)

  -- a walk by next from the first, within 32 links, ends at the last
  pub queue_walk : (from : ℕ → ℕ → ℕ) → ((f k : ℕ) → (thread_of (encode s) k).next ≡ 0 → from f k ≡ k) →
      ((f k : ℕ) → (thread_of (encode s) k).next ≢ 0 → from (suc f) k ≡ from f (thread_of (encode s) k).next) →
      (q x : ℕ) (rest : List ℕ) → queue_at s q ≡ x ∷ rest → from 32 (first_of (encode s) q) ≡ last x rest
  queue_walk from stop on q x rest was =
      let n : length (queue_at s q) ≡ suc (length rest) = ap length was in
      ap (from 32) (read_first q ∙ ap first was) ∙
      walk (λ k. (thread_of (encode s) k).next) from stop on (queue_at s q)
      (λ a k b e. ((queue-thread q k (rw e (occurs_here k a b))).0, ap (λ (t : Thread). t.next) (queue-next q k a b e)))
      32 [] x rest was (omega (arith, queue-short q, h.t_most))

-- ---- the record that reads so

-- the reads within the arrays are those of the state
pub record Agrees (r : State) (s : reference.State) : Type 0 where
  pub p : r.p ≡ s.P
  pub t : r.t ≡ s.T
  pub m : r.m ≡ s.M
  pub stealing : r.stealing ≡ s.stealing
  pub applied : r.applied ≡ s.applied
  pub firsts-length : length r.chains.firsts ≡ 17
  pub threads-length : length r.chains.threads ≡ 33
  pub processors-length : length r.processors ≡ 9
  pub mutexes-length : length r.mutexes ≡ 9
  pub first : (q : ℕ) → q < 17 → first_of r q ≡ first (queue_at s q)
  pub thread : (k : ℕ) → k < 33 → thread_of r k ≡ thread_row s k
  pub processor : (p : ℕ) → p < 9 → processor_of r p ≡ processor_record (processor_at s p)
  pub mutex : (m : ℕ) → m < 9 → mutex_of r m ≡ mutex_record (mutex_at s m)

abbrev make : ℕ → ℕ → ℕ → ℕ → ℕ → List ℕ → List Thread → List Processor → List Mutex → State
make p t m c n f ts ps ms = record { p = p; t = t; m = m; stealing = c; applied = n; chains = record { firsts = f; threads = ts }; processors = ps; mutexes = ms }

pub encode_ext : (r : State) (s : reference.State) → Agrees r s → r ≡ encode s
unfolding encode
encode_ext r s h =
    λ i. make (h.p i) (h.t i) (h.m i) (h.stealing i) (h.applied i)
    (tabulate_of (λ q. first (queue_at s q)) 17 0 r.chains.firsts h.firsts-length h.first i)
    (tabulate_of (thread_row s) 33 zero_thread r.chains.threads h.threads-length h.thread i)
    (tabulate_of (λ p. processor_record (processor_at s p)) 9 zero_processor r.processors h.processors-length h.processor i)
    (tabulate_of (λ m. mutex_record (mutex_at s m)) 9 zero_mutex r.mutexes h.mutexes-length h.mutex i)
