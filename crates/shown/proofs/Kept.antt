-- What a record that keeps the rules says of each of its processors, mutexes, threads and queues.
-- Assumes nothing.
use Prim.Native.Nat.{ℕ, zero, suc, ◌≤◌}
use mathlib.Core.Bool.{Bool, true, false, ◌&&◌, not, true≢false}
use mathlib.Core.List.{List}
use mathlib.Core.Path.{◌≡◌, refl, sym}
use native.Mathlib.Omega.{arith}
use native.Mathlib.Decide.{dec_lt}
use lib.Dec.{eqb, leb}
use lib.ListN.{length, get_or, get_or-eq_default}
use borrow.Author.Tests.{leb-true, le-leb, eqb-true, eqb-false, not-false}
use Rattle.state.specs.declared.Thread.{Thread}
use Rattle.state.specs.declared.Token.{Token}
use Rattle.state.specs.declared.Processor.{Processor}
use Rattle.state.specs.declared.Mutex.{Mutex}
use Rattle.state.specs.declared.State.{State}
use Rattle.state.specs.Record.{zero_thread, zero_token, zero_processor, zero_mutex, thread_of, processor_of, mutex_of, first_of, Sized}
use Rattle.state.specs.Association.{queue_shown, queued_as}
use Rattle.state.proofs.Numbers.{stands}
use Rattle.state.specs.Rules.{processor_ok, register_ok, mutex_ok, holder_ok, next_ok, thread_ok, is_queue, fields_ok, placed_in, chain_ok, chains_ok, register_matches, thread_matches, holders_ok, broken_rule, zero_token?, zero_processor?, zero_mutex?, zero_thread?, within_or, zero_past, state_ok}
use Rattle.reference.specs.Lists.{choose, in_range, each}
use Rattle.reference.specs.State.{Row, queues, row, line_of}
use Rattle.reference.specs.Safe.{In}
use Rattle.reference.proofs.Tests.{both, both_left, both_right, ◌and◌, range_true, true_range, passed}
use Rattle.shown.proofs.Tests.{either, each_all, all-each}
use Rattle.shown.proofs.Chains.{Queue, PlacedIn, ok-queue}

-- ---- the rules apart, and together

pub record Kept (r : State) : Type 0 where
  pub fields : fields_ok r ≡ true
  pub chains : chains_ok r ≡ true
  pub holders : holders_ok r ≡ true
  pub past : zero_past r ≡ true

pub state-kept : (r : State) → state_ok r ≡ true → Kept r
unfolding state_ok broken_rule
state-kept r e =
    let a = passed (not (fields_ok r)) _ _ (eqb-true (broken_rule r) 0 (both_left (eqb (broken_rule r) 0) (zero_past r) e)) in
    let b = passed (not (chains_ok r)) _ _ a.1 in
    let c = passed (not (holders_ok r)) _ _ b.1 in
    record {
      fields = not-false _ a.0;
      chains = not-false _ b.0;
      holders = not-false _ c.0;
      past = both_right (eqb (broken_rule r) 0) (zero_past r) e;
    }

pub kept-state : (r : State) → Kept r → state_ok r ≡ true
unfolding state_ok broken_rule
kept-state r h = rw (h.fields, h.chains, h.holders, h.past)

-- ---- what each rule says

pub record Fields (r : State) : Type 0 where
  pub p_range : In 8 r.p
  pub t_range : In 32 r.t
  pub m_range : In 8 r.m
  pub stealing : r.stealing ≤ 1
  pub applied : r.applied ≤ 4000
  pub first : (q : ℕ) → q ≤ 16 → first_of r q ≤ choose (is_queue r.p r.m r.stealing q) r.t 0
  pub processor : (p : ℕ) → In r.p p → processor_ok r.p r.t r.m (queues r.stealing r.p) (processor_of r p) ≡ true
  pub mutex : (m : ℕ) → In r.m m → mutex_ok r.p r.t (mutex_of r m) ≡ true
  pub thread : (k : ℕ) → In r.t k → thread_ok r.p r.t r.m r.stealing (thread_of r k) ≡ true

pub fields_say : (r : State) → fields_ok r ≡ true → Fields r
unfolding fields_ok
fields_say r e =
    let f = (
    (range_true 1 8 r.p and range_true 1 32 r.t and range_true 1 8 r.m) and leb-true r.stealing 1 and leb-true r.applied 4000 and
    each_all (λ q. leb (first_of r q) (choose (is_queue r.p r.m r.stealing q) r.t 0)) 0 17 and
    each_all (λ p. processor_ok r.p r.t r.m (queues r.stealing r.p) (processor_of r p)) 1 r.p and
    each_all (λ m. mutex_ok r.p r.t (mutex_of r m)) 1 r.m and
    each_all (λ k. thread_ok r.p r.t r.m r.stealing (thread_of r k)) 1 r.t
    ) e in
    record {
      p_range = f.0.0.0.0.0.0.0.0;
      t_range = f.0.0.0.0.0.0.0.1;
      m_range = f.0.0.0.0.0.0.1;
      stealing = f.0.0.0.0.0.1;
      applied = f.0.0.0.0.1;
      first = λ q l. leb-true (first_of r q) (choose (is_queue r.p r.m r.stealing q) r.t 0) (f.0.0.0.1 q (omega arith) (omega arith));
      processor = λ p i. f.0.0.1 p i.0 (omega (arith, i.1));
      mutex = λ m i. f.0.1 m i.0 (omega (arith, i.1));
      thread = λ k i. f.1 k i.0 (omega (arith, i.1));
    }

pub say_fields : (r : State) → Fields r → fields_ok r ≡ true
unfolding fields_ok
say_fields r f =
    both
    (both
    (both
    (both
    (both
    (both
    (both (both (true_range 1 8 r.p f.p_range.0 f.p_range.1) (true_range 1 32 r.t f.t_range.0 f.t_range.1)) (true_range 1 8 r.m f.m_range.0 f.m_range.1))
    (le-leb r.stealing 1 f.stealing))
    (le-leb r.applied 4000 f.applied))
    (all-each (λ q. leb (first_of r q) (choose (is_queue r.p r.m r.stealing q) r.t 0)) 0 17 (λ q a b. le-leb (first_of r q) (choose (is_queue r.p r.m r.stealing q) r.t 0) (f.first q (omega arith)))))
    (all-each (λ p. processor_ok r.p r.t r.m (queues r.stealing r.p) (processor_of r p)) 1 r.p (λ p a b. f.processor p (omega arith))))
    (all-each (λ m. mutex_ok r.p r.t (mutex_of r m)) 1 r.m (λ m a b. f.mutex m (omega arith))))
    (all-each (λ k. thread_ok r.p r.t r.m r.stealing (thread_of r k)) 1 r.t (λ k a b. f.thread k (omega arith)))

-- a register that passes its test is at most the top of its range
register_most : (column top n : ℕ) → register_ok column top n ≡ true → n ≤ top
register_most column top n = by (eqb column 1)
  where
    by : (b : Bool) → choose b (in_range 1 top n) (eqb n 0) ≡ true → n ≤ top
    by true e = (range_true 1 top n e).1
    by false e = omega (arith, eqb-true n 0 e)

-- of a processor: its position, and the threads in its registers
pub processor-says : (r : State) (x : Processor) → processor_ok r.p r.t r.m (queues r.stealing r.p) x ≡ true → (x.position ≤ 24) × (x.current ≤ r.t) × (x.transit ≤ r.t)
unfolding processor_ok
processor-says r x e =
    let w : Row = row (line_of x.position) in
    let f = (
    leb-true x.position 24 and register_most w.current r.t x.current and register_most w.transit r.t x.transit
    ) (both_left _ _ (both_left _ _ (both_left _ _ (both_left _ _ (both_left _ _ (both_left _ _ e)))))) in
    (f.0.0, f.0.1, f.1)

-- a thread by its status: who may be its holder, and whether it may have a next
pub data Shape (r : State) (x : Thread) : Type 0 where
  new : x ≡ stands 0 0 0 → Shape r x
  single : (n : ℕ) → r.stealing ≡ 0 → x ≡ stands 1 0 n → Shape r x
  each-ready : (p n : ℕ) → r.stealing ≡ 1 → In r.p p → x ≡ stands 1 p n → Shape r x
  waiting : (m n : ℕ) → In r.m m → x ≡ stands 2 m n → Shape r x
  current : (p : ℕ) → In r.p p → x ≡ stands 3 p 0 → Shape r x
  transit : (p : ℕ) → In r.p p → x ≡ stands 4 p 0 → Shape r x
  terminated : x ≡ stands 5 0 0 → Shape r x

shape_by : (r : State) → r.stealing ≤ 1 → (s h n : ℕ) → leb s 5 ≡ true → holder_ok r.p r.m r.stealing (stands s h n) ≡ true → next_ok r.t (stands s h n) ≡ true → Shape r (stands s h n)
shape_by r small zero h n a b c = new (λ i. stands 0 (eqb-true h 0 b i) (eqb-true n 0 c i))
shape_by r small (suc zero) h n a b c = by (eqb r.stealing 1) refl b
  where
    by : (t : Bool) → eqb r.stealing 1 ≡ t → choose t (in_range 1 r.p h) (eqb h 0) ≡ true → Shape r (stands 1 h n)
    by true e d = each-ready h n (eqb-true r.stealing 1 e) (range_true 1 r.p h d) refl
    by false e d = single n (omega (arith, small, eqb-false r.stealing 1 e)) (λ i. stands 1 (eqb-true h 0 d i) n)
shape_by r small (suc (suc zero)) h n a b c = waiting h n (range_true 1 r.m h b) refl
shape_by r small (suc (suc (suc zero))) h n a b c = current h (range_true 1 r.p h b) (λ i. stands 3 h (eqb-true n 0 c i))
shape_by r small (suc (suc (suc (suc zero)))) h n a b c = transit h (range_true 1 r.p h b) (λ i. stands 4 h (eqb-true n 0 c i))
shape_by r small (suc (suc (suc (suc (suc zero))))) h n a b c = terminated (λ i. stands 5 (eqb-true h 0 b i) (eqb-true n 0 c i))
shape_by r small (suc (suc (suc (suc (suc (suc s)))))) h n a b c = absurd (omega (arith, leb-true (suc (suc (suc (suc (suc (suc s)))))) 5 a))

pub shape : (r : State) → r.stealing ≤ 1 → (x : Thread) → thread_ok r.p r.t r.m r.stealing x ≡ true → Shape r x
unfolding thread_ok
shape r small x e =
    let a : leb x.status 5 && holder_ok r.p r.m r.stealing x ≡ true = both_left (leb x.status 5 && holder_ok r.p r.m r.stealing x) (next_ok r.t x) e in
    shape_by r small x.status x.holder x.next (both_left (leb x.status 5) (holder_ok r.p r.m r.stealing x) a)
    (both_right (leb x.status 5) (holder_ok r.p r.m r.stealing x) a) (both_right (leb x.status 5 && holder_ok r.p r.m r.stealing x) (next_ok r.t x) e)

is-zero_token : (t : Token) → zero_token? t ≡ true → t ≡ zero_token
is-zero_token t e = let h = (eqb-true t.processor 0 and eqb-true t.sequence 0) e in (λ i. record { processor = h.0 i; sequence = h.1 i })

is-zero_thread : (x : Thread) → zero_thread? x ≡ true → x ≡ zero_thread
is-zero_thread x e = let h = (eqb-true x.status 0 and eqb-true x.holder 0 and eqb-true x.next 0) e in (λ i. stands (h.0.0 i) (h.0.1 i) (h.1 i))

is-zero_mutex : (x : Mutex) → zero_mutex? x ≡ true → x ≡ zero_mutex
is-zero_mutex x e =
    let h = (eqb-true x.count 0 and eqb-true x.owner 0 and is-zero_token x.token) e in
    (λ i. record { count = h.0.0 i; owner = h.0.1 i; token = h.1 i })

is-zero_processor : (x : Processor) → zero_processor? x ≡ true → x ≡ zero_processor
is-zero_processor x e =
    let h = (
    eqb-true x.position 0 and eqb-true x.current 0 and eqb-true x.transit 0 and eqb-true x.mutex 0 and is-zero_token x.observed and
    eqb-true x.sequence 0 and eqb-true x.answer 0 and eqb-true x.probe 0
    ) e in
    (λ i.
    record {
      position = h.0.0.0.0.0.0.0 i;
      current = h.0.0.0.0.0.0.1 i;
      transit = h.0.0.0.0.0.1 i;
      mutex = h.0.0.0.0.1 i;
      observed = h.0.0.0.1 i;
      sequence = h.0.0.1 i;
      answer = h.0.1 i;
      probe = h.1 i;
    })

-- a list that holds zero outside 1 to n is read as zero there, at any index
beyond : {A : Type 0} (l : List A) (d : A) (size n : ℕ) (zero? : A → Bool) → length l ≡ size → ((x : A) → zero? x ≡ true → x ≡ d)
    → each (λ i. within_or n i (zero? (get_or l i d))) 0 size ≡ true → (i : ℕ) → in_range 1 n i ≡ false → get_or l i d ≡ d
beyond l d size n zero? e is h i out =
    elim (dec_lt i size) [
      | yes z ↦ is (get_or l i d) (either (in_range 1 n i) (zero? (get_or l i d)) (each_all (λ i. within_or n i (zero? (get_or l i d))) 0 size h i (omega arith) (omega arith)) out)
      | no z ↦ get_or-eq_default l d (omega arith)
    ]

pub record Facts (r : State) : Type 0 where
  pub fields : Fields r
  pub thread : (k : ℕ) → In r.t k → Shape r (thread_of r k)
  pub queue : (q : ℕ) → q ≤ 16 → Queue (thread_of r) q (first_of r q) (queue_shown r q)
  -- registers and statuses 3 and 4
  pub registers : (p : ℕ) → In r.p p → (register_matches r 3 p (processor_of r p).current ≡ true) × (register_matches r 4 p (processor_of r p).transit ≡ true)
  pub matches : (k : ℕ) → In r.t k → thread_matches r k ≡ true
  -- zero where there is none
  pub no_processor : (p : ℕ) → in_range 1 r.p p ≡ false → processor_of r p ≡ zero_processor
  pub no_mutex : (m : ℕ) → in_range 1 r.m m ≡ false → mutex_of r m ≡ zero_mutex
  pub no_first : (q : ℕ) → q ≤ 16 → is_queue r.p r.m r.stealing q ≡ false → first_of r q ≡ 0
  pub no_thread : (k : ℕ) → in_range 1 r.t k ≡ false → thread_of r k ≡ zero_thread

-- a thread that is placed in a queue is one of the threads: the others are zero
placed-some : (q : ℕ) → placed_in zero_thread q ≡ true → ⊥
placed-some q = go (in_range 1 8 q)
  where
    go : (b : Bool) → eqb 0 (choose b 2 1) && eqb 0 (queued_as q 0).holder ≡ true → ⊥
    go true e = true≢false (sym e)
    go false e = true≢false (sym e)

pub placed_inside : (r : State) → ((k : ℕ) → in_range 1 r.t k ≡ false → thread_of r k ≡ zero_thread) → (q k : ℕ) → PlacedIn (thread_of r) q k → In r.t k
placed_inside r zero-else q k e = go (in_range 1 r.t k) refl
  where
    go : (b : Bool) → in_range 1 r.t k ≡ b → In r.t k
    go true i = range_true 1 r.t k i
    go false i = absurd (placed-some q (rw (zero-else k i) at e))

pub facts : (r : State) → Sized r → Kept r → Facts r
unfolding chains_ok holders_ok zero_past
facts r z h =
    let f : Fields r = fields_say r h.fields in
    let g = (
    each_all (λ p. register_matches r 3 p (processor_of r p).current && register_matches r 4 p (processor_of r p).transit) 1 r.p and
    each_all (thread_matches r) 1 r.t
    ) h.holders in
    let c = (
    beyond r.processors zero_processor 9 r.p zero_processor? z.processors is-zero_processor and
    beyond r.mutexes zero_mutex 9 r.m zero_mutex? z.mutexes is-zero_mutex and
    beyond r.chains.threads zero_thread 33 r.t zero_thread? z.threads is-zero_thread
    ) h.past in
    record {
      fields = f;
      thread = λ k i. shape r f.stealing (thread_of r k) (f.thread k i);
      queue = λ q i.
          ok-queue (thread_of r) r.t q (first_of r q) f.t_range.1 (placed_inside r c.1 q)
          (each_all (λ q. chain_ok (thread_of r) r.t q (first_of r q)) 0 17 h.chains q (omega arith) (omega arith));
      registers = λ p i.
          let e = g.0 p i.0 (omega (arith, i.1)) in (
            both_left (register_matches r 3 p (processor_of r p).current) (register_matches r 4 p (processor_of r p).transit) e,
            both_right (register_matches r 3 p (processor_of r p).current) (register_matches r 4 p (processor_of r p).transit) e,
          );
      matches = λ k i. g.1 k i.0 (omega (arith, i.1));
      no_processor = c.0.0;
      no_mutex = c.0.1;
      no_first = λ q l e. let m : first_of r q ≤ 0 = rw e at (f.first q l) in omega arith;
      no_thread = c.1;
    }
