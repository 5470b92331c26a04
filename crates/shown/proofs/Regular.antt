-- The rules of an allowed state as inequalities on its registers, mutexes and queues: regular is what is allowed, in the form that arithmetic reads.
-- Assumes nothing.
use Prim.Native.Nat.{ℕ, zero, suc, ◌+◌, ◌-◌, ◌*◌, ◌≤◌, ◌<◌}
use mathlib.Core.Bool.{Bool, true, false, ◌&&◌, ◌||◌}
use mathlib.Core.List.{List, [], ◌∷◌}
use mathlib.Core.Path.{◌≡◌, refl, ap, sym, subst}
use native.Mathlib.Omega.{arith}
use lib.Dec.{eqb, ltb, leb}
use lib.ListN.{length}
use borrow.Author.Tests.{leb-true, le-leb, lt-ltb, ltb-true, eq-eqb, eqb-true, ne_eqb}
use Rattle.state.specs.declared.Token.{Token}
use Rattle.state.specs.declared.Thread.{Thread}
use Rattle.state.specs.Record.{thread_of, processor_of, mutex_of, first_of}
use Rattle.state.specs.Association.{encode, queue_at, ready_index, queued_as, thread_record, token_record, processor_record}
use Rattle.state.proofs.Numbers.{by_number, mutex_as, ready_as}
use Rattle.state.specs.Rules.{every, register_ok, token_ok, processor_ok, mutex_ok, thread_ok, is_queue}
use Rattle.state.specs.Allowed.{Allowed}
use Rattle.reference.specs.Lists.{at, choose, if_zero, in_range, sum, occurrences}
use Rattle.reference.specs.State as reference
use Rattle.reference.specs.State.{Line, App, CI2, CI3, L1, L3, L4, L6, L7, L8, L9, L10, TL1, GT1, GT3, TL3, U1, H2, H3, H5, H6, H8, Y1, Y2, Y3, C2, Row, row, same_line, probes, processor_at, mutex_at}
use Rattle.reference.specs.Picture.{first, behind}
use Rattle.reference.specs.Safe.{In}
use Rattle.reference.proofs.Tests.{both, both_left, both_right, ◌and◌, range_true, true_range}
use Rattle.reference.proofs.Same.{line-number}
use Rattle.reference.proofs.Sums.{some, some_le, some_one, some_pos, sum-at}
use Rattle.reference.proofs.Local as local
use Rattle.reference.proofs.Local.{out, out_in, in_out, ProbeFits, Sound}
use Rattle.reference.proofs.Invariant.{some_queue}
use Rattle.association.proofs.Spots.{Spot, AtSpot, entry_for, Placed, allowed-placed, spot_entry, spot_of}
use Rattle.association.proofs.Shown.{Fits, out_of_range, allowed-fits, read-processor, read-mutex, read_first, read-entry}
use Rattle.shown.proofs.Tests.{occurs_none}
use Rattle.shown.proofs.Kept.{Fields, say_fields, fields_say}

-- the registers of a processor at line l, and the fields of a mutex: sequence numbers go to 4,000
abbrev pub Registers : ℕ → ℕ → ℕ → Line → reference.Processor → Type 0
Registers P T M l r = local.Registers P T M 4000 l r

pub record Ranges (P T : ℕ) (x : reference.Mutex) : Type 0 where
  pub count : x.count ≤ T + 1
  pub sound : Sound P T 4000 x

pub record Regular (s : reference.State) : Type 0 where
  pub p_range : In 8 s.P
  pub t_range : In 32 s.T
  pub m_range : In 8 s.M
  pub stealing : s.stealing ≤ 1
  pub applied : s.applied ≤ 4000
  pub placed : Placed s
  pub probe : (p : ℕ) → In s.P p → ProbeFits (length s.ready) (processor_at s p).position (processor_at s p).probe
  pub ready : sum (sum (out s.T)) s.ready ≡ 0
  pub registers : (p : ℕ) → In s.P p → Registers s.P s.T s.M (processor_at s p).position (processor_at s p)
  pub mutex : (m : ℕ) → In s.M m → Ranges s.P s.T (mutex_at s m)

-- ---- the register table

record Small (w : Row) : Type 0 where
  number : w.number ≤ 24
  current : w.current ≤ 1
  transit : w.transit ≤ 1
  mutex : w.mutex ≤ 1
  observed : w.observed ≤ 1

row_small : (l : Line) → Small (row l)
row_small App = omega arith
row_small CI2 = omega arith
row_small CI3 = omega arith
row_small L1 = omega arith
row_small L3 = omega arith
row_small L4 = omega arith
row_small L6 = omega arith
row_small L7 = omega arith
row_small L8 = omega arith
row_small L9 = omega arith
row_small L10 = omega arith
row_small TL1 = omega arith
row_small GT1 = omega arith
row_small GT3 = omega arith
row_small TL3 = omega arith
row_small U1 = omega arith
row_small H2 = omega arith
row_small H3 = omega arith
row_small H5 = omega arith
row_small H6 = omega arith
row_small H8 = omega arith
row_small Y1 = omega arith
row_small Y2 = omega arith
row_small Y3 = omega arith
row_small C2 = omega arith

register_fits : (c top n : ℕ) → c ≤ 1 → c ≤ n → n ≤ top * c → register_ok c top n ≡ true
register_fits zero top n one low high = eq-eqb n 0 (omega arith)
register_fits (suc zero) top n one low high = true_range 1 top n low (omega arith)
register_fits (suc (suc c)) top n one low high = absurd (omega arith)

-- within its range
record Within (c top n : ℕ) : Type 0 where
  low : c ≤ n
  high : n ≤ top * c
  most : n ≤ top

fits_register : (c top n : ℕ) → c ≤ 1 → register_ok c top n ≡ true → Within c top n
fits_register zero top n one e = omega (arith, eqb-true n 0 e)
fits_register (suc zero) top n one e = omega (arith, range_true 1 top n e)
fits_register (suc (suc c)) top n one e = absurd (omega arith)

-- ---- tokens

token-fits : (top : ℕ) (t : Token) → t.processor ≤ top → some t.processor ≤ t.sequence → t.sequence ≤ 4000 * some t.processor → token_ok top t ≡ true
token-fits top t a b c = by t.processor refl
  where
    by : (p : ℕ) → t.processor ≡ p → token_ok top t ≡ true
    by zero e =
        let z : some t.processor ≡ 0 = ap some e in
        both (both (le-leb t.processor top a) (le-leb t.sequence 4000 (omega arith))) (rw (eq-eqb t.processor 0 e, eq-eqb t.sequence 0 (omega arith)))
    by (suc p) e =
        let z : some t.processor ≡ 1 = ap some e in
        both (both (le-leb t.processor top a) (le-leb t.sequence 4000 (omega arith)))
        (rw (ne_eqb t.processor 0 (omega arith), lt-ltb 0 t.processor (omega arith), lt-ltb 0 t.sequence (omega arith)))

record Token-ranges (top : ℕ) (t : Token) : Type 0 where
  processor : t.processor ≤ top
  low : some t.processor ≤ t.sequence
  high : t.sequence ≤ 4000 * some t.processor

fits-token : (top : ℕ) (t : Token) → token_ok top t ≡ true → Token-ranges top t
fits-token top t e =
    let a = (leb-true t.processor top and leb-true t.sequence 4000) (both_left _ _ e) in
    by (eqb t.processor 0 && eqb t.sequence 0) refl a (both_right (leb t.processor top && leb t.sequence 4000) _ e)
  where
    by : (b : Bool) → eqb t.processor 0 && eqb t.sequence 0 ≡ b → (t.processor ≤ top) × (t.sequence ≤ 4000) → b || ltb 0 t.processor && ltb 0 t.sequence ≡ true → Token-ranges top t
    by true z a e = let w = (eqb-true t.processor 0 and eqb-true t.sequence 0) z in omega (arith, ap some w.0, w.1, a)
    by false z a e = let w = (ltb-true 0 t.processor and ltb-true 0 t.sequence) e in omega (arith, some_pos t.processor w.0, w.1, a)

-- of a token that is there where a column has 1
observed-some : (c top : ℕ) (t : Token) → c ≤ 1 → c ≤ t.processor → t.processor ≤ top * c → some t.processor ≡ c
observed-some zero top t one a b = omega (arith, some_le t.processor)
observed-some (suc zero) top t one a b = some_pos t.processor a
observed-some (suc (suc c)) top t one a b = absurd (omega arith)

-- ---- queues of threads

queue-fits : (t : ℕ) (q : List ℕ) → sum (out t) q ≡ 0 → every (in_range 1 t) q ≡ true
unfolding every sum
queue-fits t [] h = refl
queue-fits t (x ∷ q) h = let i = out_in t x (omega arith) in both (true_range 1 t x i.0 i.1) (queue-fits t q (omega arith))

fits-queue : (t : ℕ) (q : List ℕ) → every (in_range 1 t) q ≡ true → sum (out t) q ≡ 0
unfolding every sum
fits-queue t [] h = refl
fits-queue t (x ∷ q) h =
    let i = range_true 1 t x (both_left (in_range 1 t x) (every (in_range 1 t) q) h) in
    omega (arith, in_out t x i.0 i.1, fits-queue t q (both_right (in_range 1 t x) (every (in_range 1 t) q) h))

first-most : (t : ℕ) (q : List ℕ) → every (in_range 1 t) q ≡ true → first q ≤ t
unfolding every
first-most t [] e = omega arith
first-most t (x ∷ q) e = (range_true 1 t x (both_left (in_range 1 t x) (every (in_range 1 t) q) e)).1

behind-most : (t k : ℕ) (q : List ℕ) → every (in_range 1 t) q ≡ true → behind k q ≤ t
unfolding every behind
behind-most t k [] e = omega arith
behind-most t k (x ∷ q) e = by (eqb x k) (behind-most t k q rest)
  where
    rest : every (in_range 1 t) q ≡ true
    rest = both_right (in_range 1 t x) (every (in_range 1 t) q) e

    by : (b : Bool) → behind k q ≤ t → choose b (first q) (behind k q) ≤ t
    by true h = first-most t q rest
    by false h = h

no_weight : (t : ℕ) → sum (out t) [] ≡ 0
unfolding sum
no_weight t = refl

-- the probe of r queues, as the rule says it
probe-fits : (r n : ℕ) (l : Line) → ProbeFits r l n → leb n ((r - 1) * probes l) ≡ true
probe-fits r n l h = by (same_line l CI2) h.most h.zero
  where
    by : (b : Bool) → n < r → n ≤ r * choose b 1 0 → leb n ((r - 1) * choose b 1 0) ≡ true
    by true m z = le-leb n ((r - 1) * 1) (omega arith)
    by false m z = le-leb n ((r - 1) * 0) (omega arith)

fits-probe : (r n : ℕ) (l : Line) → 1 ≤ r → leb n ((r - 1) * probes l) ≡ true → ProbeFits r l n
fits-probe r n l h e = let w = two (same_line l CI2) (leb-true n ((r - 1) * probes l) e) in record { most = w.0; zero = w.1 }
  where
    two : (b : Bool) → n ≤ (r - 1) * choose b 1 0 → (n < r) × (n ≤ r * choose b 1 0)
    two true m = (omega arith, omega arith)
    two false m = (omega arith, omega arith)

-- ---- a regular state is allowed

-- a ready queue is there, and its threads name its processor
ready-queue : (stealing P M i : ℕ) → In (reference.queues stealing P) i → M ≤ 8 → in_range 1 M (ready_index stealing i) || if_zero stealing (eqb (ready_index stealing i) 0) (in_range 9 (8 + P) (ready_index stealing i)) ≡ true
ready-queue zero P M i r l = refl
ready-queue (suc c) P M i r l = rw (out_of_range 1 M (8 + i) (λ a b. omega arith)) (true_range 9 (8 + P) (8 + i) (omega arith) (omega arith))

ready-holder : (stealing P i : ℕ) → stealing ≤ 1 → In (reference.queues stealing P) i → choose (eqb stealing 1) (in_range 1 P (if_zero stealing 0 i)) (eqb (if_zero stealing 0 i) 0) ≡ true
ready-holder zero P i l r = refl
ready-holder (suc zero) P i l r = true_range 1 P i r.0 r.1
ready-holder (suc (suc c)) P i l r = absurd (omega arith)

module _ (s : reference.State) (g : Regular s) where
  ready-threads : (i : ℕ) → In (length s.ready) i → every (in_range 1 s.T) (reference.queue_at s i) ≡ true
  ready-threads i l = queue-fits s.T (reference.queue_at s i) (omega (arith, g.ready, sum-at (sum (out s.T)) s.ready i [] l))

  queue-threads : (q : ℕ) → every (in_range 1 s.T) (queue_at s q) ≡ true
  queue-threads =
      by_number s (λ q l. every (in_range 1 s.T) l ≡ true) g.placed.count (λ q. queue-fits s.T [] (no_weight s.T)) ready-threads
      (λ m l u. queue-fits s.T (mutex_at s m).queue (g.mutex m (omega (arith, g.placed.mutexes))).sound.queue)

  pub regular_fits : Fits s
  regular_fits = record { placed = g.placed; p_most = g.p_range.1; m_most = g.m_range.1; t_most = g.t_range.1; queues = queue-threads }

  processor-fits : (p : ℕ) → In s.P p → processor_ok s.P s.T s.M (reference.queues s.stealing s.P) (processor_of (encode s) p) ≡ true
  unfolding processor_ok encode
  processor-fits p i =
      let x : reference.Processor = processor_at s p in
      let t = g.registers p i in
      let w = row_small x.position in
      let e = observed-some (row x.position).observed s.P (token_record x.observed) w.observed t.observed-low t.observed-high in
      rw (read-processor s regular_fits p, line-number x.position)
      (both
      (both
      (both
      (both
      (both
      (both
      (both
      (both (le-leb (row x.position).number 24 w.number) (register_fits (row x.position).current s.T x.current w.current t.current-low t.current-high))
      (register_fits (row x.position).transit s.T x.transit w.transit t.transit-low t.transit-high))
      (register_fits (row x.position).mutex s.M x.mutex w.mutex t.mutex-low t.mutex-high))
      (register_fits (row x.position).observed s.P x.observed.processor w.observed t.observed-low t.observed-high))
      (token-fits s.P (token_record x.observed) t.observed-most (rw e t.observed_sequence-low) (rw e t.observed_sequence-high)))
      (le-leb x.sequence 4000 t.sequence))
      (le-leb x.answer 2 t.answer))
      (probe-fits (reference.queues s.stealing s.P) x.probe x.position (rw g.placed.count at (g.probe p i))))

  mutex-fits : (m : ℕ) → In s.M m → mutex_ok s.P s.T (mutex_of (encode s) m) ≡ true
  unfolding mutex_ok encode
  mutex-fits zero i = absurd (omega (arith, i.0))
  mutex-fits (suc m) i =
      let x : reference.Mutex = mutex_at s (suc m) in
      let z = g.mutex (suc m) i in
      rw (read-mutex s regular_fits (suc m))
      (both
      (both (le-leb x.count (s.T + 1) z.count)
      (le-leb x.owner s.T z.sound.owner))
      (token-fits s.P (token_record x.token) z.sound.token z.sound.token-low z.sound.token-zero))

  -- the first of a queue that is there is a thread, and of one that is not there is none
  first_fits : (q : ℕ) → q ≤ 16 → first_of (encode s) q ≤ choose (is_queue (encode s).p (encode s).m (encode s).stealing q) s.T 0
  unfolding encode
  first_fits q l =
      rw (read_first s regular_fits q)
      (by_number s (λ q l. first l ≤ choose (in_range 1 s.M q || if_zero s.stealing (eqb q 0) (in_range 9 (8 + s.P) q)) s.T 0) g.placed.count
      (λ q. omega arith)
      (λ i l. rw (ready-queue s.stealing s.P s.M i (omega (arith, g.placed.count)) g.m_range.1) (first-most s.T (reference.queue_at s i) (ready-threads i l)))
      (λ m l u.
      rw (true_range 1 s.M m l.0 (omega (arith, g.placed.mutexes)))
      (first-most s.T (mutex_at s m).queue (queue-fits s.T (mutex_at s m).queue (g.mutex m (omega (arith, g.placed.mutexes))).sound.queue))) q)

  thread-fits : (k : ℕ) → In s.T k → thread_ok s.P s.T s.M s.stealing (thread_of (encode s) k) ≡ true
  unfolding thread_ok encode
  thread-fits k i =
      let x = spot_of s g.placed k i g.m_range.1 in
      rw (read-entry s regular_fits k i, spot_entry s g.placed k i x.0 x.1) (by x.0 x.1)
    where
      no_member : 1 ≤ occurrences k [] → ⊥
      no_member o = omega (arith, occurs_none k)

      by : (x : Spot) → AtSpot s k x → thread_ok s.P s.T s.M s.stealing (thread_record (entry_for s k x)) ≡ true
      by (Spot.queued q) a =
          by_number s (λ q l. 1 ≤ occurrences k l → thread_ok s.P s.T s.M s.stealing (queued_as q (behind k l)) ≡ true) g.placed.count
          (λ q o. absurd (no_member o))
          (λ i l o.
          subst (λ (x : Thread). thread_ok s.P s.T s.M s.stealing x ≡ true) (sym (ready_as s.stealing i (behind k (reference.queue_at s i)) l.0))
          (both (ready-holder s.stealing s.P i g.stealing (omega (arith, g.placed.count))) (le-leb (behind k (reference.queue_at s i)) s.T (behind-most s.T k (reference.queue_at s i) (ready-threads i l)))))
          (λ m l u o.
          subst (λ (x : Thread). thread_ok s.P s.T s.M s.stealing x ≡ true) (sym (mutex_as m (behind k (mutex_at s m).queue) (omega arith)))
          (both (true_range 1 s.M m l.0 (omega (arith, g.placed.mutexes)))
          (le-leb (behind k (mutex_at s m).queue) s.T (behind-most s.T k (mutex_at s m).queue (queue-fits s.T (mutex_at s m).queue (g.mutex m (omega (arith, g.placed.mutexes))).sound.queue)))))
          q a
      by (Spot.current p) a = both (true_range 1 s.P p a.0.0 a.0.1) refl
      by (Spot.transit p) a = both (true_range 1 s.P p a.0.0 a.0.1) refl
      by Spot.new a = refl
      by Spot.terminated a = refl

  fields : Fields (encode s)
  unfolding encode
  fields =
      record {
        p_range = g.p_range;
        t_range = g.t_range;
        m_range = g.m_range;
        stealing = g.stealing;
        applied = g.applied;
        first = first_fits;
        processor = processor-fits;
        mutex = mutex-fits;
        thread = thread-fits;
      }

  pub regular_allowed : Allowed s
  regular_allowed =
      record {
        processors = g.placed.processors;
        mutexes = g.placed.mutexes;
        lives = g.placed.lives;
        count = g.placed.count;
        fields = say_fields (encode s) fields;
        ready = ready-threads;
        queues = λ m i. queue-fits s.T (mutex_at s m).queue (g.mutex m i).sound.queue;
        one_place = g.placed.one_place;
      }

-- ---- and an allowed state is regular

-- a list of lists none of which weighs anything
sum-nothing : (f : List ℕ → ℕ) (l : List (List ℕ)) → ((i : ℕ) → In (length l) i → f (at l i []) ≡ 0) → sum f l ≡ 0
unfolding sum
sum-nothing f [] h = refl
sum-nothing f (x ∷ l) h = omega (arith, h 1 (omega arith), sum-nothing f l (λ i r. later i r))
  where
    later : (i : ℕ) → In (length l) i → f (at l i []) ≡ 0
    later zero r = absurd (omega (arith, r.0))
    later (suc i) r = h (suc (suc i)) (omega arith)

processor-registers : (P T M n : ℕ) (x : reference.Processor) → processor_ok P T M n (processor_record x) ≡ true → Registers P T M x.position x × (leb x.probe ((n - 1) * probes x.position) ≡ true)
unfolding processor_ok
processor-registers P T M n x e =
    let l = x.position in
    let w = row_small l in
    let f = (
    leb-true (row l).number 24 and fits_register (row l).current T x.current w.current and fits_register (row l).transit T x.transit w.transit and
    fits_register (row l).mutex M x.mutex w.mutex and fits_register (row l).observed P x.observed.processor w.observed and
    fits-token P (token_record x.observed) and leb-true x.sequence 4000 and leb-true x.answer 2 and (λ e. e)
    ) (rw (line-number l) at e) in
    (omega (arith, f.0.0.0.0.0.0.0.1, f.0.0.0.0.0.0.1, f.0.0.0.0.0.1, f.0.0.0.0.1, f.0.0.0.1, f.0.0.1, f.0.1, observed-some (row l).observed P (token_record x.observed) w.observed f.0.0.0.0.1.low f.0.0.0.0.1.high), f.1)

module _ (s : reference.State) (h : Allowed s) where
  mutex_ranges : (m : ℕ) → In s.M m → mutex_ok s.P s.T (mutex_of (encode s) m) ≡ true → Ranges s.P s.T (mutex_at s m)
  unfolding mutex_ok
  mutex_ranges m i e =
      let x : reference.Mutex = mutex_at s m in
      let f = (
      leb-true x.count (s.T + 1) and leb-true x.owner s.T and fits-token s.P (token_record x.token)
      ) (rw (read-mutex s (allowed-fits s h) m) at e) in
      omega (arith, f.0.0, f.0.1, f.1, some_one x.token.processor, fits-queue s.T x.queue (h.queues m i))

  known : (p : ℕ) → In s.P p → Registers s.P s.T s.M (processor_at s p).position (processor_at s p) × (leb (processor_at s p).probe ((reference.queues s.stealing s.P - 1) * probes (processor_at s p).position) ≡ true)
  unfolding encode
  known p i =
      processor-registers s.P s.T s.M (reference.queues s.stealing s.P) (processor_at s p)
      (rw (read-processor s (allowed-fits s h) p) at ((fields_say (encode s) h.fields).processor p i))

  pub allowed_regular : Regular s
  unfolding encode
  allowed_regular =
      let f = fields_say (encode s) h.fields in
      record {
        p_range = f.p_range;
        t_range = f.t_range;
        m_range = f.m_range;
        stealing = f.stealing;
        applied = f.applied;
        placed = allowed-placed h;
        probe = λ p i. rw h.count (fits-probe (reference.queues s.stealing s.P) (processor_at s p).probe (processor_at s p).position (some_queue s.stealing s.P p i) (known p i).1);
        ready = sum-nothing (sum (out s.T)) s.ready (λ i l. fits-queue s.T (reference.queue_at s i) (h.ready i l));
        registers = λ p i. (known p i).0;
        mutex = λ m i. mutex_ranges m i (f.mutex m i);
      }
