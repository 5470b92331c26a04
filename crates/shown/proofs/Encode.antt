-- A record that keeps the rules is the record of the state that it shows, and that state is allowed.
-- Assumes nothing.
use Prim.Native.Nat.{ℕ, zero, suc, ◌+◌, ◌-◌, ◌≤◌, ◌<◌}
use mathlib.Core.Bool.{Bool, true, false, ◌&&◌, ◌||◌, not, true≢false}
use mathlib.Core.List.{List, []}
use mathlib.Core.Path.{◌≡◌, refl, ap, ap₂, sym, subst, ◌∙◌}
use native.Mathlib.Omega.{arith}
use native.Mathlib.Decide.{ℕ_discrete, dec_le}
use lib.Dec.{eqb}
use lib.ListN.{length}
use borrow.Author.Tests.{eqb-true, eq-eqb, ne_eqb}
use Rattle.state.specs.declared.Thread.{Thread}
use Rattle.state.specs.declared.Processor.{Processor}
use Rattle.state.specs.declared.State.{State}
use Rattle.state.specs.Record.{zero_thread, thread_of, processor_of, mutex_of, first_of, chain, Sized}
use Rattle.state.specs.Association.{encode, decode, queue_at, ready_index, queued_as, thread_row, queue_shown, mutex_shown, processor_shown, life_shown, thread_record, processor_record, mutex_record}
use Rattle.state.specs.Rules.{placed_in, is_queue, register_matches, state_ok, every}
use Rattle.state.specs.Allowed.{Allowed}
use Rattle.state.proofs.Branch.{if_none, if_some}
use Rattle.state.proofs.Numbers.{at_past, stands, queue-single, queue_no_single, queue-mutex, queue-each, queue_no_each, by_number, mutex_as, ready_as}
use Rattle.reference.specs.Lists.{choose, if_zero, in_range, is, sum, occurrences, tabulate, each}
use Rattle.reference.specs.State as reference
use Rattle.reference.specs.State.{live, same_life, processor_at, mutex_at, life_at, nobody, free_mutex, line_of, row}
use Rattle.reference.specs.Picture.{first, behind, thread_entry}
use Rattle.reference.specs.Start.{itself}
use Rattle.reference.specs.Safe.{In, one_if, held}
use Rattle.reference.proofs.Tests.{both_left, both_right, range_true, true_range}
use Rattle.reference.proofs.Sums.{is_same, is-other, sum-none, sum_one, length-tabulate, tabulate-at}
use Rattle.association.proofs.Tables.{sum_plus}
use Rattle.association.proofs.Spots.{Spot, Placed, spot_entry}
use Rattle.association.proofs.Shown.{Fits, Agrees, out_of_range, encode_ext}
use Rattle.shown.proofs.Tests.{at_out, Member, either, implied, each_all, all-every}
use Rattle.shown.proofs.Chains.{linked_first, linked_behind}
use Rattle.shown.proofs.Kept.{Facts, Shape, facts, processor-says, state-kept, placed_inside}

-- ---- sums

sum_ext : {A : Type 0} (f : A → ℕ) (g : ℕ → A) (u : ℕ → ℕ) (a n : ℕ) → ((i : ℕ) → a ≤ i → i < a + n → f (g i) ≡ u i) →
    sum f (tabulate g a n) ≡ sum u (tabulate itself a n)
unfolding sum tabulate
sum_ext f g u a zero h = refl
sum_ext f g u a (suc n) h = omega (arith, h a (omega arith) (omega arith), sum_ext f g u (suc a) n (λ i x y. h i (omega arith) (omega arith)))

-- a table of which the j-th weighs 1 and no other weighs anything
sum-pick : {A : Type 0} (f : A → ℕ) (g : ℕ → A) (n j : ℕ) → ((i : ℕ) → In n i → f (g i) ≡ is i j) → sum f (tabulate g 1 n) ≡ one_if (in_range 1 n j)
sum-pick f g n j h = sum_ext f g (λ i. is i j) 1 n (λ i x y. h i (omega arith)) ∙ go (in_range 1 n j) refl
  where
    go : (b : Bool) → in_range 1 n j ≡ b → sum (λ i. is i j) (tabulate itself 1 n) ≡ one_if b
    go true e = let r = range_true 1 n j e in sum_one (λ i. is i j) itself 1 n j r.0 (omega (arith, r.1)) (is_same j) (λ i z. is-other i j z)
    go false e =
        sum-none (λ i. is i j) itself 1 n
        (λ i x y. is-other i j (λ z. true≢false (sym (true_range 1 n j (omega arith) (omega arith)) ∙ e)))

-- ---- what a test of a status and a holder weighs, at a number that is not 0
weighed : (b : Bool) (h i : ℕ) → 1 ≤ i → one_if (b && eqb h i) ≡ is i (choose b h 0)
weighed true h i l = elim (ℕ_discrete h i) [ yes e ↦ rw (eq-eqb h i e) (sym (rw e (is_same i))) | no n ↦ rw (ne_eqb h i n) (sym (is-other i h (λ e. n (sym e)))) ]
weighed false h i l = sym (is-other i 0 (omega arith))

zero-both : (n : ℕ) → if_zero {A = ℕ} n 0 0 ≡ 0
zero-both zero = refl
zero-both (suc n) = refl

-- the number of the line of a number
number-line : (n : ℕ) → n ≤ 24 → (row (line_of n)).number ≡ n
unfolding line_of each
number-line n h = eqb-true (row (line_of n)).number n (each_all (λ n. eqb (row (line_of n)).number n) 0 25 refl n (omega arith) (omega arith))

processor-back : (x : Processor) → x.position ≤ 24 → processor_record (processor_shown x) ≡ x
processor-back x h =
    λ i.
    record {
      position = number-line x.position h i;
      current = x.current;
      transit = x.transit;
      mutex = x.mutex;
      observed = x.observed;
      sequence = x.sequence;
      answer = x.answer;
      probe = x.probe;
    }

module _ (r : State) (f : Facts r) where
  -- ---- the parts of the state that is shown

  mutex-is : (m : ℕ) → In r.m m → mutex_at (decode r) m ≡ mutex_shown r m
  unfolding decode
  mutex-is m i = tabulate-at (mutex_shown r) r.m m free_mutex i

  processor-is : (p : ℕ) → In r.p p → processor_at (decode r) p ≡ processor_shown (processor_of r p)
  unfolding decode
  processor-is p i = tabulate-at (λ p. processor_shown (processor_of r p)) r.p p nobody i

  life-is : (k : ℕ) → In r.t k → life_at (decode r) k ≡ life_shown (thread_of r k).status
  unfolding decode
  life-is k i = tabulate-at (λ k. life_shown (thread_of r k).status) r.t k live i

  ready-is : (i : ℕ) → In (reference.queues r.stealing r.p) i → reference.queue_at (decode r) i ≡ queue_shown r (ready_index r.stealing i)
  unfolding decode
  ready-is i l = tabulate-at (λ i. queue_shown r (ready_index r.stealing i)) (reference.queues r.stealing r.p) i [] l

  ready-count : length (decode r).ready ≡ reference.queues r.stealing r.p
  unfolding decode
  ready-count = length-tabulate (λ i. queue_shown r (ready_index r.stealing i)) 1 (reference.queues r.stealing r.p)

  mutex-count : length (decode r).mutexes ≡ r.m
  unfolding decode
  mutex-count = length-tabulate (mutex_shown r) 1 r.m

  stealing-is : (decode r).stealing ≡ r.stealing
  unfolding decode
  stealing-is = refl

  -- a queue that is not there
  empty_shown : (q : ℕ) → q ≤ 16 → is_queue r.p r.m r.stealing q ≡ false → queue_shown r q ≡ []
  unfolding chain
  empty_shown q l e = rw (f.no_first q l e)

  -- a ready queue that is there is one of its kind, and any other is not there
  not_there : (q : ℕ) → (1 ≤ q → q ≤ r.m → ⊥) → if_zero r.stealing (eqb q 0) (in_range 9 (8 + r.p) q) ≡ false → is_queue r.p r.m r.stealing q ≡ false
  not_there q h e = rw (out_of_range 1 r.m q h) e

  queue-is : (q : ℕ) → q ≤ 16 → queue_at (decode r) q ≡ queue_shown r q
  queue-is q l =
      elim (ℕ_discrete r.stealing 0) [
        | yes c ↦
            let d : (decode r).stealing ≡ 0 = stealing-is ∙ c in
            let n : reference.queues r.stealing r.p ≡ 1 = if_none r.stealing 1 r.p c in
            elim (ℕ_discrete q 0) [
              | yes z ↦
                  rw z
                  (queue-single (decode r) d ∙ ready-is 1 (omega arith) ∙ ap (queue_shown r) (if_none r.stealing 0 (8 + 1) c))
              | no z ↦
                  elim (dec_le q 8) [
                    | yes u ↦ of_mutex q z u (if_none r.stealing _ _ c ∙ ne_eqb q 0 z)
                    | no u ↦ queue_no_each (decode r) q (omega arith) d ∙ sym (empty_shown q l (not_there q (λ a b. omega (arith, f.fields.m_range)) (if_none r.stealing _ _ c ∙ ne_eqb q 0 z)))
                  ]
            ]
        | no c ↦
            let d : (decode r).stealing ≡ 0 → ⊥ = λ e. c (sym stealing-is ∙ e) in
            let n : reference.queues r.stealing r.p ≡ r.p = if_some r.stealing 1 r.p c in
            elim (ℕ_discrete q 0) [
              | yes z ↦
                  rw z
                  (queue_no_single (decode r) d ∙
                  sym (empty_shown 0 (omega arith) (not_there 0 (λ a b. omega arith) (if_some r.stealing _ _ c ∙ out_of_range 9 (8 + r.p) 0 (λ a b. omega arith)))))
              | no z ↦
                  elim (dec_le q 8) [
                    | yes u ↦ of_mutex q z u (if_some r.stealing _ _ c ∙ out_of_range 9 (8 + r.p) q (λ a b. omega arith))
                    | no u ↦
                        queue-each (decode r) q (omega arith) d ∙
                        elim (dec_le (q - 8) r.p) [
                          | yes w ↦ let o : 8 + (q - 8) ≡ q = omega arith in ready-is (q - 8) (omega arith) ∙ ap (queue_shown r) (if_some r.stealing 0 (8 + (q - 8)) c ∙ o)
                          | no w ↦
                              at_past (decode r).ready (q - 8) [] (omega (arith, ready-count)) ∙
                              sym (empty_shown q l (not_there q (λ a b. omega (arith, f.fields.m_range)) (if_some r.stealing _ _ c ∙ out_of_range 9 (8 + r.p) q (λ a b. omega arith))))
                        ]
                  ]
            ]
      ]
    where
      of_mutex : (m : ℕ) → (m ≡ 0 → ⊥) → m ≤ 8 → if_zero r.stealing (eqb m 0) (in_range 9 (8 + r.p) m) ≡ false → queue_at (decode r) m ≡ queue_shown r m
      of_mutex m z u e =
          queue-mutex (decode r) m (omega arith) ∙
          elim (dec_le m r.m) [
            | yes w ↦ ap (λ (x : reference.Mutex). x.queue) (mutex-is m (omega arith))
            | no w ↦
                ap (λ (x : reference.Mutex). x.queue) (at_past (decode r).mutexes m free_mutex (omega (arith, mutex-count))) ∙
                sym (empty_shown m (omega arith) (not_there m (λ a b. w b) e))
          ]

  -- ---- who holds thread k, by its status and holder

  module _ (k : ℕ) (i : In r.t k) where
    in_queue : (q : ℕ) → q ≤ 16 → occurrences k (queue_shown r q) ≡ one_if (placed_in (thread_of r k) q)
    in_queue q l = go (placed_in (thread_of r k) q) refl
      where
        go : (b : Bool) → placed_in (thread_of r k) q ≡ b → occurrences k (queue_shown r q) ≡ one_if b
        go true e = omega (arith, (f.queue q l).met k e, (f.queue q l).once k)
        go false e =
            elim (dec_le 1 (occurrences k (queue_shown r q))) [
              | yes m ↦ absurd (true≢false (sym ((f.queue q l).placed k m) ∙ e))
              | no n ↦ omega arith
            ]

    -- a register of the processors, `read`, and the status, `n`, of the threads that it holds
    in_register : (read : Processor → ℕ) (n : ℕ) → ((p : ℕ) → In r.p p → register_matches r n p (read (processor_of r p)) ≡ true) →
        not (eqb (thread_of r k).status n) || eqb (read (processor_of r (thread_of r k).holder)) k ≡ true →
        (p : ℕ) → In r.p p → is k (read (processor_of r p)) ≡ one_if (eqb (thread_of r k).status n && eqb (thread_of r k).holder p)
    in_register read n held back p l = elim (ℕ_discrete (read (processor_of r p)) k) [ yes e ↦ there e | no e ↦ else e (eqb (thread_of r k).status n && eqb (thread_of r k).holder p) refl ]
      where
        there : read (processor_of r p) ≡ k → is k (read (processor_of r p)) ≡ one_if (eqb (thread_of r k).status n && eqb (thread_of r k).holder p)
        there e =
            let m : register_matches r n p k ≡ true = subst (λ (c : ℕ). register_matches r n p c ≡ true) e (held p l) in
            rw (e, is_same k) (sym (ap one_if (either (eqb k 0) (eqb (thread_of r k).status n && eqb (thread_of r k).holder p) m (ne_eqb k 0 (omega arith)))))

        else : (read (processor_of r p) ≡ k → ⊥) → (b : Bool) → eqb (thread_of r k).status n && eqb (thread_of r k).holder p ≡ b → is k (read (processor_of r p)) ≡ one_if b
        else e true z =
            let h : (thread_of r k).holder ≡ p = eqb-true (thread_of r k).holder p (both_right (eqb (thread_of r k).status n) (eqb (thread_of r k).holder p) z) in
            let w = implied (eqb (thread_of r k).status n) (eqb (read (processor_of r (thread_of r k).holder)) k) back (both_left (eqb (thread_of r k).status n) (eqb (thread_of r k).holder p) z) in
            absurd (e (ap (λ (p : ℕ). read (processor_of r p)) (sym h) ∙ eqb-true (read (processor_of r (thread_of r k).holder)) k w))
        else e false z = is-other k (read (processor_of r p)) (λ q. e (sym q))

    in_current : (p : ℕ) → In r.p p → is k (processor_of r p).current ≡ one_if (eqb (thread_of r k).status 3 && eqb (thread_of r k).holder p)
    in_current = in_register (λ x. x.current) 3 (λ p l. (f.registers p l).0) (both_left _ _ (f.matches k i))

    in_transit : (p : ℕ) → In r.p p → is k (processor_of r p).transit ≡ one_if (eqb (thread_of r k).status 4 && eqb (thread_of r k).holder p)
    in_transit = in_register (λ x. x.transit) 4 (λ p l. (f.registers p l).1) (both_right (not (eqb (thread_of r k).status 3) || eqb (processor_of r (thread_of r k).holder).current k) _ (f.matches k i))

    -- the holder, if the status is n
    abbrev holds : ℕ → ℕ
    holds n = choose (eqb (thread_of r k).status n) (thread_of r k).holder 0

    waits-is : sum (λ (x : reference.Mutex). occurrences k x.queue) (decode r).mutexes ≡ one_if (in_range 1 r.m (holds 2))
    unfolding decode
    waits-is = sum-pick (λ (x : reference.Mutex). occurrences k x.queue) (mutex_shown r) r.m (holds 2) by
      where
        by : (m : ℕ) → In r.m m → occurrences k (queue_shown r m) ≡ is m (holds 2)
        by m l =
            in_queue m (omega (arith, f.fields.m_range)) ∙
            ap (λ (x : Thread). one_if (eqb (thread_of r k).status x.status && eqb (thread_of r k).holder x.holder)) (mutex_as m 0 (omega (arith, f.fields.m_range))) ∙
            weighed (eqb (thread_of r k).status 2) (thread_of r k).holder m l.0

    -- the number of its ready queue, if it is ready
    abbrev turn : Thread → ℕ
    turn x = if_zero r.stealing (choose (eqb x.status 1 && eqb x.holder 0) 1 0) (choose (eqb x.status 1) x.holder 0)

    readies_is : sum (occurrences k) (decode r).ready ≡ one_if (in_range 1 (reference.queues r.stealing r.p) (turn (thread_of r k)))
    unfolding decode
    readies_is =
        sum-pick (occurrences k) (λ i. queue_shown r (ready_index r.stealing i)) (reference.queues r.stealing r.p) (turn (thread_of r k)) by
      where
        most : (i : ℕ) → In (reference.queues r.stealing r.p) i → ready_index r.stealing i ≤ 16
        most i l =
            elim (ℕ_discrete r.stealing 0) [
              | yes c ↦ omega (arith, if_none r.stealing 0 (8 + i) c)
              | no c ↦ omega (arith, if_some r.stealing 0 (8 + i) c, if_some r.stealing 1 r.p c, f.fields.p_range)
            ]

        one : (b : Bool) → one_if b ≡ is 1 (choose b 1 0)
        one true = sym (is_same 1)
        one false = sym (is-other 1 0 (omega arith))

        by : (i : ℕ) → In (reference.queues r.stealing r.p) i → occurrences k (queue_shown r (ready_index r.stealing i)) ≡ is i (turn (thread_of r k))
        by i l =
            in_queue (ready_index r.stealing i) (most i l) ∙
            ap (λ (x : Thread). one_if (eqb (thread_of r k).status x.status && eqb (thread_of r k).holder x.holder)) (ready_as r.stealing i 0 l.0) ∙
            elim (ℕ_discrete r.stealing 0) [
              | yes c ↦
                  let n : i ≡ 1 = omega (arith, if_none r.stealing 1 r.p c) in
                  ap (λ (h : ℕ). one_if (eqb (thread_of r k).status 1 && eqb (thread_of r k).holder h)) (if_none r.stealing 0 i c) ∙
                  one (eqb (thread_of r k).status 1 && eqb (thread_of r k).holder 0) ∙ ap₂ is (sym n) (sym (if_none r.stealing _ _ c))
              | no c ↦
                  ap (λ (h : ℕ). one_if (eqb (thread_of r k).status 1 && eqb (thread_of r k).holder h)) (if_some r.stealing 0 i c) ∙
                  weighed (eqb (thread_of r k).status 1) (thread_of r k).holder i l.0 ∙ ap (is i) (sym (if_some r.stealing _ _ c))
            ]

    loads-is : sum (λ (x : reference.Processor). is k x.current) (decode r).processors ≡ one_if (in_range 1 r.p (holds 3))
    unfolding decode
    loads-is =
        sum-pick (λ (x : reference.Processor). is k x.current) (λ p. processor_shown (processor_of r p)) r.p (holds 3)
        (λ p l. in_current p l ∙ weighed (eqb (thread_of r k).status 3) (thread_of r k).holder p l.0)

    carries_is : sum (λ (x : reference.Processor). is k x.transit) (decode r).processors ≡ one_if (in_range 1 r.p (holds 4))
    unfolding decode
    carries_is =
        sum-pick (λ (x : reference.Processor). is k x.transit) (λ p. processor_shown (processor_of r p)) r.p (holds 4)
        (λ p l. in_transit p l ∙ weighed (eqb (thread_of r k).status 4) (thread_of r k).holder p l.0)

    -- what its status and holder say of where it is comes to 1
    abbrev weight : Thread → ℕ
    weight x =
        one_if (in_range 1 (reference.queues r.stealing r.p) (turn x)) + one_if (in_range 1 r.m (choose (eqb x.status 2) x.holder 0)) +
        (one_if (in_range 1 r.p (choose (eqb x.status 3) x.holder 0)) + one_if (in_range 1 r.p (choose (eqb x.status 4) x.holder 0))) +
        one_if (not (same_life (life_shown x.status) live))

    shape_one : Shape r (thread_of r k) → weight (thread_of r k) ≡ 1
    shape_one (Shape.new e) = rw (e, zero-both r.stealing)
    shape_one (Shape.single n c e) = rw (e, c)
    shape_one (Shape.each-ready p n c l e) = rw (e, c, true_range 1 r.p p l.0 l.1)
    shape_one (Shape.waiting m n l e) = rw (e, zero-both r.stealing, true_range 1 r.m m l.0 l.1)
    shape_one (Shape.current p l e) = rw (e, zero-both r.stealing, true_range 1 r.p p l.0 l.1)
    shape_one (Shape.transit p l e) = rw (e, zero-both r.stealing, true_range 1 r.p p l.0 l.1)
    shape_one (Shape.terminated e) = rw (e, zero-both r.stealing)

    one_place : held (decode r) k + one_if (not (same_life (life_at (decode r) k) live)) ≡ 1
    one_place =
        let l : one_if (not (same_life (life_at (decode r) k) live)) ≡ one_if (not (same_life (life_shown (thread_of r k).status) live)) = rw (life-is k i) in
        omega (
          arith,
          readies_is,
          waits-is,
          loads-is,
          carries_is,
          sum_plus (λ (x : reference.Processor). is k x.current) (λ (x : reference.Processor). is k x.transit) (decode r).processors,
          shape_one (f.thread k i),
        )

  -- ---- each thread's row

  placed : Placed (decode r)
  unfolding decode
  placed =
      record {
        processors = length-tabulate (λ p. processor_shown (processor_of r p)) 1 r.p;
        mutexes = length-tabulate (mutex_shown r) 1 r.m;
        lives = length-tabulate (λ k. life_shown (thread_of r k).status) 1 r.t;
        count = ready-count;
        one_place = one_place;
      }

  module _ (k : ℕ) (i : In r.t k) where
    module _ (q : ℕ) (l : q ≤ 16) {list : List ℕ} (e : list ≡ queue_shown r q) (h : placed_in (thread_of r k) q ≡ true) where
      stands_there : Member k list
      stands_there = rw e ((f.queue q l).met k h)

      next-there : behind k list ≡ (thread_of r k).next
      next-there = rw e (linked_behind (λ k. (thread_of r k).next) (first_of r q) (queue_shown r q) (f.queue q l).linked k ((f.queue q l).met k h))

    in_there : {read : ℕ} (n : ℕ) (p : ℕ) → is k read ≡ one_if (eqb (thread_of r k).status n && eqb (thread_of r k).holder p) → thread_of r k ≡ stands n p 0 → read ≡ k
    in_there {read} n p h e =
        let w : is k read ≡ 1 = h ∙ rw (e, eq-eqb n n refl, eq-eqb p p refl) in
        elim (ℕ_discrete k read) [ yes z ↦ sym z | no z ↦ absurd (omega (arith, is-other k read z)) ]

    row-queued : (q n : ℕ) → q ≤ 16 → thread_of r k ≡ queued_as q n → thread_record (thread_entry (decode r) k) ≡ thread_of r k
    unfolding decode
    row-queued q n l e =
        let p : placed_in (thread_of r k) q ≡ true = rw (e, eq-eqb (queued_as q 0).status (queued_as q 0).status refl) (eq-eqb (queued_as q 0).holder (queued_as q 0).holder refl) in
        let b : behind k (queue_at (decode r) q) ≡ n = next-there q l (queue-is q l) p ∙ ap (λ (x : Thread). x.next) e in
        ap thread_record (spot_entry (decode r) placed k i (Spot.queued q) (stands_there q l (queue-is q l) p)) ∙ ap (queued_as q) b ∙ sym e

    row_by : Shape r (thread_of r k) → thread_record (thread_entry (decode r) k) ≡ thread_of r k
    unfolding decode
    row_by (Shape.new e) = ap thread_record (spot_entry (decode r) placed k i Spot.new (life-is k i ∙ rw e)) ∙ sym e
    row_by (Shape.single n c e) = row-queued 0 n (omega arith) e
    row_by (Shape.each-ready p n c l e) = row-queued (8 + p) n (omega (arith, f.fields.p_range)) (e ∙ sym (ready_as 1 p n l.0))
    row_by (Shape.waiting m n l e) = row-queued m n (omega (arith, f.fields.m_range)) (e ∙ sym (mutex_as m n (omega (arith, f.fields.m_range))))
    row_by (Shape.current p l e) =
        let c : (processor_at (decode r) p).current ≡ k = ap (λ (x : reference.Processor). x.current) (processor-is p l) ∙ in_there 3 p (in_current k i p l) e in
        ap thread_record (spot_entry (decode r) placed k i (Spot.current p) (l, c)) ∙ sym e
    row_by (Shape.transit p l e) =
        let c : (processor_at (decode r) p).transit ≡ k = ap (λ (x : reference.Processor). x.transit) (processor-is p l) ∙ in_there 4 p (in_transit k i p l) e in
        ap thread_record (spot_entry (decode r) placed k i (Spot.transit p) (l, c)) ∙ sym e
    row_by (Shape.terminated e) = ap thread_record (spot_entry (decode r) placed k i Spot.terminated (life-is k i ∙ rw e)) ∙ sym e

  -- ---- the record that shows it

  queue-threads : (q : ℕ) → q ≤ 16 → every (in_range 1 r.t) (queue_shown r q) ≡ true
  queue-threads q l =
      all-every (in_range 1 r.t) (queue_shown r q)
      (λ k m. let i = placed_inside r f.no_thread q k ((f.queue q l).placed k m) in true_range 1 r.t k i.0 i.1)

  all-queues : (q : ℕ) → every (in_range 1 r.t) (queue_at (decode r) q) ≡ true
  unfolding every decode
  all-queues q =
      elim (dec_le q 16) [
        | yes l ↦ rw (queue-is q l) (queue-threads q l)
        | no l ↦
            by_number (decode r) (λ q l. 16 < q → every (in_range 1 r.t) l ≡ true) ready-count (λ q u. refl)
            (λ i x u. absurd (past i (omega (arith, ready-count)) u)) (λ m x b u. absurd (omega arith)) q (omega arith)
      ]
    where
      past : (i : ℕ) → In (reference.queues r.stealing r.p) i → 16 < ready_index r.stealing i → ⊥
      past i l u =
          elim (ℕ_discrete r.stealing 0) [
            | yes c ↦ omega (arith, if_none r.stealing 0 (8 + i) c)
            | no c ↦ omega (arith, if_some r.stealing 0 (8 + i) c, if_some r.stealing 1 r.p c, f.fields.p_range)
          ]

  fits : Fits (decode r)
  unfolding decode
  fits =
      record {
        placed = placed;
        p_most = f.fields.p_range.1;
        m_most = f.fields.m_range.1;
        t_most = f.fields.t_range.1;
        queues = all-queues;
      }

  thread-is : (k : ℕ) → thread_of r k ≡ thread_row (decode r) k
  unfolding decode
  thread-is k = by (in_range 1 r.t k) refl
    where
      by : (b : Bool) → in_range 1 r.t k ≡ b → thread_of r k ≡ choose b (thread_record (thread_entry (decode r) k)) zero_thread
      by true e = sym (row_by k (range_true 1 r.t k e) (f.thread k (range_true 1 r.t k e)))
      by false e = f.no_thread k e

  first-is : (q : ℕ) → q ≤ 16 → first_of r q ≡ first (queue_at (decode r) q)
  unfolding decode
  first-is q l = sym (ap first (queue-is q l) ∙ linked_first (λ k. (thread_of r k).next) (first_of r q) (queue_shown r q) (f.queue q l).linked)

  -- a ready queue is one of the record's
  ready-some : (i : ℕ) → In (reference.queues r.stealing r.p) i → (q : ℕ) × (queue_shown r q ≡ reference.queue_at (decode r) i) × (q ≤ 16)
  ready-some i l = (
    ready_index r.stealing i,
    sym (ready-is i l),
    elim (ℕ_discrete r.stealing 0) [
      | yes c ↦ omega (arith, if_none r.stealing 0 (8 + i) c)
      | no c ↦ omega (arith, if_some r.stealing 0 (8 + i) c, if_some r.stealing 1 r.p c, f.fields.p_range)
    ],
  )

  processor-shows : (p : ℕ) → processor_of r p ≡ processor_record (processor_at (decode r) p)
  unfolding decode
  processor-shows p = by (in_range 1 r.p p) refl
    where
      by : (b : Bool) → in_range 1 r.p p ≡ b → processor_of r p ≡ processor_record (processor_at (decode r) p)
      by true e = let l = range_true 1 r.p p e in sym (ap processor_record (processor-is p l) ∙ processor-back (processor_of r p) (processor-says r (processor_of r p) (f.fields.processor p l)).0)
      by false e = f.no_processor p e ∙ sym (ap processor_record (at_out (decode r).processors r.p p nobody placed.processors e))

  mutex-shows : (m : ℕ) → mutex_of r m ≡ mutex_record (mutex_at (decode r) m)
  unfolding decode
  mutex-shows m = by (in_range 1 r.m m) refl
    where
      by : (b : Bool) → in_range 1 r.m m ≡ b → mutex_of r m ≡ mutex_record (mutex_at (decode r) m)
      by true e = sym (ap mutex_record (mutex-is m (range_true 1 r.m m e)))
      by false e = f.no_mutex m e ∙ sym (ap mutex_record (at_out (decode r).mutexes r.m m free_mutex placed.mutexes e))

module _ (r : State) (z : Sized r) (e : state_ok r ≡ true) where
  known : Facts r
  known = facts r z (state-kept r e)

  agrees : Agrees r (decode r)
  unfolding decode
  agrees =
      record {
        p = refl;
        t = refl;
        m = refl;
        stealing = refl;
        applied = refl;
        firsts-length = z.firsts;
        threads-length = z.threads;
        processors-length = z.processors;
        mutexes-length = z.mutexes;
        first = λ q l. first-is r known q (omega arith);
        thread = λ k l. thread-is r known k;
        processor = λ p l. processor-shows r known p;
        mutex = λ m l. mutex-shows r known m;
      }

  -- a record that keeps the rules is the record of the state that it shows,
  pub encode-decode : encode (decode r) ≡ r
  encode-decode = sym (encode_ext r (decode r) agrees)

  -- and that state is allowed
  pub decode-allowed : Allowed (decode r)
  unfolding decode
  decode-allowed =
      let p : Placed (decode r) = placed r known in
      record {
        processors = p.processors;
        mutexes = p.mutexes;
        lives = p.lives;
        count = p.count;
        fields = rw encode-decode (state-kept r e).fields;
        ready = λ i l. let n = ready-some r known i (omega (arith, p.count)) in rw (← n.1) (queue-threads r known n.0 n.2);
        queues = λ m l. rw (mutex-is r known m l) (queue-threads r known m (omega (arith, known.fields.m_range)));
        one_place = p.one_place;
      }
