-- The record that `start` builds shows the start state.
-- Assumes nothing.
use Prim.Native.Nat.{ℕ, zero, suc, ◌+◌, ◌-◌, ◌≤◌, ◌<◌}
use mathlib.Core.Bool.{Bool, true, false}
use mathlib.Core.List.{[]}
use mathlib.Core.Path.{◌≡◌, refl, sym, ap, ◌∙◌}
use native.Mathlib.Decide.{ℕ_discrete, dec_le}
use native.Mathlib.Omega.{arith}
use lib.Dec.{eqb, leb}
use lib.ListN.{replicate, get_or-eq_default}
use borrow.Author.Tests.{eq-eqb, ne_eqb, le-leb, lt-leb, leb-true}
use Rattle.reference.specs.Lists.{tabulate, find, sum, occurrences, around, choose, if_zero}
use Rattle.reference.specs.State as reference
use Rattle.reference.specs.State.{App, CI2, queues, nobody, processor_at, mutex_at, life_at}
use Rattle.reference.specs.Start as reference-start
use Rattle.reference.specs.Start.{Config, config_cause, idle_at, first_queue, start}
use Rattle.reference.specs.Safe.{In}
use Rattle.reference.specs.Picture.{Entry, entry, thread_entry, first, behind, stands_in, or_else, unheld}
use Rattle.reference.proofs.Tests.{true_range}
use Rattle.reference.proofs.Sums.{around_in, choose-by, length-tabulate, tabulate-at}
use Rattle.reference.proofs.Invariant.{some_queue}
use Rattle.reference.proofs.Dealt.{first_queue-first, first_queue_stands, first_queue_never, first_queue-behind}
use Rattle.reference.proofs.Start.{Ranges, ranges, processor-start, mutex-start, life-start}
use Rattle.state.specs.Record.{zero_mutex}
use Rattle.state.specs.Association.{queued_as, processor_record, mutex_record, thread_record, thread_row, queue_at, encode}
use Rattle.state.specs.Model.Access.{standing_at, first_processor, first_index, first_thread, first_first, start_record}
use Rattle.state.proofs.Table.{tabulate-same, tabulate-all, find_nowhere, find_none, find_first}
use Rattle.state.proofs.Branch.{if_none, if_some}
use Rattle.state.proofs.Begun.{first-single, first_no_single, first-each, first_no_each}
use Rattle.state.proofs.Numbers.{stands, ready_as, queue-single, queue_no_single, queue-mutex, queue-each, queue_no_each}

-- ---- who holds thread k at start

module _ (c : Config) (k : ℕ) where
  queued_nowhere : find (λ (x : reference.Mutex). stands_in k x.queue) (start c).mutexes ≡ 0
  unfolding start sum
  queued_nowhere = find_nowhere _ reference.free_mutex c.M refl

  -- a thread that waits is found in its queue,
  ready-once : Ranges c → c.P < k → k ≤ c.B → find (stands_in k) (start c).ready ≡ around (queues c.stealing c.P) k
  unfolding start
  ready-once x l h =
      let r = queues c.stealing c.P in
      let i = around_in r k (some_queue c.stealing c.P 1 (omega (arith, x.processors))) in
      find_first (stands_in k) (first_queue c) r (around r k) i.0 i.1 (le-leb 1 _ (first_queue_stands c x k l h))
      (λ q y u. lt-leb 1 (occurrences k (first_queue c q)) (omega (arith, first_queue_never c x q k (λ v w. omega arith))))

  -- and any other in none
  ready_never : Ranges c → (c.P < k → c.B < k) → find (stands_in k) (start c).ready ≡ 0
  unfolding start
  ready_never x h =
      find_none (stands_in k) (first_queue c) 1 (queues c.stealing c.P)
      (λ q y u. lt-leb 1 (occurrences k (first_queue c q)) (omega (arith, first_queue_never c x q k (λ v w. absurd (omega (arith, h v))))))

  next-ready : Ranges c → c.P < k → k ≤ c.B →
      behind k (reference.queue_at (start c) (around (queues c.stealing c.P) k)) ≡ choose (leb (k + queues c.stealing c.P) c.B) (k + queues c.stealing c.P) 0
  unfolding start
  next-ready x l h =
      let r = queues c.stealing c.P in
      ap (behind k) (tabulate-at (first_queue c) r (around r k) [] (around_in r k (some_queue c.stealing c.P 1 (omega (arith, x.processors))))) ∙ first_queue-behind c x k l h

  -- a processor has no thread but its own, and none above B
  holds_other : (i : ℕ) → 1 ≤ k → (i ≡ k → c.B < k) → eqb (reference-start.first_processor c.B i).current k ≡ false
  holds_other i r h =
      choose-by (λ (x : reference.Processor). eqb x.current k ≡ false) (leb i c.B)
      (λ e. ne_eqb i k (λ z. absurd (omega (arith, h z, leb-true i c.B e))))
      (λ e. ne_eqb 0 k (omega arith))

  loaded_once : 1 ≤ k → k ≤ c.P → k ≤ c.B → find (λ (x : reference.Processor). eqb x.current k) (start c).processors ≡ k
  unfolding start
  loaded_once r l h =
      find_first _ (reference-start.first_processor c.B) c.P k r l (rw (le-leb k c.B h) (eq-eqb k k refl))
      (λ i x y. holds_other i r (λ z. absurd (omega arith)))

  loaded_never : 1 ≤ k → (k ≤ c.P → c.B < k) → find (λ (x : reference.Processor). eqb x.current k) (start c).processors ≡ 0
  unfolding start
  loaded_never r h = find_none _ (reference-start.first_processor c.B) 1 c.P (λ i x y. holds_other i r (λ z. h (omega arith)))

  carried_never : 1 ≤ k → find (λ (x : reference.Processor). eqb x.transit k) (start c).processors ≡ 0
  unfolding start
  carried_never r =
      find_none _ (reference-start.first_processor c.B) 1 c.P
      (λ i x y. choose-by (λ (x : reference.Processor). eqb x.transit k ≡ false) (leb i c.B) (λ e. ne_eqb 0 k (omega arith)) (λ e. ne_eqb 0 k (omega arith)))

  -- the row that the finds give
  pick : ℕ → ℕ → ℕ → ℕ → Entry
  pick q m p h =
      or_else q (λ q. entry 1 (if_zero c.stealing 0 q) (behind k (reference.queue_at (start c) q)))
      (or_else m (λ m. entry 2 m (behind k (mutex_at (start c) m).queue))
      (or_else p (λ p. entry 3 p 0) (or_else h (λ p. entry 4 p 0) (unheld (life_at (start c) k)))))

  picked : {q p h : ℕ} → find (stands_in k) (start c).ready ≡ q → find (λ (x : reference.Processor). eqb x.current k) (start c).processors ≡ p
      → find (λ (x : reference.Processor). eqb x.transit k) (start c).processors ≡ h → thread_entry (start c) k ≡ pick q 0 p h
  unfolding thread_entry pick start
  picked q p h = rw (q, queued_nowhere, p, h)

-- ---- thread k, processor p and queue q at start

-- a thread of the ready queue in which it starts
names : (stealing P k n : ℕ) → In 8 P → queued_as (first_index P stealing k) n ≡ stands 1 (if_zero stealing 0 (around (queues stealing P) k)) n
unfolding first_index
names zero P k n r = rw (true_range 1 8 P r.0 r.1)
names (suc s) P k n r = rw (true_range 1 8 P r.0 r.1) (ready_as (suc s) (around P k) n (omega arith))

module _ (c : Config) (x : Ranges c) (j : ℕ) where
  abbrev Agrees : Type 0
  Agrees = first_thread c.P c.B c.stealing (suc j) ≡ thread_record (thread_entry (start c) (suc j))

  loaded : suc j ≤ c.B → suc j ≤ c.P → Agrees
  unfolding first_thread pick
  loaded b p =
      rw (
        true_range 1 c.B (suc j) (omega arith) b,
        le-leb (suc j) c.P p,
        picked c (suc j) (ready_never c (suc j) x (λ z. absurd (omega arith))) (loaded_once c (suc j) (omega arith) p b) (carried_never c (suc j) (omega arith)),
      )

  waits : suc j ≤ c.B → c.P < suc j → Agrees
  unfolding first_thread pick
  waits b p =
      rw (
        true_range 1 c.B (suc j) (omega arith) b,
        lt-leb (suc j) c.P p,
        picked c (suc j) (ready-once c (suc j) x p b) (loaded_never c (suc j) (omega arith) (λ z. absurd (omega arith))) (carried_never c (suc j) (omega arith)),
        next-ready c (suc j) x p b,
        names c.stealing c.P (suc j) _ x.processors,
      )

  uncreated : c.B < suc j → suc j ≤ c.T → Agrees
  unfolding first_thread pick
  uncreated b t =
      rw (
        le-leb 1 (suc j) (omega arith),
        lt-leb (suc j) c.B b,
        picked c (suc j) (ready_never c (suc j) x (λ z. b)) (loaded_never c (suc j) (omega arith) (λ z. b)) (carried_never c (suc j) (omega arith)),
        life-start c (suc j) (omega arith),
        lt-leb (suc j) c.B b,
      )

module _ (c : Config) (r : Ranges c) where
  thread-start : (k : ℕ) → first_thread c.P c.B c.stealing k ≡ thread_row (start c) k
  unfolding start first_thread
  thread-start zero = refl
  thread-start (suc j) =
      elim (dec_le (suc j) c.T) [
        | yes t ↦ rw (true_range 1 c.T (suc j) (omega arith) t) (created t)
        | no t ↦ rw (lt-leb (suc j) c.T (omega arith), lt-leb (suc j) c.B (omega (arith, r.created)), le-leb 1 (suc j) (omega arith))
      ]
    where
      created : suc j ≤ c.T → first_thread c.P c.B c.stealing (suc j) ≡ thread_record (thread_entry (start c) (suc j))
      created t =
          elim (dec_le (suc j) c.B) [
            | yes b ↦ elim (dec_le (suc j) c.P) [ yes p ↦ loaded c r j b p | no p ↦ waits c r j b (omega arith) ]
            | no b ↦ uncreated c r j (omega arith) t
          ]

module _ (c : Config) where
  registers-start : (p : ℕ) → first_processor c.P c.B p ≡ processor_record (processor_at (start c) p)
  unfolding start first_processor
  registers-start zero = refl
  registers-start (suc i) =
      elim (dec_le (suc i) c.P) [
        | yes l ↦ rw (true_range 1 c.P (suc i) (omega arith) l, processor-start c (suc i) (omega arith)) (either (leb (suc i) c.B))
        | no l ↦ rw (le-leb 1 (suc i) (omega arith), lt-leb (suc i) c.P (omega arith), past l)
      ]
    where
      either : (b : Bool) → choose b (standing_at 0 (suc i)) (standing_at 1 0) ≡ processor_record (choose b (idle_at App (suc i)) (idle_at CI2 0))
      either true = refl
      either false = refl

      past : (suc i ≤ c.P → ⊥) → processor_at (start c) (suc i) ≡ nobody
      past l =
          get_or-eq_default (tabulate (reference-start.first_processor c.B) 1 c.P) nobody
          (omega (arith, length-tabulate (reference-start.first_processor c.B) 1 c.P))

  mutexes-start : replicate 9 zero_mutex ≡ tabulate (λ m. mutex_record (mutex_at (start c) m)) 0 9
  mutexes-start = tabulate-all zero_mutex _ 0 9 (λ m x. ap mutex_record (sym (mutex-start c m)))

  ready-start : Ranges c → (i : ℕ) → In (queues c.stealing c.P) i → choose (leb (c.P + i) c.B) (c.P + i) 0 ≡ first (reference.queue_at (start c) i)
  unfolding start
  ready-start x i h = sym (ap first (tabulate-at (first_queue c) (queues c.stealing c.P) i [] h) ∙ first_queue-first c x i h)

  ready_past : (i : ℕ) → queues c.stealing c.P < i → reference.queue_at (start c) i ≡ []
  unfolding start
  ready_past zero h = absurd (omega arith)
  ready_past (suc i) h = get_or-eq_default (tabulate (first_queue c) 1 (queues c.stealing c.P)) [] (omega (arith, length-tabulate (first_queue c) 1 (queues c.stealing c.P)))

  stealing-start : (start c).stealing ≡ c.stealing
  unfolding start
  stealing-start = refl

  first-start : Ranges c → (q : ℕ) → first_first c.P c.B c.stealing q ≡ first (queue_at (start c) q)
  first-start x q =
      elim (ℕ_discrete c.stealing 0) [
        | yes e ↦
            let w : (start c).stealing ≡ 0 = stealing-start ∙ e in
            let n : queues c.stealing c.P ≡ 1 = if_none c.stealing 1 c.P e in
            elim (ℕ_discrete q 0) [
              | yes z ↦
                  rw z
                  (sym (first-single c.P c.B c.stealing 0 e refl) ∙ ready-start x 1 (omega arith) ∙ sym (ap first (queue-single (start c) w)))
              | no z ↦ sym (first_no_single c.P c.B c.stealing q e z) ∙ none q z (λ l. queue_no_each (start c) q l w)
            ]
        | no e ↦
            let w : (start c).stealing ≡ 0 → ⊥ = λ d. e (sym stealing-start ∙ d) in
            let n : queues c.stealing c.P ≡ c.P = if_some c.stealing 1 c.P e in
            elim (dec_le 9 q) [
              | yes l ↦
                  elim (dec_le (q - 8) c.P) [
                    | yes u ↦ sym (first-each c.P c.B c.stealing q e l u) ∙ ready-start x (q - 8) (omega arith) ∙ sym (ap first (queue-each (start c) q l w))
                    | no u ↦
                        sym (first_no_each c.P c.B c.stealing q e (λ a b. u b)) ∙
                        sym (ap first (queue-each (start c) q l w ∙ ready_past (q - 8) (omega arith)))
                  ]
              | no l ↦
                  sym (first_no_each c.P c.B c.stealing q e (λ a b. l a)) ∙
                  elim (ℕ_discrete q 0) [ yes z ↦ rw z (sym (ap first (queue_no_single (start c) w))) | no z ↦ none q z (λ a. absurd (l a)) ]
            ]
      ]
    where
      -- a mutex's queue is empty, and so is one past these that is not there
      none : (q : ℕ) → (q ≡ 0 → ⊥) → (8 < q → queue_at (start c) q ≡ []) → 0 ≡ first (queue_at (start c) q)
      none q z h =
          elim (dec_le q 8) [
            | yes l ↦ sym (ap first (queue-mutex (start c) q (omega arith) ∙ ap (λ (m : reference.Mutex). m.queue) (mutex-start c q)))
            | no l ↦ sym (ap first (h (omega arith)))
          ]

pub start-shown : (c : Config) → config_cause c ≡ 0 → start_record c.P c.T c.M c.B c.stealing ≡ encode (start c)
unfolding start_record encode start
start-shown c e =
    rw (
      tabulate-same (first_first c.P c.B c.stealing) (λ q. first (queue_at (start c) q)) 0 17 (λ q x y. first-start c (ranges c e) q),
      tabulate-same (first_thread c.P c.B c.stealing) (thread_row (start c)) 0 33 (λ k x y. thread-start c (ranges c e) k),
      tabulate-same (first_processor c.P c.B) (λ p. processor_record (processor_at (start c) p)) 0 9 (λ p x y. registers-start c p),
      mutexes-start c,
    )
