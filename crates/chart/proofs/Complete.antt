-- What a row tells of owners, tokens and queues is true, and is all that its move did to them.
-- Assumes nothing.
use Prim.Native.Nat.{ℕ, ◌-◌, ◌≤◌}
use native.Mathlib.Decide.{ℕ_discrete, dec_le}
use native.Mathlib.Omega.{arith}
use mathlib.Core.Bool.{Bool, true, false, ◌&&◌, true≢false}
use mathlib.Core.List.{List, [], ◌∷◌, ◌++◌, append-nil}
use mathlib.Core.Logic.{◌≢◌}
use mathlib.Core.Path.{◌≡◌, refl, sym, ap, ◌∙◌, subst}
use lib.Dec.{eqb}
use borrow.Author.Tests.{le-leb, lt-leb, eq-eqb, ne_eqb, eqb-true}
use Rattle.command.specs.Printing.{text}
use Rattle.state.specs.declared.Thread.{Thread}
use Rattle.state.specs.declared.Processor.{Processor}
use Rattle.state.specs.Record.{zero_thread, thread_of}
use Rattle.state.specs.Association.{encode, queue_at, queued_as, thread_record, mutex_record}
use Rattle.state.specs.Rules.{placed_in}
use Rattle.state.specs.Allowed.{Allowed}
use Rattle.state.proofs.Branch.{if_some}
use Rattle.state.proofs.Numbers.{number_one}
use Rattle.reference.specs.Lists.{choose, in_range, occurrences}
use Rattle.reference.specs.State.{State, processor_at, mutex_at}
use Rattle.reference.specs.Picture.{Entry, thread_entry}
use Rattle.reference.specs.Safe.{In}
use Rattle.reference.specs.Step.{Move, next}
use Rattle.reference.proofs.Legal.{legal}
use Rattle.reference.proofs.Tests.{both, ◌and◌, range_true}
use Rattle.association.proofs.Queues.{occurs_append, occurs_here}
use Rattle.association.proofs.Spots.{Spot, queued, current, transit, new, terminated, AtSpot, entry_for, spot_entry, spot_of}
use Rattle.association.proofs.Shown.{Fits, allowed-fits, read-processor, read-mutex, read-thread, queue-thread, queue-row}
use Rattle.shown.proofs.Decode.{decode-encode}
use Rattle.shown.proofs.Tests.{first_member, later_member}
use Rattle.agreement.proofs.Fields.{next-allowed}
use Rattle.chart.specs.Chart.{queue_name}
use Rattle.chart.specs.Chart.{queued as shown-queued}
use Rattle.chart.specs.Complete.{alone, queue_label, QueuesNamed, Complete, RowsComplete}
use Rattle.chart.proofs.Steps.{Step, same, joins, leaves, queue-moves, mutex-kept}

-- ---- a thread's record names the queue that it is in

label : (q : ℕ) → (shown-queued (queued_as q 0) ≡ true) × (queue_name (queued_as q 0) ≡ queue_label q)
unfolding queue_name queue_label text
label q =
    elim (ℕ_discrete q 0) [
      | yes e ↦ rw e (refl, refl)
      | no n ↦
          elim (dec_le q 8) [
            | yes l ↦ rw (le-leb 1 q (omega arith), le-leb q 8 l, ne_eqb q 0 n) (refl, refl)
            | no l ↦
                rw (le-leb 1 q (omega arith), lt-leb q 8 (omega arith), ne_eqb q 0 n)
                (refl, ap (λ (x : List ℕ). text "  ready" ++ x) (if_some (q - 8) _ _ (λ z. omega arith)))
          ]
    ]

pub queues-named : QueuesNamed
unfolding queue_name
queues-named t q e =
    let f = (eqb-true t.status (queued_as q 0).status and eqb-true t.holder (queued_as q 0).holder) e in
    rw (f.0, f.1) (label q)

-- a status that no queue gives
elsewhere : (n : ℕ) → eqb n 1 ≡ false → eqb n 2 ≡ false → (b c : Bool) → eqb n (choose b 2 1) && c ≡ false
elsewhere n e f true c = rw f
elsewhere n e f false c = rw e

module _ (s : State) (h : Fits s) where
  placed : (q k : ℕ) → 1 ≤ occurrences k (queue_at s q) → placed_in (thread_of (encode s) k) q ≡ true
  placed q k o = rw (queue-row s h q k o) (both (eq-eqb (queued_as q 0).status _ refl) (eq-eqb (queued_as q 0).holder _ refl))

  module _ (q k : ℕ) (absent : 1 ≤ occurrences k (queue_at s q) → ⊥) where
    at_spot : (x : Spot) → AtSpot s k x → placed_in (thread_record (entry_for s k x)) q ≡ false
    at_spot (queued i) o = by (placed_in (queued_as i 0) q) refl
      where
        by : (b : Bool) → placed_in (queued_as i 0) q ≡ b → b ≡ false
        by true e =
            let f = (eqb-true (queued_as i 0).status (queued_as q 0).status and eqb-true (queued_as i 0).holder (queued_as q 0).holder) e in
            absurd (absent (subst (λ (n : ℕ). 1 ≤ occurrences k (queue_at s n)) (number_one i 0 q 0 f.0 f.1) o))
        by false e = refl
    at_spot (current p) o = elsewhere 3 refl refl (in_range 1 8 q) _
    at_spot (transit p) o = elsewhere 4 refl refl (in_range 1 8 q) _
    at_spot new o = elsewhere 0 refl refl (in_range 1 8 q) _
    at_spot terminated o = elsewhere 5 refl refl (in_range 1 8 q) _

    not-placed : placed_in (thread_of (encode s) k) q ≡ false
    not-placed = rw (read-thread s h k) (by (in_range 1 s.T k) refl)
      where
        by : (b : Bool) → in_range 1 s.T k ≡ b → placed_in (choose b (thread_record (thread_entry s k)) zero_thread) q ≡ false
        by true e =
            let r = range_true 1 s.T k e in
            let x = spot_of s h.placed k r h.m_most in
            rw (spot_entry s h.placed k r x.0 x.1) (at_spot x.0 x.1)
        by false e = elsewhere 0 refl refl (in_range 1 8 q) _

  -- a thread that is shown in a queue is in one
  queue_of : (k : ℕ) → shown-queued (thread_of (encode s) k) ≡ true → (q : ℕ) × (placed_in (thread_of (encode s) k) q ≡ true)
  queue_of k = subst (λ (x : Thread). shown-queued x ≡ true → (q : ℕ) × (placed_in x q ≡ true)) (sym (read-thread s h k)) (by (in_range 1 s.T k) refl)
    where
      spot : (x : Spot) → shown-queued (thread_record (entry_for s k x)) ≡ true → (q : ℕ) × (placed_in (thread_record (entry_for s k x)) q ≡ true)
      spot (queued q) e = (q, both (eq-eqb (queued_as q 0).status _ refl) (eq-eqb (queued_as q 0).holder _ refl))
      spot (current p) e = absurd (true≢false (sym e))
      spot (transit p) e = absurd (true≢false (sym e))
      spot new e = absurd (true≢false (sym e))
      spot terminated e = absurd (true≢false (sym e))

      by : (b : Bool) → in_range 1 s.T k ≡ b → (let x = choose b (thread_record (thread_entry s k)) zero_thread in shown-queued x ≡ true → (q : ℕ) × (placed_in x q ≡ true))
      by true e =
          let r = range_true 1 s.T k e in
          let x = spot_of s h.placed k r h.m_most in
          rw (spot_entry s h.placed k r x.0 x.1) (spot x.0)
      by false e = λ f. absurd (true≢false (sym f))

  -- a thread in transit is in no queue
  in_transit : (p : ℕ) → In s.P p → (q : ℕ) → 1 ≤ occurrences (processor_at s p).transit (queue_at s q) → ⊥
  in_transit p r q o =
      let k : ℕ = (processor_at s p).transit in
      let t = queue-thread s h q k o in
      by (in_range 1 8 q) (ap (λ (x : Entry). x.status) (sym (spot_entry s h.placed k t (queued q) o) ∙ spot_entry s h.placed k t (transit p) (r, refl)))
    where
      by : (b : Bool) → ◌≡◌ {A = ℕ} (choose b 2 1) 4 → ⊥
      by true e = omega arith
      by false e = omega arith

-- ---- a queue before and after a move

module _ (s e : State) (hs : Fits s) (he : Fits e) (p : ℕ) (rs : In s.P p) (re : In e.P p) (q : ℕ) where
  abbrev c : ℕ
  c = (processor_at s p).transit

  abbrev t : ℕ
  t = (processor_at e p).transit

  queue_told : Step c t (queue_at s q) (queue_at e q) →
      alone (placed_in (thread_of (encode s) t) q) t ++ queue_at e q ≡ queue_at s q ++ alone (placed_in (thread_of (encode e) c) q) c
  queue_told (same x) =
      let a = not-placed s hs q t (λ o. in_transit e he p re q (rw x o)) in
      let b = not-placed e he q c (λ o. in_transit s hs p rs q (rw x at o)) in
      rw (a, b) (x ∙ sym (append-nil (queue_at s q)))
  queue_told (joins x) =
      let a = not-placed s hs q t (λ o. in_transit e he p re q (rw x (omega (arith, occurs_append t (queue_at s q) (c ∷ []))))) in
      let b = placed e he q c (rw x (occurs_here c (queue_at s q) [])) in
      rw (a, b) x
  queue_told (leaves x) =
      let a = placed s hs q t (rw x (first_member t (queue_at e q))) in
      let b = not-placed e he q c (λ o. in_transit s hs p rs q (rw x (later_member c t (queue_at e q) o))) in
      rw (a, b) (sym x ∙ sym (append-nil (queue_at s q)))

-- ---- the records of a state and of the next

module _ (s e : State) (a : Move) (hs : Allowed s) (he : Allowed e) (rs : In s.P a.processor) (re : In e.P a.processor) where
  told : ((m : ℕ) → m ≢ (processor_at s a.processor).mutex → mutex_at e m ≡ mutex_at s m) →
      ((q : ℕ) → Step (processor_at s a.processor).transit (processor_at e a.processor).transit (queue_at s q) (queue_at e q)) → Complete (encode s) a (encode e)
  told kept step =
      let fs = allowed-fits s hs in
      let fe = allowed-fits e he in
      let ps = read-processor s fs a.processor in
      let carried = ap (λ (y : Processor). y.transit) ps in
      let taken = ap (λ (y : Processor). y.transit) (read-processor e fe a.processor) in
      record {
        mutexes = λ m n. read-mutex e fe m ∙ ap mutex_record (kept m (λ x. n (x ∙ sym (ap (λ (y : Processor). y.mutex) ps)))) ∙ sym (read-mutex s fs m);
        queues = λ q.
            let before = ap (λ (x : State). queue_at x q) (decode-encode s hs) in
            let after = ap (λ (x : State). queue_at x q) (decode-encode e he) in
            rw (taken, carried, before, after) (queue_told s e fs fe a.processor rs re q (step q));
        departed = queue_of s fs _;
        joined = queue_of e fe _;
      }

stays : (s : State) (a : Move) → In s.P a.processor → In (next s a).P a.processor
unfolding next
stays s a r = r

pub rows_complete : RowsComplete
rows_complete s h a free kept =
    let p = (legal s a free).processor in
    told s (next s a) a h (next-allowed s a free kept h) p (stays s a p) (mutex-kept s a) (queue-moves s a (rw h.processors p))
