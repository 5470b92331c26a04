-- Where a thread is: in a state that holds each thread once each thread has a spot, and its entry in the picture follows from it.
-- Assumes nothing.
use Prim.Native.Nat.{ℕ, zero, suc, ◌+◌, ◌≤◌}
use mathlib.Core.Bool.{Bool, not}
use mathlib.Core.List.{[]}
use mathlib.Core.Path.{◌≡◌, refl, ap, sym, ◌∙◌}
use native.Mathlib.Nat.{not-suc-le-zero}
use native.Mathlib.Omega.{arith}
use native.Mathlib.Decide.{ℕ_discrete, dec_le}
use lib.Dec.{eqb, leb}
use lib.ListN.{length}
use borrow.Author.Tests.{eq-eqb, ne_eqb, le-leb, lt-leb}
use Rattle.reference.specs.Lists.{find, sum, is, occurrences, if_zero}
use Rattle.reference.specs.State as reference
use Rattle.reference.specs.State.{Life, live, same_life, nobody, free_mutex, processor_at, mutex_at, life_at}
use Rattle.reference.specs.Safe.{In, one_if, held}
use Rattle.reference.specs.Picture.{Entry, entry, thread_entry, behind, stands_in, or_else, unheld}
use Rattle.reference.proofs.Sums.{is_same, is-other, sum-at, sum-some}
use Rattle.state.specs.declared.Thread.{Thread}
use Rattle.state.specs.Allowed.{Allowed}
use Rattle.state.specs.Association.{queue_at, ready_index, queued_as}
use Rattle.state.proofs.Numbers.{queue-mutex, queue-ready, by_number, ready_as, mutex_as}
use Rattle.association.proofs.Tables.{find_none, find_one, sum_plus}

-- in one of the record's queues, in a register, or in none
pub data Spot : Type 0 where
  queued : ℕ → Spot
  current : ℕ → Spot
  transit : ℕ → Spot
  new : Spot
  terminated : Spot

-- thread k is there
abbrev pub AtSpot : reference.State → ℕ → Spot → Type 0
AtSpot s k (queued q) = 1 ≤ occurrences k (queue_at s q)
AtSpot s k (current p) = In s.P p × ((processor_at s p).current ≡ k)
AtSpot s k (transit p) = In s.P p × ((processor_at s p).transit ≡ k)
AtSpot s k new = life_at s k ≡ reference.new
AtSpot s k terminated = life_at s k ≡ reference.terminated

-- the entry of a thread that is there
abbrev pub entry_for : reference.State → ℕ → Spot → Entry
entry_for s k (queued q) = entry (queued_as q 0).status (queued_as q 0).holder (behind k (queue_at s q))
entry_for s k (current p) = entry 3 p 0
entry_for s k (transit p) = entry 4 p 0
entry_for s k new = entry 0 0 0
entry_for s k terminated = entry 5 0 0

-- P processors, M mutexes, T threads, each in exactly one place
pub record Placed (s : reference.State) : Type 0 where
  pub processors : length s.processors ≡ s.P
  pub mutexes : length s.mutexes ≡ s.M
  pub lives : length s.lives ≡ s.T
  pub count : length s.ready ≡ reference.queues s.stealing s.P
  pub one_place : (k : ℕ) → In s.T k → held s k + one_if (not (same_life (life_at s k) live)) ≡ 1

pub allowed-placed : {s : reference.State} → Allowed s → Placed s
allowed-placed h = record { processors = h.processors; mutexes = h.mutexes; lives = h.lives; count = h.count; one_place = h.one_place }

-- ---- the parts of the count

-- how often k stands in a mutex's queue, in a processor's registers, and the test for it
abbrev queue_share : ℕ → reference.Mutex → ℕ
queue_share k x = occurrences k x.queue

abbrev queue_test : ℕ → reference.Mutex → Bool
queue_test k x = stands_in k x.queue

abbrev current_share : ℕ → reference.Processor → ℕ
current_share k r = is k r.current

abbrev current_test : ℕ → reference.Processor → Bool
current_test k r = eqb r.current k

abbrev transit_share : ℕ → reference.Processor → ℕ
transit_share k r = is k r.transit

abbrev transit_test : ℕ → reference.Processor → Bool
transit_test k r = eqb r.transit k

-- in the ready queues, in those of the mutexes, in the current registers, in the transit registers; and 1 for a thread that is new or terminated
abbrev readies : reference.State → ℕ → ℕ
readies s k = sum (occurrences k) s.ready

abbrev waits : reference.State → ℕ → ℕ
waits s k = sum (queue_share k) s.mutexes

abbrev loads : reference.State → ℕ → ℕ
loads s k = sum (current_share k) s.processors

abbrev carries : reference.State → ℕ → ℕ
carries s k = sum (transit_share k) s.processors

abbrev rests : Life → ℕ
rests l = one_if (not (same_life l live))

is_one : (k a : ℕ) → 1 ≤ is k a → a ≡ k
is_one k a h = elim (ℕ_discrete k a) [ yes e ↦ sym e | no n ↦ absurd (omega (arith, is-other k a n)) ]

one_is : (k a : ℕ) → a ≡ k → 1 ≤ is k a
one_is k a e = rw e (omega (arith, is_same k))

is_test : (k a : ℕ) → eqb a k ≡ leb 1 (is k a)
is_test k a =
    elim (ℕ_discrete a k) [
      | yes e ↦ eq-eqb a k e ∙ sym (le-leb 1 (is k a) (one_is k a e))
      | no n ↦ ne_eqb a k n ∙ sym (lt-leb 1 (is k a) (omega (arith, is-other k a (λ e. n (sym e)))))
    ]

none_occurs : (k : ℕ) → 1 ≤ occurrences k [] → ⊥
unfolding sum
none_occurs k o = not-suc-le-zero o

module _ (s : reference.State) (k : ℕ) where
  -- an entry by what is found
  abbrev chosen : ℕ → ℕ → ℕ → ℕ → Life → Entry
  chosen i m c t l =
      or_else i (λ i. entry 1 (if_zero s.stealing 0 i) (behind k (reference.queue_at s i)))
      (or_else m (λ m. entry 2 m (behind k (mutex_at s m).queue)) (or_else c (λ p. entry 3 p 0) (or_else t (λ p. entry 4 p 0) (unheld l))))

  -- the number of the ready queue that has k, of the mutex whose queue has it, of the processor whose current or transit register has it, 0 for none
  abbrev prepared : ℕ
  prepared = find (stands_in k) s.ready

  abbrev waited : ℕ
  waited = find (queue_test k) s.mutexes

  abbrev loaded : ℕ
  loaded = find (current_test k) s.processors

  abbrev carried : ℕ
  carried = find (transit_test k) s.processors

  found : {i m c t : ℕ} {l : Life} → prepared ≡ i → waited ≡ m → loaded ≡ c → carried ≡ t → life_at s k ≡ l → thread_entry s k ≡ chosen i m c t l
  unfolding thread_entry
  found e f g h i = rw (← e, ← f, ← g, ← h, ← i)

module _ (s : reference.State) (h : Placed s) (k : ℕ) (r : In s.T k) where
  one : readies s k + waits s k + loads s k + carries s k + rests (life_at s k) ≡ 1
  one = omega (arith, h.one_place k r, sum_plus (current_share k) (transit_share k) s.processors)

  not-ready : readies s k ≡ 0 → prepared s k ≡ 0
  not-ready = find_none (occurrences k) (stands_in k) (λ q. refl) s.ready

  not-queued : waits s k ≡ 0 → waited s k ≡ 0
  not-queued = find_none (queue_share k) (queue_test k) (λ x. refl) s.mutexes

  not_loaded : loads s k ≡ 0 → loaded s k ≡ 0
  not_loaded = find_none (current_share k) (current_test k) (λ r. is_test k r.current) s.processors

  not_carried : carries s k ≡ 0 → carried s k ≡ 0
  not_carried = find_none (transit_share k) (transit_test k) (λ r. is_test k r.transit) s.processors

  -- in a ready queue, and in a mutex's
  ready-entry : (i : ℕ) → In (length s.ready) i → 1 ≤ occurrences k (reference.queue_at s i) →
      thread_entry s k ≡ entry 1 (if_zero s.stealing 0 i) (behind k (reference.queue_at s i))
  ready-entry zero l a = absurd (not-suc-le-zero l.0)
  ready-entry (suc i) l a =
      let g : occurrences k (reference.queue_at s (suc i)) ≤ readies s k = sum-at (occurrences k) s.ready (suc i) [] l in
      found s k (find_one (occurrences k) (stands_in k) (λ q. refl) s.ready (suc i) [] l a (omega (arith, one))) refl refl refl refl

  waiting-entry : (m : ℕ) → In (length s.mutexes) m → 1 ≤ occurrences k (mutex_at s m).queue → thread_entry s k ≡ entry 2 m (behind k (mutex_at s m).queue)
  waiting-entry zero l a = absurd (not-suc-le-zero l.0)
  waiting-entry (suc m) l a =
      let g : occurrences k (mutex_at s (suc m)).queue ≤ waits s k = sum-at (queue_share k) s.mutexes (suc m) free_mutex l in
      found s k (not-ready (omega (arith, one)))
      (find_one (queue_share k) (queue_test k) (λ x. refl) s.mutexes (suc m) free_mutex l a (omega (arith, one)))
      refl refl refl

  pub spot_entry : (x : Spot) → AtSpot s k x → thread_entry s k ≡ entry_for s k x
  spot_entry (queued q) a =
      by_number s (λ q l. 1 ≤ occurrences k l → thread_entry s k ≡ entry (queued_as q 0).status (queued_as q 0).holder (behind k l)) h.count
      (λ q o. absurd (nowhere o))
      (λ i l o. ready-entry i l o ∙ ap (λ (t : Thread). entry t.status t.holder (behind k (reference.queue_at s i))) (sym (ready_as s.stealing i 0 l.0)))
      (λ m l u o. waiting-entry m l o ∙ ap (λ (t : Thread). entry t.status t.holder (behind k (mutex_at s m).queue)) (sym (mutex_as m 0 (omega arith))))
      q a
    where
      nowhere : 1 ≤ occurrences k [] → ⊥
      nowhere o = none_occurs k o
  spot_entry (current zero) a = absurd (not-suc-le-zero a.0.0)
  spot_entry (current (suc p)) a =
      let l : In (length s.processors) (suc p) = omega (arith, h.processors) in
      let w : 1 ≤ is k (processor_at s (suc p)).current = one_is k (processor_at s (suc p)).current a.1 in
      let g : is k (processor_at s (suc p)).current ≤ loads s k = sum-at (current_share k) s.processors (suc p) nobody l in
      found s k (not-ready (omega (arith, one))) (not-queued (omega (arith, one)))
      (find_one (current_share k) (current_test k) (λ r. is_test k r.current) s.processors (suc p) nobody l w (omega (arith, one)))
      refl refl
  spot_entry (transit zero) a = absurd (not-suc-le-zero a.0.0)
  spot_entry (transit (suc p)) a =
      let l : In (length s.processors) (suc p) = omega (arith, h.processors) in
      let w : 1 ≤ is k (processor_at s (suc p)).transit = one_is k (processor_at s (suc p)).transit a.1 in
      let g : is k (processor_at s (suc p)).transit ≤ carries s k = sum-at (transit_share k) s.processors (suc p) nobody l in
      found s k (not-ready (omega (arith, one))) (not-queued (omega (arith, one))) (not_loaded (omega (arith, one)))
      (find_one (transit_share k) (transit_test k) (λ r. is_test k r.transit) s.processors (suc p) nobody l w (omega (arith, one)))
      refl
  spot_entry new a =
      let w : rests (life_at s k) ≡ 1 = ap rests a in
      found s k (not-ready (omega (arith, one))) (not-queued (omega (arith, one))) (not_loaded (omega (arith, one))) (not_carried (omega (arith, one))) a
  spot_entry terminated a =
      let w : rests (life_at s k) ≡ 1 = ap rests a in
      found s k (not-ready (omega (arith, one))) (not-queued (omega (arith, one))) (not_loaded (omega (arith, one))) (not_carried (omega (arith, one))) a

  -- ---- each thread has a spot

  by-life : (l : Life) → life_at s k ≡ l → rests l ≡ 1 → (x : Spot) × AtSpot s k x
  by-life reference.new e h = (new, e)
  by-life reference.live e h = absurd (omega arith)
  by-life reference.terminated e h = (terminated, e)

  in_processor : readies s k ≡ 0 → waits s k ≡ 0 → (x : Spot) × AtSpot s k x
  in_processor e f =
      elim (dec_le 1 (loads s k)) [
        | yes g ↦ let w = sum-some (current_share k) s.processors nobody g in
            (current w.0, (omega (arith, w.1, h.processors), is_one k (processor_at s w.0).current w.2))
        | no n ↦
            elim (dec_le 1 (carries s k)) [
              | yes g ↦ let w = sum-some (transit_share k) s.processors nobody g in
                  (transit w.0, (omega (arith, w.1, h.processors), is_one k (processor_at s w.0).transit w.2))
              | no o ↦ by-life (life_at s k) refl (omega (arith, one))
            ]
      ]

  pub spot_of : s.M ≤ 8 → (x : Spot) × AtSpot s k x
  spot_of small =
      elim (dec_le 1 (readies s k)) [
        | yes g ↦ let w = sum-some (occurrences k) s.ready [] g in
            (queued (ready_index s.stealing w.0), rw (queue-ready s w.0 (omega (arith, w.1, h.count))) w.2)
        | no n ↦
            elim (dec_le 1 (waits s k)) [
              | yes g ↦ let w = sum-some (queue_share k) s.mutexes free_mutex g in (queued w.0, rw (queue-mutex s w.0 (omega (arith, w.1, h.mutexes))) w.2)
              | no o ↦ in_processor (omega arith) (omega arith)
            ]
      ]
