-- The record's queues by their numbers.
-- Assumes nothing.
use Prim.Native.Nat.{ℕ, zero, suc, ◌+◌, ◌-◌, ◌≤◌, ◌<◌}
use mathlib.Core.List.{List, []}
use mathlib.Core.Path.{◌≡◌, refl, ap, ap₂, sym, subst, ◌∙◌}
use native.Mathlib.Omega.{arith}
use native.Mathlib.Decide.{ℕ_discrete, dec_le}
use lib.Dec.{eqb}
use borrow.Author.Tests.{ne_eqb, le-leb, lt-leb}
use lib.ListN.{length, get_or-eq_default}
use Rattle.reference.specs.Lists.{at, choose, if_zero}
use Rattle.reference.specs.State as reference
use Rattle.reference.specs.State.{free_mutex, mutex_at}
use Rattle.reference.specs.Safe.{In}
use Rattle.state.specs.declared.Thread.{Thread}
use Rattle.state.specs.Association.{queue_at, ready_index, queued_as}
use Rattle.state.proofs.Branch.{if_none, if_some}

-- past the end
pub at_past : {A : Type 0} (l : List A) (i : ℕ) (d : A) → length l < i → at l i d ≡ d
at_past l zero d h = refl
at_past l (suc i) d h = get_or-eq_default l d (omega arith)

module _ (s : reference.State) where
  pub queue-single : s.stealing ≡ 0 → queue_at s 0 ≡ reference.queue_at s 1
  queue-single e = if_none s.stealing _ _ e

  pub queue_no_single : (s.stealing ≡ 0 → ⊥) → queue_at s 0 ≡ []
  queue_no_single e = if_some s.stealing _ _ e

  pub queue-mutex : (m : ℕ) → In 8 m → queue_at s m ≡ (mutex_at s m).queue
  queue-mutex m r = rw (ne_eqb m 0 (omega arith), le-leb m 8 r.1)

  pub queue-each : (q : ℕ) → 8 < q → (s.stealing ≡ 0 → ⊥) → queue_at s q ≡ reference.queue_at s (q - 8)
  queue-each q l e = rw (ne_eqb q 0 (omega arith), lt-leb q 8 l) (if_some s.stealing _ _ e)

  pub queue_no_each : (q : ℕ) → 8 < q → s.stealing ≡ 0 → queue_at s q ≡ []
  queue_no_each q l e = rw (ne_eqb q 0 (omega arith), lt-leb q 8 l) (if_none s.stealing _ _ e)

  -- every queue of the record is empty or one of the state's
  pub by_number : (Q : ℕ → List ℕ → Type 0) → length s.ready ≡ reference.queues s.stealing s.P → ((q : ℕ) → Q q []) →
      ((i : ℕ) → In (length s.ready) i → Q (ready_index s.stealing i) (reference.queue_at s i)) →
      ((m : ℕ) → In (length s.mutexes) m → m ≤ 8 → Q m (mutex_at s m).queue) → (q : ℕ) → Q q (queue_at s q)
  by_number Q n none ready mutex q =
      elim (ℕ_discrete q 0) [
        | yes z ↦ subst (λ (q : ℕ). Q q (queue_at s q)) (sym z) single
        | no z ↦ elim (dec_le q 8) [ yes l ↦ rw (queue-mutex q (omega arith)) (of_mutex q (omega arith) l) | no l ↦ each q (omega arith) ]
      ]
    where
      single : Q 0 (queue_at s 0)
      single =
          elim (ℕ_discrete s.stealing 0) [
            | yes e ↦
                let w : length s.ready ≡ 1 = n ∙ if_none s.stealing 1 s.P e in
                let r : Q (ready_index s.stealing 1) (reference.queue_at s 1) = ready 1 (omega arith) in
                rw (queue-single e) (subst (λ (q : ℕ). Q q (reference.queue_at s 1)) (if_none s.stealing 0 (8 + 1) e) r)
            | no e ↦ rw (queue_no_single e) (none 0)
          ]

      of_mutex : (m : ℕ) → 1 ≤ m → m ≤ 8 → Q m (mutex_at s m).queue
      of_mutex m l u =
          elim (dec_le m (length s.mutexes)) [
            | yes h ↦ mutex m (l, h) u
            | no h ↦ rw (at_past s.mutexes m free_mutex (omega arith)) (none m)
          ]

      each : (q : ℕ) → 8 < q → Q q (queue_at s q)
      each q l =
          elim (ℕ_discrete s.stealing 0) [
            | yes e ↦ rw (queue_no_each q l e) (none q)
            | no e ↦
                rw (queue-each q l e)
                (elim (dec_le (q - 8) (length s.ready)) [
                  | yes h ↦ let k : 8 + (q - 8) ≡ q = omega arith in subst (λ (x : ℕ). Q x (reference.queue_at s (q - 8))) (if_some s.stealing 0 (8 + (q - 8)) e ∙ k) (ready (q - 8) (omega arith))
                  | no h ↦ rw (at_past s.ready (q - 8) [] (omega arith)) (none q)
                ])
          ]

  -- a ready queue by its number
  pub queue-ready : (i : ℕ) → In (reference.queues s.stealing s.P) i → queue_at s (ready_index s.stealing i) ≡ reference.queue_at s i
  queue-ready i r =
      elim (ℕ_discrete s.stealing 0) [
        | yes e ↦
            let o : i ≡ 1 = omega (arith, if_none s.stealing 1 s.P e) in
            ap (queue_at s) (if_none s.stealing 0 (8 + i) e) ∙ queue-single e ∙ ap (reference.queue_at s) (sym o)
        | no e ↦
            let o : 8 + i - 8 ≡ i = omega arith in
            ap (queue_at s) (if_some s.stealing 0 (8 + i) e) ∙ queue-each (8 + i) (omega arith) e ∙ ap (reference.queue_at s) o
      ]

-- ---- the status and the holder of a thread of a queue

abbrev pub stands : ℕ → ℕ → ℕ → Thread
stands s h n = record { status = s; holder = h; next = n }

pub mutex_as : (m n : ℕ) → In 8 m → queued_as m n ≡ stands 2 m n
mutex_as m n r = rw (le-leb 1 m r.0, le-leb m 8 r.1)

pub ready_as : (stealing i n : ℕ) → 1 ≤ i → queued_as (ready_index stealing i) n ≡ stands 1 (if_zero stealing 0 i) n
ready_as zero i n l = refl
ready_as (suc c) i n l =
    let o : 8 + i - 8 ≡ i = omega arith in
    rw (le-leb 1 (8 + i) (omega arith), lt-leb (8 + i) 8 (omega arith)) (ap (λ (h : ℕ). stands 1 h n) o)

-- so the status and the holder tell the queue
abbrev pub number_of : ℕ → ℕ → ℕ
number_of status holder = choose (eqb status 2) holder (if_zero holder 0 (8 + holder))

pub number-back : (q n : ℕ) → number_of (queued_as q n).status (queued_as q n).holder ≡ q
number-back q n =
    elim (ℕ_discrete q 0) [
      | yes z ↦ rw z
      | no z ↦
          elim (dec_le q 8) [
            | yes l ↦ rw (le-leb 1 q (omega arith), le-leb q 8 l)
            | no l ↦
                let o : 8 + (q - 8) ≡ q = omega arith in
                rw (le-leb 1 q (omega arith), lt-leb q 8 (omega arith)) (if_some (q - 8) 0 (8 + (q - 8)) (omega arith) ∙ o)
          ]
    ]

pub number_one : (q n x m : ℕ) → (queued_as q n).status ≡ (queued_as x m).status → (queued_as q n).holder ≡ (queued_as x m).holder → q ≡ x
number_one q n x m e d = sym (number-back q n) ∙ ap₂ number_of e d ∙ number-back x m
