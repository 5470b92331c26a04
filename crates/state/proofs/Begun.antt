-- The steps of the start's models: a processor, a thread's place on a ring, a queue's first, a thread of the start state.
-- Assumes nothing.
use Prim.Native.Nat.{ℕ, suc, ◌+◌, ◌-◌, ◌%◌, ◌≤◌, ◌<◌}
use mathlib.Core.Bool.{Bool, true, false, ◌&&◌, not}
use mathlib.Core.Path.{◌≡◌, refl, ap, sym, ◌∙◌}
use native.Mathlib.Nat.{mod-zero, zero-mod}
use native.Mathlib.Decide.{dec_le}
use native.Mathlib.Omega.{arith}
use lib.Dec.{leb}
use borrow.Author.Tests.{eq-eqb, ne_eqb, le-leb, lt-leb}
use Rattle.reference.specs.Lists.{around, choose, in_range}
use Rattle.reference.specs.State.{queues}
use Rattle.state.specs.declared.Processor.{Processor}
use Rattle.state.specs.Record.{zero_thread}
use Rattle.state.specs.Association.{ready_index, queued_as}
use Rattle.state.specs.Model.Access.{standing_at, first_processor, first_index, first_thread, first_first}
use Rattle.state.proofs.Branch.{if_none, if_some}

-- ---- a processor

module _ (p b i : ℕ) where
  pub position_first : choose (in_range 1 p i && not (leb i b)) 1 0 ≡ (first_processor p b i).position
  unfolding first_processor
  position_first = by (in_range 1 p i) (leb i b)
    where
      by : (t l : Bool) → choose {A = ℕ} (t && not l) 1 0 ≡ (choose {A = Processor} t (choose l (standing_at 0 i) (standing_at 1 0)) (standing_at 0 0)).position
      by true true = refl
      by true false = refl
      by false l = refl

  pub current-first : choose (in_range 1 p i && leb i b) i 0 ≡ (first_processor p b i).current
  unfolding first_processor
  current-first = by (in_range 1 p i) (leb i b)
    where
      by : (t l : Bool) → choose {A = ℕ} (t && l) i 0 ≡ (choose {A = Processor} t (choose l (standing_at 0 i) (standing_at 1 0)) (standing_at 0 0)).current
      by true true = refl
      by true false = refl
      by false l = refl

  -- all else is zero
  pub processor-first : standing_at (first_processor p b i).position (first_processor p b i).current ≡ first_processor p b i
  unfolding first_processor
  processor-first = by (in_range 1 p i) (leb i b)
    where
      by : (t l : Bool) →
          let x : Processor = choose t (choose l (standing_at 0 i) (standing_at 1 0)) (standing_at 0 0) in
          standing_at x.position x.current ≡ x
      by true true = refl
      by true false = refl
      by false l = refl

-- ---- a sum

-- n is at most b or not, said by a sum that fits
pub sum_fits : (b k n : ℕ) → n ≤ b → k ≤ b - n → k + n ≡ choose (leb (k + n) b) (k + n) 0
sum_fits b k n h l = rw (le-leb (k + n) b (omega arith))

pub sum_over : (b k n : ℕ) → (n ≤ b → k ≤ b - n → ⊥) → 0 ≡ choose (leb (k + n) b) (k + n) 0
sum_over b k n h = elim (dec_le (k + n) b) [ yes l ↦ absurd (h (omega arith) (omega arith)) | no l ↦ rw (lt-leb (k + n) b (omega arith)) ]

-- ---- a thread's place on a ring

pub around-none : (p k : ℕ) → k ≡ 0 → 1 ≡ around p k
around-none p k e = rw e (ap suc (sym (zero-mod p)))

pub around-alone : (p k : ℕ) → (k ≡ 0 → ⊥) → p ≡ 0 → k ≡ around p k
around-alone p k e z =
    let w : (k - 1) % p ≡ k - 1 = ap (λ (n : ℕ). (k - 1) % n) z ∙ mod-zero (k - 1) in
    omega arith

-- ---- a queue's first

module _ (p b stealing q : ℕ) where
  pub first-single : stealing ≡ 0 → q ≡ 0 → choose (leb (p + 1) b) (p + 1) 0 ≡ first_first p b stealing q
  unfolding first_first
  first-single e z = sym (if_none stealing _ _ e ∙ ap (λ (t : Bool). choose t (choose (leb (p + 1) b) (p + 1) 0) 0) (eq-eqb q 0 z))

  pub first_no_single : stealing ≡ 0 → (q ≡ 0 → ⊥) → 0 ≡ first_first p b stealing q
  unfolding first_first
  first_no_single e z = sym (if_none stealing _ _ e ∙ ap (λ (t : Bool). choose t (choose (leb (p + 1) b) (p + 1) 0) 0) (ne_eqb q 0 z))

  pub first-each : (stealing ≡ 0 → ⊥) → 8 < q → q - 8 ≤ p → choose (leb (p + (q - 8)) b) (p + (q - 8)) 0 ≡ first_first p b stealing q
  unfolding first_first
  first-each e l h = sym (if_some stealing _ _ e ∙ rw (le-leb 9 q (omega arith), le-leb q (8 + p) (omega arith)))

  pub first_no_each : (stealing ≡ 0 → ⊥) → (8 < q → q - 8 ≤ p → ⊥) → 0 ≡ first_first p b stealing q
  unfolding first_first
  first_no_each e h =
      sym
      (if_some stealing _ _ e ∙
      elim (dec_le 9 q) [
        | no l ↦ rw (lt-leb 9 q (omega arith))
        | yes l ↦ rw (le-leb 9 q l) (elim (dec_le q (8 + p)) [ no u ↦ rw (lt-leb q (8 + p) (omega arith)) | yes u ↦ absurd (h l (omega arith)) ])
      ])

-- ---- a thread

module _ (p stealing k : ℕ) where
  pub index_each : in_range 1 8 p ≡ true → (stealing ≡ 0 → ⊥) → 8 + around p k ≡ first_index p stealing k
  unfolding first_index
  index_each e z = sym (ap (λ (t : Bool). choose t (ready_index stealing (around p k)) 0) e ∙ if_some stealing 0 (8 + around p k) z)

  pub index_single : stealing ≡ 0 → 0 ≡ first_index p stealing k
  unfolding first_index
  index_single z = by (in_range 1 8 p)
    where
      by : (t : Bool) → 0 ≡ choose t (ready_index stealing (around p k)) 0
      by true = sym (if_none stealing 0 (8 + around p k) z)
      by false = refl

  pub index_none : in_range 1 8 p ≡ false → 0 ≡ first_index p stealing k
  unfolding first_index
  index_none e = sym (ap (λ (t : Bool). choose t (ready_index stealing (around p k)) 0) e)

module _ (p b stealing k : ℕ) where
  pub thread_loaded : in_range 1 b k ≡ true → k ≤ p → record { status = 3; holder = k; next = 0 } ≡ first_thread p b stealing k
  unfolding first_thread
  thread_loaded e l = rw (e, le-leb k p l)

  pub thread-ready : in_range 1 b k ≡ true → p < k →
      queued_as (first_index p stealing k) (choose (leb (k + queues stealing p) b) (k + queues stealing p) 0) ≡ first_thread p b stealing k
  unfolding first_thread
  thread-ready e l = rw (e, lt-leb k p l)

  pub thread-none : in_range 1 b k ≡ false → zero_thread ≡ first_thread p b stealing k
  unfolding first_thread
  thread-none e = rw e
