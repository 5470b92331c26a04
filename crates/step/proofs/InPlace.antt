-- Moves in place: what a move sees and makes of the parts of a record is what it sees and makes of the record, one more move, and the end.
-- Assumes nothing.
use Prim.Native.Nat.{ℕ, zero, suc, ◌+◌, ◌-◌, ◌*◌, ◌/◌, ◌<◌}
use mathlib.Core.Bool.{Bool, true, false, not, ◌&&◌, ◌||◌, or-true, true≢false}
use mathlib.Core.List.{List, [], ◌∷◌}
use mathlib.Core.Logic.{◌⊎◌, inl, inr}
use mathlib.Core.Path.{◌≡◌, refl, sym, ap, ◌∙◌}
use native.Mathlib.Omega.{arith}
use lib.Dec.{eqb, leb}
use lib.ListN.{length, get_or, set, length-set}
use lib.Seq.{set-get_or}
use borrow.Author.Tests.{eq-eqb, ne_eqb, le-leb, lt-leb, leb-false, eqb-true, eqb-false}
use Rattle.reference.specs.Lists.{choose, in_range}
use Rattle.reference.specs.Refusal.{refuse}
use Rattle.reference.specs.Cause.{Facts}
use Rattle.state.specs.declared.Chains.{Chains}
use Rattle.state.specs.declared.Processor.{Processor}
use Rattle.state.specs.declared.Mutex.{Mutex}
use Rattle.state.specs.declared.State.{State}
use Rattle.state.specs.Record.{zero_mutex, processor_of, thread_of}
use Rattle.step.specs.declared.View.{View}
use Rattle.step.specs.declared.Effect.{Effect}
use Rattle.step.specs.declared.Sizes.{Sizes}
use Rattle.step.specs.Model.Moves.{Run, Moved, Decision, target_of, put_effect, carried, act_effect, up_to, owns_none, facts_of, move_view, cause_of, cause_seen, tried, step_breaks_of, refusal_of, stepped_of, moved_of, moved_at, sizes_of, act_outcome, refusal_seen, decision, ran, run_from, run_of, noted, noted_at, counted_from, counted_of}
use Rattle.step.proofs.Keeps.{keeps}

-- ---- why it is refused

-- an action that is none is refused
no_action : (s : State) (p a o : ℕ) → 6 < a → cause_of s p a o ≡ 0 → ⊥
unfolding cause_seen
no_action s p a o h e = by (not (in_range 1 s.p p)) (leb a 6) _ _ (lt-leb a 6 h) e
  where
    by : (x t b : Bool) (n : ℕ) → t ≡ false → refuse x 2 (refuse (not (t && b)) 3 n) ≡ 0 → ⊥
    by true t b n d q = omega arith
    by false true b n d q = true≢false d
    by false false b n d q = omega arith

-- it is tried: refused by 15 or not at all
tried-is : (s : State) (p a o : ℕ) → cause_of s p a o ≡ 0 →
    ◌≡◌ {A = ℕ} (choose (act_outcome s.t a o (move_view s p a o)).broken 15 0) (choose (step_breaks_of s p a) 15 0)
unfolding step_breaks_of act_outcome
tried-is s p zero o z = refl
tried-is s p (suc a) o z = rw (ne_eqb (suc a) 0 (λ e. omega arith)) (by _ (leb (suc a) 6) refl)
  where
    by : (broken t : Bool) → leb (suc a) 6 ≡ t → ◌≡◌ {A = ℕ} (choose (not (in_range 1 6 (suc a)) && broken) 15 0) 0
    by broken true e = rw (le-leb 1 (suc a) (omega arith), e)
    by broken false e = absurd (no_action s p (suc a) o (leb-false (suc a) 6 e) z)

-- 21 stands unless the thread is free of mutexes
abbrev cleared : Bool → ℕ → ℕ
cleared free n = choose (eqb n 21 && free) 0 n

-- the causes before 21, by their tests, and what comes after them
abbrev before_21 : Bool → Bool → Bool → Bool → Bool → Bool → Bool → ℕ → ℕ
before_21 q r t u w x y later = refuse q 2 (refuse r 3 (refuse t 8 (refuse u 4 (refuse w 5 (refuse x 6 (refuse y 7 later))))))

-- none of them is there, or one that is neither 21 nor 0, whatever comes after
one_before : (q r t u w x y : Bool) →
    ((l : ℕ) → before_21 q r t u w x y l ≡ l) ⊎ ((n : ℕ) × ((eqb n 21 ≡ false) × (eqb n 0 ≡ false)) × ((l : ℕ) → before_21 q r t u w x y l ≡ n))
one_before true r t u w x y = inr (2, (refl, refl), λ l. refl)
one_before false true t u w x y = inr (3, (refl, refl), λ l. refl)
one_before false false true u w x y = inr (8, (refl, refl), λ l. refl)
one_before false false false true w x y = inr (4, (refl, refl), λ l. refl)
one_before false false false false true x y = inr (5, (refl, refl), λ l. refl)
one_before false false false false false true y = inr (6, (refl, refl), λ l. refl)
one_before false false false false false false true = inr (7, (refl, refl), λ l. refl)
one_before false false false false false false false = inl (λ l. refl)

module _ (z : Sizes) (v : View) (status a o : ℕ) where
  -- the cause of a thread that owns a mutex or owns none, and what is left of it where none of those before is there
  abbrev cause-by : Bool → ℕ
  cause-by owning = cause_seen z v owning status a o

  abbrev left : Bool → ℕ
  left owning = refuse (eqb a 5 && owning) 21 0

  abbrev Cases : Type 0
  Cases =
      ((owning : Bool) → cause-by owning ≡ left owning) ⊎ ((n : ℕ) × ((eqb n 21 ≡ false) × (eqb n 0 ≡ false)) × ((owning : Bool) → cause-by owning ≡ n))

  which : Cases
  unfolding cause_seen
  which =
      let f : Facts = facts_of (in_range 1 z.p v.number) (eqb a 0) z v true status a o in
      elim
      (one_before (not f.there) (not f.fits) f.full (not f.goes && not f.at_app) (f.goes && f.at_app) (f.unlocks && not f.owner)
      (f.creates && not f.is_new))
      [ inl h ↦ inl (λ w. h (left w)) | inr h ↦ inr (h.0, h.1, λ w. h.2 (left w)) ]

  left-free : left false ≡ 0
  left-free = by (eqb a 5)
    where
      by : (b : Bool) → ◌≡◌ {A = ℕ} (refuse (b && false) 21 0) 0
      by true = refl
      by false = refl

  left-owner : left true ≡ choose (eqb a 5) 21 0
  left-owner = by (eqb a 5)
    where
      by : (b : Bool) → ◌≡◌ {A = ℕ} (refuse (b && true) 21 0) (choose b 21 0)
      by true = refl
      by false = refl

  -- a cause that is there whether or not the thread owns a mutex
  pub same-cause : eqb (cause-by false) 0 ≡ false → cause-by true ≡ cause-by false
  same-cause e = by which
    where
      by : Cases → cause-by true ≡ cause-by false
      by (inl h) = absurd (eqb-false _ 0 e (h false ∙ left-free))
      by (inr h) = h.2 true ∙ sym (h.2 false)

  -- without one, an exit is left with the question
  pub owner-cause : cause-by false ≡ 0 → cause-by true ≡ choose (eqb a 5) 21 0
  owner-cause e = by which
    where
      by : Cases → cause-by true ≡ choose (eqb a 5) 21 0
      by (inl h) = h true ∙ left-owner
      by (inr h) = absurd (eqb-false h.0 0 h.1.1 (sym (h.2 false) ∙ e))

  -- and 21 is not the cause of a thread that owns none
  pub unasked : eqb (cause-by false) 21 ≡ false
  unasked = by which
    where
      by : Cases → eqb (cause-by false) 21 ≡ false
      by (inl h) = ap (λ (n : ℕ). eqb n 21) (h false ∙ left-free)
      by (inr h) = ap (λ (n : ℕ). eqb n 21) (h.2 false) ∙ h.1.0

  -- 21 is the cause of an exit only
  exit-only : cause-by true ≡ 21 → a ≡ 5
  exit-only e = by which
    where
      five : (b : Bool) → eqb a 5 ≡ b → refuse (b && true) 21 0 ≡ 21 → a ≡ 5
      five true d n = eqb-true a 5 d
      five false d n = absurd (omega arith)

      by : Cases → a ≡ 5
      by (inl h) = five (eqb a 5) refl (sym (h true) ∙ e)
      by (inr h) = absurd (true≢false (sym (eq-eqb h.0 21 (sym (h.2 true) ∙ e)) ∙ h.1.0))

  -- the cause of a thread that may be free of mutexes, by that of one that owns some
  cause_cleared : (free : Bool) → cleared free (cause-by true) ≡ cause-by (not free)
  cause_cleared free = by which
    where
      left_cleared : (b h : Bool) → ◌≡◌ {A = ℕ} (cleared h (refuse (b && true) 21 0)) (refuse (b && not h) 21 0)
      left_cleared true true = refl
      left_cleared true false = refl
      left_cleared false h = refl

      by : Cases → cleared free (cause-by true) ≡ cause-by (not free)
      by (inl h) = ap (cleared free) (h true) ∙ left_cleared (eqb a 5) free ∙ sym (h (not free))
      by (inr h) = ap (cleared free) (h.2 true) ∙ ap (λ (b : Bool). choose (b && free) 0 h.0) h.1.0 ∙ sym (h.2 (not free))

-- an exit breaks no rule
exit-unbroken : (t a o : ℕ) (v : View) → a ≡ 5 → (act_outcome t a o v).broken ≡ false
unfolding act_outcome
exit-unbroken t a o v e = ap (λ (k : ℕ). (act_outcome t k o v).broken) e

exit-breaks : (s : State) (p a : ℕ) → a ≡ 5 → step_breaks_of s p a ≡ false
unfolding step_breaks_of
exit-breaks s p a e = ap (step_breaks_of s p) e

-- 15 and 0 are not 21
uncleared : (free b : Bool) → ◌≡◌ {A = ℕ} (cleared free (choose b 15 0)) (choose b 15 0)
uncleared free true = refl
uncleared free false = refl

or_zero : (c : ℕ) → choose (eqb c 0) 0 c ≡ c
or_zero zero = refl
or_zero (suc c) = rw (ne_eqb (suc c) 0 (omega arith))

-- what is cleared to 0 was tried
cleared_tried : (free : Bool) (n : ℕ) → cleared free n ≡ 0 → tried n ≡ true
cleared_tried free n z = by (eqb n 21) refl z
  where
    by : (b : Bool) → eqb n 21 ≡ b → choose (b && free) 0 n ≡ 0 → eqb n 0 || b ≡ true
    by true e h = or-true (eqb n 0)
    by false e h = rw (eq-eqb n 0 h)

-- what is not 21 stands
pub stands : (free : Bool) (n : ℕ) → eqb n 21 ≡ false → n ≡ cleared free n
stands free n e = sym (ap (λ (b : Bool). choose (b && free) 0 n) e)

-- the question of an exit whether its thread is free of mutexes: it is not, or all is well
pub owner_stays : (free : Bool) (a : ℕ) → a ≡ 5 → free ≡ false → 21 ≡ cleared free (choose (eqb a 5) 21 0)
owner_stays free a e f = rw (e, f)

pub goes_free : (free : Bool) (a : ℕ) → (a ≡ 5 → free ≡ true) → 0 ≡ cleared free (choose (eqb a 5) 21 0)
goes_free free a h = by (eqb a 5) (λ e. h (eqb-true a 5 e))
  where
    by : (b : Bool) → (b ≡ true → free ≡ true) → ◌≡◌ {A = ℕ} 0 (cleared free (choose b 21 0))
    by true k = rw (k refl)
    by false k = refl

-- the refusal of its decision, once it is asked whether the thread is free of mutexes
decided : (s : State) (p a o : ℕ) →
    cleared (owns_none s.mutexes s.m (processor_of s p).current) (refusal_seen (sizes_of s) (move_view s p a o) (thread_of s o).status a o) ≡ refusal_of s p a o
unfolding refusal_seen refusal_of
decided s p a o = by (eqb n 0) (eqb n 21) refl refl
  where
    free : Bool
    free = owns_none s.mutexes s.m (processor_of s p).current

    n : ℕ
    n = cause_seen (sizes_of s) (move_view s p a o) true (thread_of s o).status a o

    broken : Bool
    broken = (act_outcome s.t a o (move_view s p a o)).broken

    c : ℕ
    c = cause_of s p a o

    cause-is : cleared free n ≡ c
    cause-is = cause_cleared (sizes_of s) (move_view s p a o) (thread_of s o).status a o free

    by : (none owner : Bool) → eqb n 0 ≡ none → eqb n 21 ≡ owner →
        cleared free (choose (none || owner) (choose broken 15 n) n) ≡ choose (eqb c 0) (choose (step_breaks_of s p a) 15 0) c
    by true owner e f =
        let z : n ≡ 0 = eqb-true n 0 e in
        let w : c ≡ 0 = sym cause-is ∙ ap (cleared free) z in
        ap (λ (k : ℕ). cleared free (choose broken 15 k)) z ∙ ap (cleared free) (tried-is s p a o w) ∙ uncleared free (step_breaks_of s p a) ∙
        ap (λ (k : ℕ). choose (eqb k 0) (choose (step_breaks_of s p a) 15 0) k) (sym w)
    by false true e f =
        let five : a ≡ 5 = exit-only (sizes_of s) (move_view s p a o) (thread_of s o).status a o (eqb-true n 21 f) in
        ap (λ (b : Bool). cleared free (choose b 15 n)) (exit-unbroken s.t a o (move_view s p a o) five) ∙ cause-is ∙ sym (or_zero c) ∙
        ap (λ (b : Bool). choose (eqb c 0) (choose b 15 0) c) (sym (exit-breaks s p a five))
    by false false e f =
        let w : c ≡ n = sym cause-is ∙ ap (λ (b : Bool). choose (b && free) 0 n) f in
        cause-is ∙ sym (ap (λ (b : Bool). choose b (choose (step_breaks_of s p a) 15 0) c) (ap (λ (k : ℕ). eqb k 0) w ∙ e))

-- ---- the move in place

module _ (s : State) (p a o : ℕ) where
  -- the mutex that it works on
  abbrev pub at : ℕ
  at = target_of a (processor_of s p).mutex o

  -- whether its thread is free of mutexes
  abbrev pub free : Bool
  free = owns_none s.mutexes s.m (processor_of s p).current

  -- the parts of the record put back: chains and mutexes first, then registers and count
  pub parts : (e : Effect) (c : Chains) (xs : List Mutex) (s' : State) (ps : List Processor) (n : ℕ) → c ≡ carried s.chains p e.transfer → xs ≡ set s.mutexes at e.mutex →
      s' ≡ record { p = s.p; t = s.t; m = s.m; stealing = s.stealing; applied = s.applied; chains = c; processors = s.processors; mutexes = xs } →
      ps ≡ set s'.processors p e.proc → n ≡ up_to 65535 s'.applied →
      record { p = s'.p; t = s'.t; m = s'.m; stealing = s'.stealing; applied = n; chains = s'.chains; processors = ps; mutexes = s'.mutexes } ≡ put_effect s p at e
  parts e c xs s' ps n c-is xs-is s'-is ps-is n-is = rw (ps-is, n-is, s'-is, c-is, xs-is)

  -- its decision, and its refusal once it is asked that
  module _ (d : Decision) (d-is : d ≡ decision (sizes_of s) (move_view s p a o) (thread_of s o).status a o) (n : ℕ) (n_is : n ≡ cleared free d.refusal) where
    refusal_is : n ≡ refusal_of s p a o
    unfolding decision
    refusal_is = n_is ∙ ap (λ (q : Decision). cleared free q.refusal) d-is ∙ decided s p a o

    pub stays : (n ≡ 0 → ⊥) → record { refusal = n; state = s } ≡ moved_of s p a o
    unfolding moved_of
    stays z = rw (← refusal_is, ne_eqb n 0 z)

    module _ (z : n ≡ 0) where
      accepts : tried (refusal_seen (sizes_of s) (move_view s p a o) (thread_of s o).status a o) ≡ true
      unfolding decision
      accepts =
          cleared_tried free (refusal_seen (sizes_of s) (move_view s p a o) (thread_of s o).status a o)
          (ap (cleared free) (sym (ap (λ (q : Decision). q.refusal) d-is)) ∙ sym n_is ∙ z)

      effect_is : d.effect ≡ act_effect a o (move_view s p a o)
      unfolding decision act_outcome
      effect_is = ap (λ (q : Decision). q.effect) d-is ∙ rw accepts

      writes-is : d.writes ≡ (act_outcome s.t a o (move_view s p a o)).writes
      unfolding decision
      writes-is = ap (λ (q : Decision). q.writes) d-is ∙ rw accepts

      -- a mutex that is not written is as it was
      pub unwritten : d.writes ≡ false → s.mutexes ≡ set s.mutexes at d.effect.mutex
      unwritten w =
          sym (ap (set s.mutexes at) (ap (λ (q : Effect). q.mutex) effect_is ∙ keeps s.t a o (move_view s p a o) (sym writes-is ∙ w)) ∙
          set-get_or s.mutexes at zero_mutex)

      pub goes : (after : State) → after ≡ put_effect s p at d.effect → record { refusal = 0; state = after } ≡ moved_of s p a o
      unfolding moved_of stepped_of
      goes after e = rw (← refusal_is, z, e, effect_is)

-- a list of one move
pub moved-is : (s : State) (p a o : ℕ) →
    record { refusal = (run_of s (p ∷ a ∷ o ∷ [])).refusal; state = (run_of s (p ∷ a ∷ o ∷ [])).state } ≡ moved_of s p a o
unfolding run_from moved_of
moved-is s p a o = by (eqb (refusal_of s p a o) 0) refl
  where
    by : (b : Bool) → eqb (refusal_of s p a o) 0 ≡ b →
        ◌≡◌ {A = Moved}
        (record {
          refusal = (choose {A = Run} b (ran 0 1 (choose b (stepped_of s p a o) s)) (ran (refusal_of s p a o) 0 s)).refusal;
          state = (choose {A = Run} b (ran 0 1 (choose b (stepped_of s p a o) s)) (ran (refusal_of s p a o) 0 s)).state;
        })
        (record { refusal = refusal_of s p a o; state = choose b (stepped_of s p a o) s })
    by true e = ap (λ (n : ℕ). record { refusal = n; state = stepped_of s p a o }) (sym (eqb-true (refusal_of s p a o) 0 e))
    by false e = refl

-- a move that is refused leaves the record
pub left_alone : (s : State) (p a o n : ℕ) (after : State) → record { refusal = n; state = after } ≡ moved_of s p a o → (n ≡ 0 → ⊥) → after ≡ s
unfolding moved_of
left_alone s p a o n after e z =
    ap (λ (x : Moved). x.state) e ∙ rw (ne_eqb (refusal_of s p a o) 0 (λ q. z (ap (λ (x : Moved). x.refusal) e ∙ q)))

-- ---- one more move, a refused one, and the end

abbrev refusal : List ℕ → ℕ → State → ℕ
refusal j i s = refusal_of s (get_or j (3 * i) 0) (get_or j (3 * i + 1) 0) (get_or j (3 * i + 2) 0)

module _ (j : List ℕ) (n i : ℕ) (s : State) (h : i < n) where
  pub run_more : refusal j i s ≡ 0 →
      run_from j (n - i) i s ≡ run_from j (n - (i + 1)) (i + 1) (stepped_of s (get_or j (3 * i) 0) (get_or j (3 * i + 1) 0) (get_or j (3 * i + 2) 0))
  unfolding run_from moved_of
  run_more z =
      let k : n - i ≡ suc (n - (i + 1)) = omega arith in
      rw (k, z)

  pub run-stop : (refusal j i s ≡ 0 → ⊥) → run_from j (n - i) i s ≡ ran (refusal j i s) i s
  unfolding run_from moved_of
  run-stop z =
      let k : n - i ≡ suc (n - (i + 1)) = omega arith in
      rw (k, ne_eqb _ 0 z)

  pub counted_more : (calls : List ℕ) → refusal j i s ≡ 0 →
      counted_from j (n - i) i s calls ≡
      counted_from j (n - (i + 1)) (i + 1) (stepped_of s (get_or j (3 * i) 0) (get_or j (3 * i + 1) 0) (get_or j (3 * i + 2) 0)) (noted_at s j i calls)
  unfolding counted_from moved_of
  counted_more calls z =
      let k : n - i ≡ suc (n - (i + 1)) = omega arith in
      rw (k, z)

  pub counted_stop : (calls : List ℕ) → (refusal j i s ≡ 0 → ⊥) → counted_from j (n - i) i s calls ≡ calls
  unfolding counted_from moved_of
  counted_stop calls z =
      let k : n - i ≡ suc (n - (i + 1)) = omega arith in
      rw (k, ne_eqb _ 0 z)

pub run_end : (j : List ℕ) (n : ℕ) (s : State) → run_from j (n - n) n s ≡ ran 0 n s
unfolding run_from
run_end j n s =
    let k : n - n ≡ 0 = omega arith in
    rw k

pub counted-end : (j : List ℕ) (n : ℕ) (s : State) (calls : List ℕ) → counted_from j (n - n) n s calls ≡ calls
unfolding counted_from
counted-end j n s calls =
    let k : n - n ≡ 0 = omega arith in
    rw k

length-noted : (s : State) (j : List ℕ) (i : ℕ) (calls : List ℕ) → length (noted_at s j i calls) ≡ length calls
length-noted s j i calls = by (eqb (get_or j (3 * i + 1) 0) 0)
  where
    k : ℕ
    k = (processor_of s (get_or j (3 * i) 0)).current

    by : (b : Bool) → length (choose b calls (noted calls k)) ≡ length calls
    by true = refl
    by false = length-set calls k (up_to 65535 (get_or calls k 0))

-- a list of counts keeps its length
pub length-counted : (j : List ℕ) (n i : ℕ) (s : State) (calls : List ℕ) → length (counted_from j n i s calls) ≡ length calls
unfolding counted_from
length-counted j zero i s calls = refl
length-counted j (suc n) i s calls =
    by (eqb (moved_at s j i).refusal 0) (length-counted j n (i + 1) (moved_at s j i).state (noted_at s j i calls) ∙ length-noted s j i calls)
  where
    rest : List ℕ
    rest = counted_from j n (i + 1) (moved_at s j i).state (noted_at s j i calls)

    by : (b : Bool) → length rest ≡ length calls → length (choose b rest calls) ≡ length calls
    by true e = e
    by false e = refl

-- what each accepted move keeps, all moves keep: to the end, or to the first refused move
module _ (j : List ℕ) (G : ℕ → State → List ℕ → Type 0) (last : ℕ)
    (more :
    (i : ℕ) (s : State) (calls : List ℕ) → G i s calls → i < last → (moved_at s j i).refusal ≡ 0 →
    G (i + 1) (moved_at s j i).state (noted_at s j i calls))
  where
    -- where a run from move i on ends, and the calls that it has counted
    pub record Ends (r : Run) (calls : List ℕ) : Type 0 where
      pub reached : G r.made r.state calls
      pub whole : r.refusal ≡ 0 → r.made ≡ last
      pub part : (r.refusal ≡ 0 → ⊥) → r.made < last
      pub cause : (r.refusal ≡ 0 → ⊥) →
          r.refusal ≡ (moved_at r.state j r.made).refusal

    pub run_ends : (n i : ℕ) (s : State) (calls : List ℕ) → G i s calls → i + n ≡ last → Ends (run_from j n i s) (counted_from j n i s calls)
    unfolding run_from counted_from
    run_ends zero i s calls g e = record { reached = g; whole = λ z. omega arith; part = λ z. absurd (z refl); cause = λ z. absurd (z refl) }
    run_ends (suc n) i s calls g e =
        by (eqb here.refusal 0) refl (λ k. run_ends n (i + 1) here.state (noted_at s j i calls) k (omega arith))
      where
        here : Moved
        here = moved_at s j i

        rest : Run
        rest = run_from j n (i + 1) here.state

        counts : List ℕ
        counts = counted_from j n (i + 1) here.state (noted_at s j i calls)

        by : (b : Bool) → eqb here.refusal 0 ≡ b → (G (i + 1) here.state (noted_at s j i calls) → Ends rest counts) →
            Ends (choose b rest (ran here.refusal i s)) (choose b counts calls)
        by true t on = on (more i s calls g (omega arith) (eqb-true here.refusal 0 t))
        by false t on = record { reached = g; whole = λ z. absurd (eqb-false here.refusal 0 t z); part = λ z. omega arith; cause = λ z. refl }

-- ---- the code's run, after i moves; first: the calls before the run

pub record Running (start : State) (j first : List ℕ) (i : ℕ) (s : State) (calls : List ℕ) : Type 0 where
  pub left : run_from j (length j / 3 - i) i s ≡ run_of start j
  pub uncounted : counted_from j (length j / 3 - i) i s calls ≡ counted_of start j first

pub running_start : (start : State) (j first : List ℕ) → Running start j first 0 start first
running_start start j first = let z : length j / 3 - 0 ≡ length j / 3 = omega arith in record { left = rw z; uncounted = rw z }

module _ (start : State) (j first : List ℕ) (i : ℕ) (s : State) (calls : List ℕ) (g : Running start j first i s calls) where
  pub running_end : i ≡ length j / 3 → (ran 0 i s ≡ run_of start j) × (calls ≡ counted_of start j first)
  running_end e = (
    sym (run_end j i s) ∙ ap (λ (n : ℕ). run_from j (n - i) i s) e ∙ g.left,
    sym (counted-end j i s calls) ∙ ap (λ (n : ℕ). counted_from j (n - i) i s calls) e ∙ g.uncounted,
  )

  -- the next move's answer, with what it leaves
  module _ (h : i < length j / 3) (n : ℕ) (after : State) (e : record { refusal = n; state = after } ≡ moved_at s j i) where
    refused : n ≡ (moved_at s j i).refusal
    refused = ap (λ (x : Moved). x.refusal) e

    leaves : after ≡ (moved_at s j i).state
    leaves = ap (λ (x : Moved). x.state) e

    pub running_stop : (n ≡ 0 → ⊥) → (ran n i after ≡ run_of start j) × (calls ≡ counted_of start j first)
    unfolding moved_of
    running_stop z =
        let none : refusal j i s ≡ 0 → ⊥ = λ q. z (refused ∙ q) in
        let same = left_alone s _ _ _ n after e z in (
          ap (λ (x : State). ran n i x) same ∙ ap (λ (k : ℕ). ran k i s) refused ∙ sym (run-stop j (length j / 3) i s h none) ∙ g.left,
          sym (counted_stop j (length j / 3) i s h calls none) ∙ g.uncounted,
        )

    pub running_more : (calls' : List ℕ) → n ≡ 0 → calls' ≡ noted_at s j i calls → Running start j first (i + 1) after calls'
    unfolding moved_of
    running_more calls' z c =
        let none : refusal j i s ≡ 0 = sym refused ∙ z in
        let next : after ≡ stepped_of s (get_or j (3 * i) 0) (get_or j (3 * i + 1) 0) (get_or j (3 * i + 2) 0) = leaves ∙ rw none in
        record {
          left = ap (run_from j (length j / 3 - (i + 1)) (i + 1)) next ∙ sym (run_more j (length j / 3) i s h none) ∙ g.left;
          uncounted = rw (next, c) (sym (counted_more j (length j / 3) i s h calls none) ∙ g.uncounted);
        }
