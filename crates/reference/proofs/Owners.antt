-- The owner by history is the owner field.
-- Assumes nothing.
use Prim.Native.Nat.{ℕ, zero, suc, ◌-◌, ◌≤◌, ◌<◌}
use mathlib.Core.Bool.{Bool, true, false}
use mathlib.Core.List.{List, [], ◌∷◌}
use mathlib.Core.Logic.{◌≢◌}
use mathlib.Core.Path.{◌≡◌, refl, ap, sym, ◌∙◌}
use native.Mathlib.Omega.{arith}
use lib.Dec.{eqb}
use borrow.Author.Tests.{eqb-true, eqb-false, eq-eqb, ne_eqb}
use Rattle.reference.specs.Lists.{at, put, is, choose, if_zero, if_empty}
use Rattle.reference.specs.State.{Mutex, State, Line, App, CI2, CI3, L1, L3, L4, L6, L7, L8, L9, L10, TL1, GT1, GT3, TL3, U1, H2, H3, H5, H6, H8, Y1, Y2, Y3, C2, free_mutex, processor_at, mutex_at, same_token}
use Rattle.reference.specs.Step.{View, Action, go, lock, trylock, unlock, yield, exit, create, own_token, unchanged, line, act, view, does, Move, action_of, next, run}
use Rattle.reference.specs.Cause.{accepted}
use Rattle.reference.specs.History.{gains, drops, owns_after, owns_after_go, owns}
use Rattle.reference.specs.Safe.{In}
use Rattle.reference.proofs.Sums.{some, some_one, some_pos, choose-by, if_zero-by, if_empty-by, at-put, put_same}
use Rattle.reference.proofs.Legal.{legal, accepted_cons}
use Rattle.reference.proofs.Local.{Fit, unchanged-processor}
use Rattle.reference.proofs.Invariant.{Good, go-fit, next_good}

some-none : (n : ℕ) → some n ≡ 0 → n ≡ 0
some-none zero h = refl
some-none (suc n) h = absurd (omega arith)

-- what a line does to the owner field, by what it gains and drops
pub record Event (l : Line) (v v' : View) : Type 0 where
  pub got : 1 ≤ gains l v → (v'.mutex.owner ≡ gains l v) × (v.mutex.owner ≡ 0)
  pub lost : 1 ≤ drops l v → (v'.mutex.owner ≡ 0) × (v.mutex.owner ≡ drops l v)
  pub kept : gains l v ≡ 0 → drops l v ≡ 0 → v'.mutex.owner ≡ v.mutex.owner

module _ (P T M N : ℕ) (f : ℕ → ℕ) where
  pub event : (l : Line) (v : View) → Fit P T M N f l v → Event l v (line l v)
  unfolding line gains drops
  event App v h = omega arith
  event CI2 v h = if_empty-by (Event CI2 v) v.ready (λ e. omega arith) (λ x xs e. omega arith)
  event CI3 v h = omega arith
  event L1 v h =
      if_zero-by (Event L1 v) v.mutex.count
      (λ e. omega (arith, ap (λ (c : ℕ). if_zero c v.proc.current 0) e, some-none v.mutex.owner (omega (arith, ap some e))))
      (λ c e. omega (arith, ap (λ (c : ℕ). if_zero c v.proc.current 0) e))
  event L3 v h = omega arith
  event L4 v h = omega arith
  event L6 v h = if_zero-by (Event L6 v) v.mutex.token.processor (λ e. omega arith) (λ c e. omega arith)
  event L7 v h = if_empty-by (Event L7 v) v.mutex.queue (λ e. omega arith) (λ x xs e. omega arith)
  event L8 v h = choose-by (Event L8 v) (unchanged v) (λ e. omega arith) (λ e. omega arith)
  event L9 v h =
      if_empty-by (Event L9 v) v.mutex.queue
      (λ e. omega (arith, ap (λ (q : List ℕ). if_empty q 0 (λ x xs. x)) e))
      (λ x xs e. omega (arith, ap (λ (q : List ℕ). if_empty q 0 (λ x xs. x)) e, some-none v.mutex.owner (omega (arith, some_one v.mutex.count))))
  event L10 v h = omega arith
  event TL1 v h =
      if_zero-by (Event TL1 v) v.mutex.count
      (λ e. omega (arith, ap (λ (c : ℕ). if_zero c v.proc.current 0) e, some-none v.mutex.owner (omega (arith, ap some e))))
      (λ c e. omega (arith, ap (λ (c : ℕ). if_zero c v.proc.current 0) e))
  event GT1 v h = if_zero-by (Event GT1 v) v.mutex.token.processor (λ e. omega arith) (λ c e. omega arith)
  event GT3 v h =
      choose-by (Event GT3 v) (unchanged v)
      (λ e.
      omega (
        arith,
        ap (λ (b : Bool). choose b v.proc.current 0) e,
        some-none v.mutex.owner
            (omega (arith, some_one v.mutex.count, some_pos v.mutex.token.processor (omega (arith, unchanged-processor v e)))),
      ))
      (λ e. omega (arith, ap (λ (b : Bool). choose b v.proc.current 0) e))
  event TL3 v h = omega arith
  event U1 v h = if_zero-by (Event U1 v) (v.mutex.count - 1) (λ e. omega (arith, h.holds (omega arith))) (λ c e. omega (arith, h.holds (omega arith)))
  event H2 v h =
      if_empty-by (Event H2 v) v.mutex.queue
      (λ e. omega (arith, ap (λ (q : List ℕ). if_empty q 0 (λ x xs. x)) e))
      (λ x xs e. omega (arith, ap (λ (q : List ℕ). if_empty q 0 (λ x xs. x)) e, some-none v.mutex.owner (omega (arith, some_one v.mutex.count))))
  event H3 v h = omega arith
  event H5 v h = omega arith
  event H6 v h = if_empty-by (Event H6 v) v.mutex.queue (λ e. omega arith) (λ x xs e. omega arith)
  event H8 v h = choose-by (Event H8 v) (same_token v.mutex.token (own_token v)) (λ e. omega arith) (λ e. omega arith)
  event Y1 v h = if_empty-by (Event Y1 v) v.ready (λ e. omega arith) (λ x xs e. omega arith)
  event Y2 v h = omega arith
  event Y3 v h = omega arith
  event C2 v h = omega arith

-- the three tests on k give what the field says afterwards
one_owner : (k : ℕ) → 1 ≤ k → {l : Line} {v v' : View} → Event l v v' →
    choose (eqb (gains l v) k) true (choose (eqb (drops l v) k) false (eqb v.mutex.owner k)) ≡ eqb v'.mutex.owner k
one_owner k r {l} {v} {v'} h =
    choose-by (λ (b : Bool). b ≡ eqb v'.mutex.owner k) (eqb (gains l v) k)
    (λ e. let z = eqb-true (gains l v) k e in sym (eq-eqb v'.mutex.owner k ((h.got (omega arith)).0 ∙ z)))
    (λ e.
    choose-by (λ (b : Bool). b ≡ eqb v'.mutex.owner k) (eqb (drops l v) k)
    (λ x. let z = eqb-true (drops l v) k x in sym (ne_eqb v'.mutex.owner k (omega (arith, h.lost (omega arith)))))
    (λ x. neither (eqb-false (gains l v) k e) (eqb-false (drops l v) k x)))
  where
    neither : gains l v ≢ k → drops l v ≢ k → eqb v.mutex.owner k ≡ eqb v'.mutex.owner k
    neither n c = by (gains l v) (drops l v) refl refl
      where
        by : (a b : ℕ) → gains l v ≡ a → drops l v ≡ b → eqb v.mutex.owner k ≡ eqb v'.mutex.owner k
        by zero zero x y = ap (λ (o : ℕ). eqb o k) (sym (h.kept x y))
        by zero (suc b) x y = let z = h.lost (omega arith) in ne_eqb v.mutex.owner k (omega arith) ∙ sym (ne_eqb v'.mutex.owner k (omega arith))
        by (suc a) b x y = let z = h.got (omega arith) in ne_eqb v.mutex.owner k (omega arith) ∙ sym (ne_eqb v'.mutex.owner k (omega arith))

-- ---- on the whole state

module _ (s : State) (g : Good s) (p : ℕ) (rp : In s.P p) (early : s.applied < 4000) (m k : ℕ) (rm : In s.M m) (rk : 1 ≤ k) where
  after_line : owns_after_go s p m k (eqb (mutex_at s m).owner k) ≡ eqb (mutex_at (does s p go 0) m).owner k
  unfolding act
  after_line =
      at-put (λ (j : ℕ) (x : Mutex). choose (eqb j c) (choose (eqb (gains l v) k) true (choose (eqb (drops l v) k) false (eqb (mutex_at s j).owner k))) (eqb (mutex_at s j).owner k) ≡ eqb x.owner k)
      s.mutexes c m (line l v).mutex free_mutex (omega (arith, g.mutexes))
      (λ i. rw (eq-eqb c c refl) (one_owner k rk (event s.P s.T s.M s.applied (is 1) l v (go-fit s g p rp early 1 (omega arith)))))
      (λ n. rw (ne_eqb m c n))
    where
      c : ℕ
      c = (processor_at s p).mutex

      l : Line
      l = (processor_at s p).position

      v : View
      v = view s p (processor_at s p).mutex

  -- a call puts back the mutex that it looked at
  after_call : (j : ℕ) → eqb (mutex_at s m).owner k ≡ eqb (at (put s.mutexes j (mutex_at s j)) m free_mutex).owner k
  after_call j = ap (λ (xs : List Mutex). eqb (at xs m free_mutex).owner k) (sym (put_same s.mutexes j free_mutex))

  owner-kept : (a : Action) (o : ℕ) → owns_after a s p m k (eqb (mutex_at s m).owner k) ≡ eqb (mutex_at (does s p a o) m).owner k
  unfolding act
  owner-kept go o = after_line
  owner-kept lock o = after_call o
  owner-kept trylock o = after_call o
  owner-kept unlock o = after_call o
  owner-kept yield o = after_call (processor_at s p).mutex
  owner-kept exit o = after_call (processor_at s p).mutex
  owner-kept create o = after_call (processor_at s p).mutex

pub owner_history : (ms : List Move) (s : State) (m k : ℕ) → Good s → accepted s ms ≡ true → In s.M m → 1 ≤ k →
    owns s ms m k (eqb (mutex_at s m).owner k) ≡ eqb (mutex_at (run s ms) m).owner k
unfolding run owns next
owner_history [] s m k g ok rm rk = refl
owner_history (a ∷ rest) s m k g ok rm rk =
    let e = accepted_cons s a rest ok in
    let h = legal s a e.0 in
    rw (owner-kept s g a.processor h.processor h.room m k rm rk (action_of a.action) a.operand)
    (owner_history rest (next s a) m k (next_good s a g e.0) e.1 rm rk)
