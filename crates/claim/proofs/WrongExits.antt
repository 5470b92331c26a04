-- Wrong answers to an exit by an owner, each of which breaks demand 3 (document 02, No. 9).
-- Assumes nothing.
use Prim.Native.Nat.{ℕ, suc}
use mathlib.Core.Bool.{Bool, true, ◌&&◌, not}
use mathlib.Core.List.{List, [], ◌∷◌}
use mathlib.Core.Path.{◌≡◌, refl}
use native.Mathlib.Omega.{arith}
use lib.Dec.{eqb}
use lib.ListN.{replicate}
use Rattle.state.specs.Association.{session_record}
use Rattle.reference.specs.Lists.{choose}
use Rattle.reference.specs.State.{State, processor_at, mutex_at}
use Rattle.reference.specs.Step.{Move, move_of, next, action_of}
use Rattle.reference.specs.Cause.{is_exit, owns_none}
use Rattle.reference.specs.Touch.{touch}
use Rattle.reference.specs.Session.{Opening, table, move, turn, class}
use Rattle.session.specs.Contract.{shown, move_answered, written_at}
use Rattle.claim.specs.Implementation.{Outcome, Implementation, move_outcome, calls}
use Rattle.claim.specs.Demand3.{Event, Demand3}
use Rattle.claim.proofs.Sample.{ask, long}
use Rattle.claim.proofs.Altered.{with_move, with_turn, with_class, with_own, number, byte, computing}

-- one processor and thread, two mutexes
abbrev two-mutexes : Opening
two-mutexes = table (record { P = 1; T = 1; M = 2; B = 1; stealing = 0 })

abbrev makes : ℕ → ℕ → Event
makes a o = ask (move (move_of 1 a o))

-- the thread owns mutex m
abbrev owning : ℕ → List Event
owning m = makes 1 m ∷ makes 0 0 ∷ []

abbrev exits : Move
exits = move_of 1 5 0

-- a script of one call: lock mutex 1
abbrev locks : List ℕ
locks = 1 ∷ 1 ∷ 1 ∷ replicate 10 0

-- ---- An owner's exit is carried out where `unseen` says so of its state and processor.

carries_out : (State → ℕ → Bool) → Implementation
carries_out unseen =
    with_move
    (λ r j a.
    choose (eqb (calls r j (move a)).refusal 21 && unseen (shown r) a.processor)
    (move_outcome (move_answered 0 (session_record (next (shown r) a) r.initial (suc (shown r).applied)) r (touch (shown r) a)) (written_at (shown r).applied a j))
    (calls r j (move a)))

-- always, as before No. 9
always_breaks_3 : ¬ (Demand3 (carries_out (λ s p. true)))
unfolding carries_out computing
always_breaks_3 d =
    let n : ◌≡◌ {A = ℕ} 0 21 = number ((d.sessions two-mutexes long refl (owning 1) (tt, (tt, tt))).answers_next (with_own (move exits))) in
    omega arith

-- where the thread does not own mutex 1
abbrev unseen_but_first : State → ℕ → Bool
unseen_but_first s p = not (eqb (mutex_at s 1).owner (processor_at s p).current)

but_first_breaks_3 : ¬ (Demand3 (carries_out unseen_but_first))
unfolding carries_out computing
but_first_breaks_3 d =
    let n : ◌≡◌ {A = ℕ} 0 21 = number ((d.sessions two-mutexes long refl (owning 2) (tt, (tt, tt))).answers_next (with_own (move exits))) in
    omega arith

-- where the thread does not own the mutex that its processor works on: at App there is none
abbrev unseen_but_own : State → ℕ → Bool
unseen_but_own s p = not (eqb (mutex_at s (processor_at s p).mutex).owner (processor_at s p).current)

but_own_breaks_3 : ¬ (Demand3 (carries_out unseen_but_own))
unfolding carries_out computing
but_own_breaks_3 d =
    let n : ◌≡◌ {A = ℕ} 0 21 = number ((d.sessions two-mutexes long refl (owning 1) (tt, (tt, tt))).answers_next (with_own (move exits))) in
    omega arith

-- ---- 21 comes before 4: an owner's exit away from App is refused by it too.

owner-before-line : Implementation
owner-before-line =
    with_move
    (λ r j a.
    let o : Outcome = calls r j (move a) in
    let owns : Bool = is_exit (action_of a.action) && not (owns_none (shown r) (processor_at (shown r) a.processor).current) in
    record { refusal = choose (owns && eqb o.refusal 4) 21 o.refusal; session = o.session; touch = o.touch; journal = o.journal; buffers = [] })

-- the owner has called yield, and is at Y1
owner_before_line_breaks_3 : ¬ (Demand3 owner-before-line)
unfolding owner-before-line computing
owner_before_line_breaks_3 d =
    let e = d.sessions two-mutexes long refl (makes 1 1 ∷ makes 0 0 ∷ makes 4 0 ∷ []) (tt, (tt, (tt, tt))) in
    let n : ◌≡◌ {A = ℕ} 21 4 = number (e.answers_next (with_own (move exits))) in
    omega arith

-- ---- A turn of an owner whose script is spent is accepted, and nothing happens; in a class too.

spent-turn-passes : Implementation
spent-turn-passes =
    with_turn
    (λ r j x p.
    let o : Outcome = calls r j (turn x p) in
    record { refusal = choose (eqb o.refusal 21) 0 o.refusal; session = o.session; touch = o.touch; journal = o.journal; buffers = [] })

spent_turn_passes_breaks_3 : ¬ (Demand3 spent-turn-passes)
unfolding spent-turn-passes computing
spent_turn_passes_breaks_3 d =
    let n : ◌≡◌ {A = ℕ} 0 21 = number ((d.sessions two-mutexes long refl (owning 1) (tt, (tt, tt))).answers_next (with_own (turn locks 1))) in
    omega arith

-- each 21 among the answers is 0
passed_over : List ℕ → List ℕ
passed_over [] = []
passed_over (n ∷ rest) = choose (eqb n 21) 0 n ∷ passed_over rest

answers_passed_over : List (List ℕ) → List (List ℕ)
answers_passed_over [] = []
answers_passed_over (answers ∷ rest) = passed_over answers ∷ rest

spent-class-passes : Implementation
spent-class-passes =
    with_class
    (λ r j x ps a b.
    let o : Outcome = calls r j (class x ps a b) in
    record { refusal = o.refusal; session = o.session; touch = o.touch; journal = o.journal; buffers = answers_passed_over o.buffers })

spent_class_passes_breaks_3 : ¬ (Demand3 spent-class-passes)
unfolding passed_over answers_passed_over spent-class-passes computing
spent_class_passes_breaks_3 d =
    let e = (d.sessions two-mutexes long refl [] tt).answers_next (with_own (class locks (1 ∷ 1 ∷ 1 ∷ []) (replicate 3 99) (replicate 120 99))) in
    let n : ◌≡◌ {A = ℕ} 0 21 = byte 0 2 e in
    omega arith
