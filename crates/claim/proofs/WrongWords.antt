-- Wrong words, each of which breaks demand 3 (document 02, No. 4).
-- Assumes nothing.
use Prim.Native.Nat.{ℕ}
use mathlib.Core.List.{List, [], ◌∷◌}
use mathlib.Core.Path.{◌≡◌, refl, ap}
use native.Mathlib.Omega.{arith}
use lib.Dec.{eqb}
use lib.ListN.{replicate}
use Rattle.reference.specs.Lists.{choose}
use Rattle.reference.specs.Step.{Move, move_of, next}
use Rattle.reference.specs.Touch.{Touch, nothing, touch, kind}
use Rattle.reference.specs.Session.{move, turn, Reply}
use Rattle.session.specs.Contract.{shown}
use Rattle.claim.specs.Implementation.{Outcome, Implementation, calls}
use Rattle.claim.specs.Demand3.{Demand3}
use Rattle.claim.proofs.Sample.{ask, long}
use Rattle.claim.proofs.Altered.{with_move, with_turn, alone, locks, with_own, computing}

-- a call's outcome with other words
abbrev saying : Touch → Outcome → Outcome
saying t o = record { refusal = o.refusal; session = o.session; touch = t; journal = o.journal; buffers = o.buffers }

-- the kinds of the words that two answers say are the same
read-kind : {a b : Reply} → a ≡ b → kind a.touch.reads ≡ kind b.touch.reads
read-kind e = ap (λ (r : Reply). kind r.touch.reads) e

written-kind : {a b : Reply} → a ≡ b → kind a.touch.writes ≡ kind b.touch.writes
written-kind e = ap (λ (r : Reply). kind r.touch.writes) e

-- the go behind a lock call: L1 counts it
abbrev goes : Move
goes = move_of 1 0 0

-- ---- A refused move has the words that it would have touched: a create of a thread that is not new.

refused-touches : Implementation
refused-touches = with_move (λ r j a. saying (touch (shown r) a) (calls r j (move a)))

refused_touches_breaks_3 : ¬ (Demand3 refused-touches)
unfolding refused-touches computing
refused_touches_breaks_3 d =
    let n : ◌≡◌ {A = ℕ} 5 0 = written-kind ((d.sessions alone long refl [] tt).answers_next (with_own (move (move_of 1 6 1)))) in
    omega arith

-- ---- The words are looked for in the state after the move, where the processor stands elsewhere.

words_after : Implementation
words_after =
    with_move
    (λ r j a.
    let o : Outcome = calls r j (move a) in
    saying (choose (eqb o.refusal 0) (touch (next (shown r) a) a) nothing) o)

words_after_breaks_3 : ¬ (Demand3 words_after)
unfolding words_after computing
words_after_breaks_3 d =
    let n : ◌≡◌ {A = ℕ} 0 1 = read-kind ((d.sessions alone long refl (locks ∷ []) (tt, tt)).answers_next (with_own (move goes))) in
    omega arith

-- ---- A move that reads a word does not say so where it also writes it.

writes-only : Touch → Touch
writes-only t = record { reads = choose (eqb (kind t.writes) 0) t.reads nothing.reads; writes = t.writes }

reads_unsaid : Implementation
reads_unsaid = with_move (λ r j a. let o : Outcome = calls r j (move a) in saying (writes-only o.touch) o)

reads_unsaid_breaks_3 : ¬ (Demand3 reads_unsaid)
unfolding reads_unsaid writes-only computing
reads_unsaid_breaks_3 d =
    let n : ◌≡◌ {A = ℕ} 0 1 = read-kind ((d.sessions alone long refl (locks ∷ []) (tt, tt)).answers_next (with_own (move goes))) in
    omega arith

-- ---- A turn does not pass its move's words on.

turn-says-nothing : Implementation
turn-says-nothing = with_turn (λ r j x p. saying nothing (calls r j (turn x p)))

-- a script of one call: lock mutex 1
abbrev script : List ℕ
script = 1 ∷ 1 ∷ 1 ∷ replicate 10 0

turn_says_nothing_breaks_3 : ¬ (Demand3 turn-says-nothing)
unfolding turn-says-nothing computing
turn_says_nothing_breaks_3 d =
    let n : ◌≡◌ {A = ℕ} 0 1 = read-kind ((d.sessions alone long refl (ask (turn script 1) ∷ []) (tt, tt)).answers_next (with_own (turn script 1))) in
    omega arith
