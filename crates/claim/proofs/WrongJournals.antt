-- Wrong tests of the journal at a move and at a turn, each of which breaks demand 3 and, where it lets something pass, `Sound` (document 02, No. 6).
-- Assumes nothing.
use Prim.Native.Nat.{ℕ, ◌-◌}
use mathlib.Core.Bool.{Bool, true, false, not, true≢false}
use mathlib.Core.List.{List, [], ◌∷◌}
use mathlib.Core.Path.{◌≡◌, refl, sym, ap}
use native.Mathlib.Omega.{arith}
use lib.ListN.{length, replicate}
use Rattle.state.specs.declared.Session.{Session}
use Rattle.state.specs.Association.{session_record}
use Rattle.reference.specs.Refusal.{refuse}
use Rattle.reference.specs.Lists.{in_range}
use Rattle.reference.specs.State.{State, processor_at}
use Rattle.reference.specs.Start.{start}
use Rattle.reference.specs.Step.{Move, move_of}
use Rattle.reference.specs.Cause.{cause, accepted}
use Rattle.reference.specs.Session.{Request, move, turn, other, Call, Listed, moves}
use Rattle.session.specs.Contract.{shown, config_of, answered, or_later, lent_refusal, standing, matches}
use Rattle.turns.specs.Contract.{turn_made}
use Rattle.claim.specs.Implementation.{Outcome, Implementation, outcome, calls}
use Rattle.claim.specs.Demand3.{Demand3}
use Rattle.claim.specs.Sound.{Sound}
use Rattle.claim.proofs.Sample.{long, after-moves}
use Rattle.claim.proofs.Altered.{with_move, with_turn, scripts-refusal, one, alone, after-start, lock-move, locks, with_unrelated, made_unless, number, computing}

-- 10, 15, then 16 where the test says so, then `first`, then the move's causes
abbrev testing : Bool → ℕ → Session → List ℕ → Move → Outcome
testing passes first r j a =
    made_unless (or_later (lent_refusal r (length j)) (refuse (not passes) 16 (or_later first (cause (shown r) a)))) r j a

abbrev go : Move
go = move_of 1 0 0

-- the record after a lock, of one processor, thread and mutex
abbrev locked : Session
locked = after-start one (lock-move ∷ [])

-- what lets a call pass there with a journal of no moves leaves no session
unsound : (impl : Implementation) (q : Request) → (impl.call locked long q).refusal ≡ 0 → ¬ (Sound impl)
unfolding computing
unsound impl q passed s =
    let n : false ≡ true = (s locked long q passed).legal_before in
    true≢false (sym n)

-- ---- A move believes the journal.

move_untested : Implementation
move_untested = with_move (testing true 0)

move_untested_breaks_3 : ¬ (Demand3 move_untested)
unfolding move_untested made_unless computing
move_untested_breaks_3 d =
    let n : ◌≡◌ {A = ℕ} 0 16 = number ((d.sessions alone long refl (locks ∷ []) (tt, tt)).answers_next (with_unrelated (move go))) in
    omega arith

move_untested_unsound : ¬ (Sound move_untested)
unfolding move_untested made_unless computing
move_untested_unsound = unsound move_untested (move go) refl

-- ---- A turn believes the journal.

turn_untested : Implementation
turn_untested = with_turn (λ r j x p. testing true (scripts-refusal r x) r j (turn_made r j x p))

-- a script without calls; the turn elsewhere than at App is a go
abbrev empty : List ℕ
empty = replicate 13 0

turn_untested_breaks_3 : ¬ (Demand3 turn_untested)
unfolding turn_untested made_unless computing
turn_untested_breaks_3 d =
    let n : ◌≡◌ {A = ℕ} 0 16 = number ((d.sessions alone long refl (locks ∷ []) (tt, tt)).answers_next (with_unrelated (turn empty 1))) in
    omega arith

turn_untested_unsound : ¬ (Sound turn_untested)
unfolding turn_untested made_unless computing
turn_untested_unsound = unsound turn_untested (turn empty 1) refl

-- ---- The journal's moves have to be accepted, as many as stand, and what they give is not compared with the record.

counts-only : Implementation
counts-only = with_move (λ r j. testing (accepted (start (config_of r)) (standing r j)) 0 r j)

-- a yield in the lock's place
abbrev yielded : List ℕ
yielded = after-moves (move_of 1 4 0 ∷ [])

counts_only_breaks_3 : ¬ (Demand3 counts-only)
unfolding counts-only made_unless computing
counts_only_breaks_3 d =
    let q : Call = record { request = move go; lent = other yielded } in
    let n : ◌≡◌ {A = ℕ} 0 16 = number ((d.sessions alone long refl (locks ∷ []) (tt, tt)).answers_next q) in
    omega arith

-- by the record its processor has a mutex in its register, by the journal it has none
counts_only_unsound : ¬ (Sound counts-only)
unfolding counts-only made_unless computing
counts_only_unsound d =
    let n : ◌≡◌ {A = ℕ} 1 0 = ap (λ (s : State). (processor_at s 1).mutex) (d locked yielded (move go) refl).state_before in
    omega arith

-- ---- The last standing move is not replayed.

last_unreplayed : Implementation
last_unreplayed = with_move (λ r j. testing (accepted (start (config_of r)) (moves ((shown r).applied - 1) j)) 0 r j)

last_unreplayed_breaks_3 : ¬ (Demand3 last_unreplayed)
unfolding last_unreplayed made_unless computing
last_unreplayed_breaks_3 d =
    let n : ◌≡◌ {A = ℕ} 0 16 = number ((d.sessions alone long refl (locks ∷ []) (tt, tt)).answers_next (with_unrelated (move go))) in
    omega arith

last_unreplayed_unsound : ¬ (Sound last_unreplayed)
unfolding last_unreplayed made_unless computing
last_unreplayed_unsound = unsound last_unreplayed (move go) refl

-- ---- An accepted move leaves the start's record: record and journal agree, and the moves are lost.

forgets_moves : Implementation
forgets_moves =
    with_move
    (λ r j a.
    let o : Outcome = calls r j (move a) in
    outcome (answered o.refusal (session_record (start (config_of r)) r.initial 0) r) j [])

forgets_moves_breaks_3 : ¬ (Demand3 forgets_moves)
unfolding forgets_moves computing
forgets_moves_breaks_3 d =
    let n : ◌≡◌ {A = ℕ} 0 1 = ap (λ (r : Session). r.state.applied) (d.sessions alone long refl (locks ∷ []) (tt, tt)).state in
    omega arith

forgets_moves_unsound : ¬ (Sound forgets_moves)
unfolding forgets_moves computing
forgets_moves_unsound d =
    let n : ◌≡◌ {A = ℕ} 0 1 = ap (λ (l : Listed). l.n) (d (after-start one []) long (move lock-move) refl).made in
    omega arith

-- ---- A move tries 16 after 2, a turn tries it after 19.

move_16_after_2 : Implementation
move_16_after_2 =
    with_move
    (λ r j a.
    made_unless (or_later (lent_refusal r (length j)) (refuse (not (in_range 1 r.state.p a.processor)) 2 (refuse (not (matches r j)) 16 (cause (shown r) a)))) r j a)

move_16_after_2_breaks_3 : ¬ (Demand3 move_16_after_2)
unfolding move_16_after_2 made_unless computing
move_16_after_2_breaks_3 d =
    let n : ◌≡◌ {A = ℕ} 2 16 = number ((d.sessions alone long refl (locks ∷ []) (tt, tt)).answers_next (with_unrelated (move (move_of 9 0 0)))) in
    omega arith

turn_16_after_19 : Implementation
turn_16_after_19 =
    with_turn
    (λ r j x p.
    made_unless
    (or_later (lent_refusal r (length j)) (or_later (scripts-refusal r x) (refuse (not (matches r j)) 16 (cause (shown r) (turn_made r j x p))))) r j
    (turn_made r j x p))

turn_16_after_19_breaks_3 : ¬ (Demand3 turn_16_after_19)
unfolding turn_16_after_19 made_unless computing
turn_16_after_19_breaks_3 d =
    let n : ◌≡◌ {A = ℕ} 19 16 = number ((d.sessions alone long refl (locks ∷ []) (tt, tt)).answers_next (with_unrelated (turn [] 1))) in
    omega arith
