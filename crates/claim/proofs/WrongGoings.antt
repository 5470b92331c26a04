-- Wrong answers about the moves that are kept, each of which breaks a demand (document 02, No. 10).
-- Assumes nothing.
use Prim.Native.Nat.{ℕ, suc}
use mathlib.Core.Bool.{Bool, true, false, ◌&&◌, not, true≢false}
use mathlib.Core.List.{List, [], ◌∷◌}
use mathlib.Core.Path.{◌≡◌, refl, sym, ap}
use native.Mathlib.Omega.{arith}
use lib.Dec.{eqb, ltb}
use lib.ListN.{length, replicate}
use Rattle.state.specs.declared.Session.{Session}
use Rattle.state.specs.Association.{session_record}
use Rattle.state.specs.Rules.{state_ok}
use Rattle.reference.specs.Refusal.{refuse}
use Rattle.reference.specs.Lists.{choose, in_range}
use Rattle.reference.specs.State.{same_state}
use Rattle.reference.specs.Start.{start}
use Rattle.reference.specs.Step.{Move, move_of, run}
use Rattle.reference.specs.Cause.{cause, accepted}
use Rattle.reference.specs.Script.{progress, turn_move}
use Rattle.reference.specs.Session.{move, turn, class, goto, moves, short}
use Rattle.session.specs.Contract.{shown, config_of, answered, or_later, lent_refusal, standing, matches}
use Rattle.claim.specs.Implementation.{Outcome, Implementation, outcome, calls}
use Rattle.claim.specs.Demand2.{Demand2}
use Rattle.claim.specs.Demand3.{Event, Demand3}
use Rattle.claim.specs.Sound.{Sound}
use Rattle.claim.proofs.Sample.{ask, long, after-moves}
use Rattle.claim.proofs.Altered.{with_move, with_turn, with_class, with_goto, with_moved, with_session, made_unless, turn_by, scripts-refusal, one, alone, after-start, lock-move, locks, with_own, with_unrelated, number, computing}

abbrev go : Move
go = move_of 1 0 0

-- a lock, its go, and back over both
abbrev gone_back : List Event
gone_back = locks ∷ ask (move go) ∷ ask (goto 0) ∷ []

-- the record with another number kept
abbrev keeping : ℕ → Session → Session
keeping k r = record { state = r.state; initial = r.initial; kept = k }

abbrev kept_of : Session → ℕ
kept_of r = r.kept

-- ---- A refused move drops what is kept beyond the standing moves.

refusal-drops : Implementation
refusal-drops =
    with_move
    (λ r j a.
    let o : Outcome = calls r j (move a) in
    with_session (choose (eqb o.refusal 0) o.session (keeping r.state.applied r)) o)

refusal_drops_breaks_3 : ¬ (Demand3 refusal-drops)
unfolding refusal-drops computing
refusal_drops_breaks_3 d =
    let n : ◌≡◌ {A = ℕ} 0 1 = ap kept_of (d.sessions alone long refl (locks ∷ ask (goto 0) ∷ ask (move go) ∷ []) (tt, (tt, (tt, tt)))).state in
    omega arith

-- ---- A class drops it too where all its turns are refused.

class-drops : Implementation
class-drops =
    with_class
    (λ r j x ps a b.
    let o : Outcome = calls r j (class x ps a b) in
    with_session (choose (eqb o.refusal 0) (keeping o.session.state.applied o.session) r) o)

class_drops_breaks_3 : ¬ (Demand3 class-drops)
unfolding class-drops computing
class_drops_breaks_3 d =
    let all-refused : Event = ask (class (replicate 13 0) (9 ∷ []) (99 ∷ []) (replicate 32 99)) in
    let n : ◌≡◌ {A = ℕ} 0 1 = ap kept_of (d.sessions alone long refl (locks ∷ ask (goto 0) ∷ all-refused ∷ []) (tt, (tt, (tt, tt)))).state in
    omega arith

-- ---- An accepted move keeps the moves beyond it.

move_keeps : Implementation
move_keeps = with_moved (λ r a right. keeping (choose (ltb r.state.applied r.kept) r.kept (suc r.state.applied)) right)

move_keeps_breaks_2 : ¬ (Demand2 move_keeps)
unfolding move_keeps computing
move_keeps_breaks_2 d =
    let ms : List Move = lock-move ∷ go ∷ [] in
    let n : ◌≡◌ {A = ℕ} 2 1 = ap kept_of ((d.moves (keeping 2 (after-start one [])) (after-moves ms) lock-move).session refl) in
    omega arith

move_keeps_breaks_3 : ¬ (Demand3 move_keeps)
unfolding move_keeps computing
move_keeps_breaks_3 d =
    let n : ◌≡◌ {A = ℕ} 2 1 = ap kept_of (d.sessions alone long refl (locks ∷ ask (move go) ∷ ask (goto 0) ∷ locks ∷ []) (tt, (tt, (tt, (tt, tt))))).state in
    omega arith

-- ---- Going forgets the moves beyond the step.

goto_forgets : Implementation
goto_forgets =
    with_goto
    (λ r j k.
    let o : Outcome = calls r j (goto k) in
    with_session (choose (eqb o.refusal 0) (keeping k o.session) r) o)

goto_forgets_breaks_3 : ¬ (Demand3 goto_forgets)
unfolding goto_forgets computing
goto_forgets_breaks_3 d =
    let n : ◌≡◌ {A = ℕ} 0 1 = ap kept_of (d.sessions alone long refl (locks ∷ ask (goto 0) ∷ []) (tt, (tt, tt))).state in
    omega arith

-- ---- Going is refused beyond the standing moves.

abbrev going : (Session → List ℕ → ℕ → ℕ) → Implementation
going number =
    with_goto (λ r j k. outcome (answered (number r j k) (session_record (run (start (config_of r)) (moves k j)) r.initial r.kept) r) j [])

back-only : Implementation
back-only = going (λ r j k. or_later (lent_refusal r (length j)) (refuse (ltb r.state.applied k) 9 (refuse (not (matches r j)) 16 0)))

back_only_breaks_3 : ¬ (Demand3 back-only)
unfolding back-only computing
back_only_breaks_3 d =
    let n : ◌≡◌ {A = ℕ} 9 0 = number ((d.sessions alone long refl gone_back (tt, (tt, (tt, tt)))).answers_next (with_own (goto 2))) in
    omega arith

-- ---- 16 comes before 9.

goto_16_before_9 : Implementation
goto_16_before_9 = going (λ r j k. or_later (lent_refusal r (length j)) (refuse (not (matches r j)) 16 (refuse (ltb r.kept k) 9 0)))

goto_16_before_9_breaks_3 : ¬ (Demand3 goto_16_before_9)
unfolding goto_16_before_9 computing
goto_16_before_9_breaks_3 d =
    let n : ◌≡◌ {A = ℕ} 16 9 = number ((d.sessions alone long refl (locks ∷ []) (tt, tt)).answers_next (with_unrelated (goto 2))) in
    omega arith

-- ---- Going does not test the journal.

goto_untested : Implementation
goto_untested = going (λ r j k. or_later (lent_refusal r (length j)) (refuse (ltb r.kept k) 9 0))

goto_untested_breaks_3 : ¬ (Demand3 goto_untested)
unfolding goto_untested computing
goto_untested_breaks_3 d =
    let n : ◌≡◌ {A = ℕ} 0 16 = number ((d.sessions alone long refl (locks ∷ []) (tt, tt)).answers_next (with_unrelated (goto 0))) in
    omega arith

-- ---- Only the standing moves are replayed: at going, and at a move.

-- those that stand give the record
standing-matches : Session → List ℕ → Bool
standing-matches r j = accepted (start (config_of r)) (standing r j) && same_state (run (start (config_of r)) (standing r j)) (shown r)

goto-standing-only : Implementation
goto-standing-only = going (λ r j k. or_later (lent_refusal r (length j)) (refuse (ltb r.kept k) 9 (refuse (not (standing-matches r j)) 16 0)))

goto_standing_only_breaks_3 : ¬ (Demand3 goto-standing-only)
unfolding goto-standing-only standing-matches computing
goto_standing_only_breaks_3 d =
    let n : ◌≡◌ {A = ℕ} 0 16 = number ((d.sessions alone long refl gone_back (tt, (tt, (tt, tt)))).answers_next (with_unrelated (goto 0))) in
    omega arith

-- the journal has no such moves
goto_standing_only_unsound : ¬ (Sound goto-standing-only)
unfolding goto-standing-only standing-matches computing
goto_standing_only_unsound s =
    let n : false ≡ true = (s (keeping 1 (after-start one [])) long (goto 0) refl).legal_before in
    true≢false (sym n)

move-standing-only : Implementation
move-standing-only =
    with_move (λ r j a. made_unless (or_later (lent_refusal r (length j)) (refuse (not (standing-matches r j)) 16 (cause (shown r) a))) r j a)

move_standing_only_breaks_3 : ¬ (Demand3 move-standing-only)
unfolding move-standing-only standing-matches made_unless computing
move_standing_only_breaks_3 d =
    let n : ◌≡◌ {A = ℕ} 0 16 = number ((d.sessions alone long refl gone_back (tt, (tt, (tt, tt)))).answers_next (with_unrelated (move lock-move))) in
    omega arith

-- ---- The number kept is not compared with the standing moves, or not with 4,000.

-- 10 and 15 with a rule for the number kept
lent_by : (Session → Bool) → Session → ℕ → ℕ
lent_by rule r n = refuse (short n) 10 (refuse (not (state_ok r.state && in_range 1 r.state.t r.initial && rule r)) 15 0)

abbrev with_rule : (Session → Bool) → Implementation
with_rule rule =
    with_move (λ r j a. made_unless (or_later (lent_by rule r (length j)) (refuse (not (matches r j)) 16 (cause (shown r) a))) r j a)

kept_below : Implementation
kept_below = with_rule (λ r. in_range 0 4000 r.kept)

kept_below_breaks_2 : ¬ (Demand2 kept_below)
unfolding kept_below lent_by made_unless computing
kept_below_breaks_2 d =
    let ms : List Move = lock-move ∷ [] in
    let n : ◌≡◌ {A = ℕ} 0 15 = (d.moves (keeping 0 (after-start one ms)) (after-moves ms) go).number in
    omega arith

kept_above : Implementation
kept_above = with_rule (λ r. in_range r.state.applied 65535 r.kept)

-- 16 where it should be 15
kept_above_breaks_2 : ¬ (Demand2 kept_above)
unfolding kept_above lent_by made_unless computing
kept_above_breaks_2 d =
    let n : ◌≡◌ {A = ℕ} 16 15 = (d.moves (keeping 4001 (after-start one [])) long lock-move).number in
    omega arith

-- ---- A turn counts the calls in all kept moves.

counts-kept : Implementation
counts-kept =
    with_turn (λ r j x p. turn_by r j (scripts-refusal r x) (turn_move (shown r) (progress (start (config_of r)) (moves r.kept j)) x p))

-- the thread locks, and is gone back over: its next call is the first of its script, a yield, and not the second, an unlock that is refused
counts_kept_breaks_3 : ¬ (Demand3 counts-kept)
unfolding counts-kept computing
counts_kept_breaks_3 d =
    let yields : List ℕ = 2 ∷ 4 ∷ 0 ∷ 3 ∷ 1 ∷ replicate 8 0 in
    let n : ◌≡◌ {A = ℕ} 6 0 = number ((d.sessions alone long refl (locks ∷ ask (goto 0) ∷ []) (tt, (tt, tt))).answers_next (with_own (turn yields 1))) in
    omega arith
