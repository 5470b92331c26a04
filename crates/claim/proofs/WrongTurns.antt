-- Wrong turns, classes and scripted starts, each of which breaks demand 3 (document 02, No. 7).
-- Assumes nothing.
use Prim.Native.Nat.{ℕ, suc, ◌+◌, ◌-◌}
use mathlib.Core.Bool.{Bool, ◌&&◌, not}
use mathlib.Core.List.{List, [], ◌∷◌, ◌++◌}
use mathlib.Core.Path.{◌≡◌, refl}
use native.Mathlib.Omega.{arith}
use lib.Dec.{eqb, leb, ltb}
use lib.ListN.{length, get_or, set, replicate}
use Rattle.state.specs.Record.{zero_session}
use Rattle.state.specs.Association.{session_record}
use Rattle.reference.specs.Refusal.{refuse}
use Rattle.reference.specs.Lists.{choose, in_range, with_front, each}
use Rattle.reference.specs.State.{processor_at}
use Rattle.reference.specs.Start.{Config, config_cause, start}
use Rattle.reference.specs.Step.{Move, move_of, run, action_of}
use Rattle.reference.specs.Cause.{is_go, at_app}
use Rattle.reference.specs.Safe.{one_if}
use Rattle.reference.specs.Picture.{picture}
use Rattle.reference.specs.Script.{script_length, script_action, scripts_cause, turn_move, turn_cause, turn_after, class_answers, class_pictures}
use Rattle.reference.specs.Session.{Opening, table, scripted, move, turn, class, bytes, lacks_room}
use Rattle.session.specs.Contract.{shown, config_of, answered, or_later, lent_refusal, standing, progress_in}
use Rattle.turns.specs.Contract.{turn_made, class_refusal, class_made}
use Rattle.claim.specs.Implementation.{Outcome, Implementation, outcome, begins, calls}
use Rattle.claim.specs.Demand3.{Demand3}
use Rattle.claim.proofs.Sample.{ask, two, long}
use Rattle.claim.proofs.Altered.{with_begin, with_turn, with_class, turn_by, scripts-refusal, class-by, alone, locks, with_own, with_unrelated, number, byte, computing}

-- ---- A refused turn moves its script on: refused turns are noted in the journal's last byte and added to the thread's calls.

script_advances_when_refused : Implementation
script_advances_when_refused =
    with_turn
    (λ r j x p.
    let o : Outcome = turn_by r j (scripts-refusal r x) (turn_move (shown r) (λ k. progress_in r j k + get_or j 11999 0) x p) in
    record {
      refusal = o.refusal;
      session = o.session;
      touch = o.touch;
      journal = choose (eqb o.refusal 0) o.journal (set j 11999 (suc (get_or j 11999 0)));
      buffers = [];
    })

-- unlock, yield
abbrev unlocks : List ℕ
unlocks = 2 ∷ 3 ∷ 1 ∷ 4 ∷ 0 ∷ replicate 8 0

script_advances_when_refused_breaks_3 : ¬ (Demand3 script_advances_when_refused)
unfolding script_advances_when_refused computing
script_advances_when_refused_breaks_3 d =
    let n : ◌≡◌ {A = ℕ} 0 6 = number ((d.sessions alone long refl (ask (turn unlocks 1) ∷ []) (tt, tt)).answers_next (with_own (turn unlocks 1))) in
    omega arith

-- ---- A thread's calls are counted with those of all other threads.

all-calls : List Move → ℕ
all-calls [] = 0
all-calls (a ∷ rest) = one_if (not (is_go (action_of a.action))) + all-calls rest

counts-all-threads : Implementation
counts-all-threads = with_turn (λ r j x p. turn_by r j (scripts-refusal r x) (turn_move (shown r) (λ k. all-calls (standing r j)) x p))

-- thread 2 yields, then unlocks
abbrev yields : List ℕ
yields = 1 ∷ 1 ∷ 1 ∷ replicate 10 0 ++ 2 ∷ 4 ∷ 0 ∷ 3 ∷ 1 ∷ replicate 8 0

counts_all_threads_breaks_3 : ¬ (Demand3 counts-all-threads)
unfolding all-calls counts-all-threads computing
counts_all_threads_breaks_3 d =
    let n : ◌≡◌ {A = ℕ} 6 0 = number ((d.sessions (table two) long refl (ask (turn yields 1) ∷ []) (tt, tt)).answers_next (with_own (turn yields 2))) in
    omega arith

-- ---- Calls made as moves are not counted: a thread's calls are its turns at App, noted in the journal's last bytes, one for each thread.

counts-turns-only : Implementation
counts-turns-only =
    with_turn
    (λ r j x p.
    let k : ℕ = (processor_at (shown r) p).current in
    let o : Outcome = turn_by r j (scripts-refusal r x) (turn_move (shown r) (λ i. get_or j (12000 - i) 0) x p) in
    record {
      refusal = o.refusal;
      session = o.session;
      touch = o.touch;
      journal = choose (eqb o.refusal 0 && at_app (shown r) p) (set o.journal (12000 - k) (suc (get_or j (12000 - k) 0))) o.journal;
      buffers = [];
    })

counts_turns_only_breaks_3 : ¬ (Demand3 counts-turns-only)
unfolding counts-turns-only computing
counts_turns_only_breaks_3 d =
    let e = d.sessions alone long refl (ask (move (move_of 1 4 0)) ∷ ask (move (move_of 1 0 0)) ∷ []) (tt, (tt, tt)) in
    let n : ◌≡◌ {A = ℕ} 6 0 = number (e.answers_next (with_own (turn unlocks 1))) in
    omega arith

-- ---- A turn exits in place of the script's last call.

exits_one_call_early : Implementation
exits_one_call_early =
    with_turn
    (λ r j x p.
    let k : ℕ = (processor_at (shown r) p).current in
    let last : Bool = at_app (shown r) p && not (ltb (suc (progress_in r j k)) (script_length x k)) in
    turn_by r j (scripts-refusal r x) (choose last (move_of p 5 0) (turn_made r j x p)))

exits_one_call_early_breaks_3 : ¬ (Demand3 exits_one_call_early)
unfolding exits_one_call_early computing
exits_one_call_early_breaks_3 d =
    let n : ◌≡◌ {A = ℕ} 0 6 = number ((d.sessions alone long refl [] tt).answers_next (with_own (turn (1 ∷ 3 ∷ 1 ∷ replicate 10 0) 1))) in
    omega arith

-- ---- A scripted start tries 19 before 1.

begins_19_before_1 : Opening → List ℕ → Outcome
begins_19_before_1 (table c) j = begins (table c) j
begins_19_before_1 (scripted c x) j = outcome (answered (or_later (scripts_cause c.T x) (config_cause c)) (session_record (start c) c.B 0) zero_session) j []

start_19_before_1_breaks_3 : ¬ (Demand3 (with_begin begins_19_before_1))
unfolding begins_19_before_1 computing
start_19_before_1_breaks_3 d =
    let n : ◌≡◌ {A = ℕ} 19 1 = d.opens (scripted (record { P = 9; T = 1; M = 1; B = 1; stealing = 0 }) []) [] in
    omega arith

-- ---- A turn tries 19 after 2.

turn_19_after_2 : Implementation
turn_19_after_2 = with_turn (λ r j x p. turn_by r j (refuse (not (in_range 1 r.state.p p)) 2 (scripts-refusal r x)) (turn_made r j x p))

turn_19_after_2_breaks_3 : ¬ (Demand3 turn_19_after_2)
unfolding turn_19_after_2 computing
turn_19_after_2_breaks_3 d =
    let n : ◌≡◌ {A = ℕ} 2 19 = number ((d.sessions alone long refl [] tt).answers_next (with_own (turn [] 9))) in
    omega arith

-- ---- A turn tests all six pairs of a script, also those past its number of calls.

whole-script : List ℕ → ℕ → Bool
whole-script x k = leb (script_length x k) 6 && each (λ i. in_range 1 6 (script_action x k i)) 0 6

tests_unused_pairs : Implementation
tests_unused_pairs =
    with_turn (λ r j x p. turn_by r j (or_later (scripts-refusal r x) (refuse (not (each (whole-script x) 1 r.state.t)) 19 0)) (turn_made r j x p))

-- a script of no calls: exit
abbrev exits : List ℕ
exits = replicate 13 0

tests_unused_pairs_breaks_3 : ¬ (Demand3 tests_unused_pairs)
unfolding whole-script tests_unused_pairs computing
tests_unused_pairs_breaks_3 d =
    let n : ◌≡◌ {A = ℕ} 19 0 = number ((d.sessions alone long refl [] tt).answers_next (with_own (turn exits 1))) in
    omega arith

-- ---- A class stops at the first refused turn.

up_to_refused : Config → List ℕ → List Move → List ℕ → List ℕ
up_to_refused c x ms [] = []
up_to_refused c x ms (p ∷ ps) = p ∷ choose (eqb (turn_cause c x ms p) 0) (up_to_refused c x (turn_after c x ms p) ps) []

class_stops_when_refused : Implementation
class_stops_when_refused =
    with_class
    (λ r j x ps a b.
    choose (eqb (class_refusal r j x ps a b) 0) (calls r j (class x (up_to_refused (config_of r) x (standing r j) ps) a b))
    (calls r j (class x ps a b)))

class_stops_when_refused_breaks_3 : ¬ (Demand3 class_stops_when_refused)
unfolding up_to_refused class_stops_when_refused computing
class_stops_when_refused_breaks_3 d =
    let e = (d.sessions alone long refl [] tt).answers_next (with_own (class exits (9 ∷ 1 ∷ []) (replicate 2 99) (replicate 64 99))) in
    let n : ◌≡◌ {A = ℕ} 99 0 = byte 0 1 e in
    omega arith

-- ---- A class writes the picture before each turn.

pictures-before : Config → List ℕ → List Move → List ℕ → List ℕ
pictures-before c x ms [] = []
pictures-before c x ms (p ∷ ps) = picture (run (start c) ms) ++ pictures-before c x (turn_after c x ms p) ps

pictures_before_turns_breaks_3 : ¬ (Demand3 (with_class (class-by pictures-before)))
unfolding pictures-before computing
pictures_before_turns_breaks_3 d =
    let e = (d.sessions alone long refl [] tt).answers_next (with_own (class exits (1 ∷ []) (99 ∷ []) (replicate 32 99))) in
    let n : ◌≡◌ {A = ℕ} 0 1 = byte 1 8 e in
    omega arith

-- ---- A class writes a picture after accepted turns only.

pictures_of_accepted : Config → List ℕ → List Move → List ℕ → List ℕ
pictures_of_accepted c x ms [] = []
pictures_of_accepted c x ms (p ∷ ps) =
    choose (eqb (turn_cause c x ms p) 0) (picture (run (start c) (turn_after c x ms p))) [] ++ pictures_of_accepted c x (turn_after c x ms p) ps

pictures_of_accepted_breaks_3 : ¬ (Demand3 (with_class (class-by pictures_of_accepted)))
unfolding pictures_of_accepted computing
pictures_of_accepted_breaks_3 d =
    let e = (d.sessions alone long refl [] tt).answers_next (with_own (class exits (9 ∷ []) (99 ∷ []) (replicate 32 99))) in
    let n : ◌≡◌ {A = ℕ} 99 1 = byte 1 0 e in
    omega arith

-- ---- A class does not test whether the journal replays to the record.

class_unchecked : Implementation
class_unchecked =
    with_class
    (λ r j x ps a b.
    let n : ℕ = or_later (lent_refusal r (length j)) (refuse (lacks_room (config_of r) (length ps) a b) 10 (scripts-refusal r x)) in
    let made : List Move = class_made r j x ps a b in
    outcome (answered n (session_record (run (start (config_of r)) made) r.initial (length made)) r) (choose (eqb n 0) (with_front j (bytes made)) j)
    (choose (eqb n 0) (with_front a (class_answers (config_of r) x (standing r j) ps)) a ∷
    choose (eqb n 0) (with_front b (class_pictures (config_of r) x (standing r j) ps)) b ∷ []))

class_unchecked_breaks_3 : ¬ (Demand3 class_unchecked)
unfolding class_unchecked computing
class_unchecked_breaks_3 d =
    let n : ◌≡◌ {A = ℕ} 0 16 = number ((d.sessions alone long refl (locks ∷ []) (tt, tt)).answers_next (with_unrelated (class exits [] [] []))) in
    omega arith
