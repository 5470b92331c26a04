-- Wrong implementations that document 01 lists or invites, each of which breaks a demand.
-- Assumes nothing.
use Prim.Native.Nat.{ℕ, suc}
use mathlib.Core.List.{List, [], ◌∷◌, ◌++◌}
use mathlib.Core.Path.{◌≡◌, refl, ap}
use native.Mathlib.Omega.{arith}
use native.Mathlib.Bridge.{le_by_compare, IsLe}
use lib.Dec.{eqb}
use lib.ListN.{get_or}
use Rattle.state.specs.declared.Processor.{Processor}
use Rattle.state.specs.declared.Session.{Session}
use Rattle.state.specs.Record.{zero_processor, processor_of}
use Rattle.state.specs.Model.Access.{with_applied, with_processor}
use Rattle.reference.specs.Lists.{choose}
use Rattle.reference.specs.State.{Line, CI2, L7, H2, H5, same_line, processor_at}
use Rattle.reference.specs.Start.{Config}
use Rattle.reference.specs.Step.{Move, move_of}
use Rattle.reference.specs.Touch.{nothing}
use Rattle.reference.specs.Session.{move}
use Rattle.picture.specs.Turns.{Answer as TurnsAhead}
use Rattle.session.specs.Contract.{shown}
use Rattle.claim.specs.Implementation.{Outcome, Pictured, Implementation, begins, calls, contract}
use Rattle.claim.specs.Demand2.{Demand2}
use Rattle.claim.specs.Demand3.{Demand3}
use Rattle.claim.proofs.Sample.{ask, two, long, after-moves}
use Rattle.claim.proofs.Altered.{with_write, with_ahead, with_move, with_moved, only_jumps, one, alone, after-start, lock-move, locks, with_own, number, computing}

-- where processor p of a record stands, and the record with one more standing move
abbrev position_in : ℕ → Session → ℕ
position_in p r = (get_or r.state.processors p zero_processor).position

abbrev counted : Session → Session
counted r = record { state = with_applied (suc r.state.applied) r.state; initial = r.initial; kept = r.kept }

-- a go of processor p
abbrev go : ℕ → Move
go p = move_of p 0 0

-- ---- Every move is refused.

refuses_all : Implementation
refuses_all = with_move (λ r j a. record { refusal = 2; session = r; touch = nothing; journal = j; buffers = [] })

refuses_all_breaks_2 : ¬ (Demand2 refuses_all)
unfolding refuses_all computing
refuses_all_breaks_2 d =
    let n : ◌≡◌ {A = ℕ} 2 0 = (d.moves (after-start one []) long lock-move).number in
    omega arith

refuses_all_breaks_3 : ¬ (Demand3 refuses_all)
unfolding refuses_all computing
refuses_all_breaks_3 d =
    let n : ◌≡◌ {A = ℕ} 2 0 = number ((d.sessions alone long refl [] tt).answers_next (with_own (move lock-move))) in
    omega arith

-- ---- An accepted move leaves the state as it was.

state-unchanged : Implementation
state-unchanged = with_moved (λ r a right. r)

state_unchanged_breaks_2 : ¬ (Demand2 state-unchanged)
unfolding state-unchanged computing
state_unchanged_breaks_2 d =
    let n : ◌≡◌ {A = ℕ} 0 1 = ap (λ (r : Session). r.state.applied) ((d.moves (after-start one []) long lock-move).session refl) in
    omega arith

state_unchanged_breaks_3 : ¬ (Demand3 state-unchanged)
unfolding state-unchanged computing
state_unchanged_breaks_3 d =
    let n : ◌≡◌ {A = ℕ} 0 1 = ap (λ (r : Session). r.state.applied) (d.sessions alone long refl (locks ∷ []) (tt, tt)).state in
    omega arith

-- ---- The first move is made; a later one is counted and added to the journal, and no more.

first-move-only : Implementation
first-move-only = with_moved (λ r a right. choose (eqb r.state.applied 0) right (counted r))

first_move_only_breaks_2 : ¬ (Demand2 first-move-only)
unfolding first-move-only computing
first_move_only_breaks_2 d =
    let n : ◌≡◌ {A = ℕ} 3 0 = ap (position_in 1) ((d.moves (after-start one (lock-move ∷ [])) (after-moves (lock-move ∷ [])) (go 1)).session refl) in
    omega arith

first_move_only_breaks_3 : ¬ (Demand3 first-move-only)
unfolding first-move-only computing
first_move_only_breaks_3 d =
    let n : ◌≡◌ {A = ℕ} 3 0 = ap (position_in 1) (d.sessions alone long refl (locks ∷ ask (move (go 1)) ∷ []) (tt, (tt, tt))).state in
    omega arith

-- ---- A move is counted, and nothing else changes.

only-counts : Implementation
only-counts = with_moved (λ r a right. counted r)

only_counts_breaks_2 : ¬ (Demand2 only-counts)
unfolding only-counts computing
only_counts_breaks_2 d =
    let n : ◌≡◌ {A = ℕ} 0 3 = ap (position_in 1) ((d.moves (after-start one []) long lock-move).session refl) in
    omega arith

-- ---- A queue counts as empty, whoever is in it, at one of the lines that look at it.

empty_at : Line → Line → Implementation
empty_at here there =
    with_moved (λ r a right. choose (same_line (processor_at (shown r) a.processor).position here) (only_jumps there r a) right)

-- thread 2 is ready, and processor 1 idles
empty_at_CI2_breaks_2 : ¬ (Demand2 (empty_at CI2 CI2))
unfolding empty_at computing
empty_at_CI2_breaks_2 d =
    let c : Config = record { P = 1; T = 2; M = 1; B = 2; stealing = 0 } in
    let n : ◌≡◌ {A = ℕ} 1 2 = ap (position_in 1) ((d.moves (after-start c (move_of 1 5 0 ∷ [])) (after-moves (move_of 1 5 0 ∷ [])) (go 1)).session refl) in
    omega arith

-- thread 2 joins the queue before processor 1 looks into it
empty_at_H2_breaks_2 : ¬ (Demand2 (empty_at H2 H5))
unfolding empty_at computing
empty_at_H2_breaks_2 d =
    let ms : List Move = lock-move ∷ move_of 2 1 1 ∷ go 1 ∷ go 2 ∷ go 2 ∷ go 2 ∷ move_of 1 3 1 ∷ go 1 ∷ [] in
    let n : ◌≡◌ {A = ℕ} 18 17 = ap (position_in 1) ((d.moves (after-start two ms) (after-moves ms) (go 1)).session refl) in
    omega arith

-- both lock, thread 1 unlocks, and processor 1 finds the queue empty: H5 is next
abbrev before-H5 : List Move
before-H5 = lock-move ∷ move_of 2 1 1 ∷ go 1 ∷ go 2 ∷ move_of 1 3 1 ∷ go 1 ∷ go 1 ∷ []

-- processor 2 has queued thread 2 and has seen the token
empty_at_L7_breaks_2 : ¬ (Demand2 (empty_at L7 CI2))
unfolding empty_at computing
empty_at_L7_breaks_2 d =
    let ms : List Move = before-H5 ++ go 1 ∷ go 2 ∷ go 2 ∷ go 2 ∷ [] in
    let n : ◌≡◌ {A = ℕ} 1 8 = ap (position_in 2) ((d.moves (after-start two ms) (after-moves ms) (go 2)).session refl) in
    omega arith

-- ---- An accepted move does not count itself.

moves_uncounted : Implementation
moves_uncounted = with_moved (λ r a right. record { state = with_applied r.state.applied right.state; initial = right.initial; kept = right.kept })

moves_uncounted_breaks_2 : ¬ (Demand2 moves_uncounted)
unfolding moves_uncounted computing
moves_uncounted_breaks_2 d =
    let n : ◌≡◌ {A = ℕ} 0 1 = ap (λ (r : Session). r.state.applied) ((d.moves (after-start one []) long lock-move).session refl) in
    omega arith

-- ---- One move is applied, after every move.

one_applied : Implementation
one_applied = with_moved (λ r a right. record { state = with_applied 1 right.state; initial = right.initial; kept = right.kept })

one_applied_breaks_2 : ¬ (Demand2 one_applied)
unfolding one_applied computing
one_applied_breaks_2 d =
    let n : ◌≡◌ {A = ℕ} 1 2 = ap (λ (r : Session). r.state.applied) ((d.moves (after-start one (lock-move ∷ [])) (after-moves (lock-move ∷ [])) (go 1)).session refl) in
    omega arith

-- ---- A processor's own sequence number is never raised.

abbrev with_sequence : ℕ → Processor → Processor
with_sequence n x =
    record {
      position = x.position;
      current = x.current;
      transit = x.transit;
      mutex = x.mutex;
      observed = x.observed;
      sequence = n;
      answer = x.answer;
      probe = x.probe;
    }

sequence-unchanged : Implementation
sequence-unchanged =
    with_moved
    (λ r a right.
    let p : ℕ = a.processor in
    record { state = with_processor p (with_sequence (processor_of r.state p).sequence (processor_of right.state p)) right.state; initial = right.initial; kept = right.kept })

sequence_unchanged_breaks_2 : ¬ (Demand2 sequence-unchanged)
unfolding sequence-unchanged computing
sequence_unchanged_breaks_2 d =
    let e = (d.moves (after-start two before-H5) (after-moves before-H5) (go 1)).session refl in
    let n : ◌≡◌ {A = ℕ} 0 1 = ap (λ (r : Session). (get_or r.state.processors 1 zero_processor).sequence) e in
    omega arith

-- ---- Turns ahead are one too many.

turns_invented : Implementation
turns_invented =
    with_ahead (λ s k. let x : TurnsAhead = contract.ahead s k in record { refusal = x.refusal; waiting = x.waiting; turns = suc x.turns })

-- thread 2 waits for thread 1
turns_invented_breaks_2 : ¬ (Demand2 turns_invented)
unfolding turns_invented computing
turns_invented_breaks_2 d =
    let ms : List Move = lock-move ∷ move_of 2 1 1 ∷ go 1 ∷ go 2 ∷ go 2 ∷ go 2 ∷ [] in
    let n : ◌≡◌ {A = ℕ} 2 1 = ap (λ (x : TurnsAhead). x.turns) (d.turns (after-start two ms).state 2) in
    omega arith

-- ---- A refused move changes the record.

refusal_changes_record : Implementation
refusal_changes_record =
    with_move
    (λ r j a.
    let o : Outcome = calls r j (move a) in
    record { refusal = o.refusal; session = choose (eqb o.refusal 0) o.session (counted r); touch = o.touch; journal = o.journal; buffers = [] })

refusal_changes_record_breaks_2 : ¬ (Demand2 refusal_changes_record)
unfolding refusal_changes_record computing
refusal_changes_record_breaks_2 d =
    let e = (d.refusals.call (after-start one []) long (move (go 9)) (λ z. omega arith)).0 in
    let n : ◌≡◌ {A = ℕ} 1 0 = ap (λ (r : Session). r.state.applied) e in
    omega arith

refusal_changes_record_breaks_3 : ¬ (Demand3 refusal_changes_record)
unfolding refusal_changes_record computing
refusal_changes_record_breaks_3 d =
    let n : ◌≡◌ {A = ℕ} 1 0 = ap (λ (r : Session). r.state.applied) (d.sessions alone long refl (ask (move (go 9)) ∷ []) (tt, tt)).state in
    omega arith

-- ---- One picture is written for all states.

one_picture : Implementation
one_picture = with_write (λ s b. contract.write (begins alone []).session.state b)

one_picture_breaks_2 : ¬ (Demand2 one_picture)
unfolding IsLe one_picture computing
one_picture_breaks_2 d =
    let e = d.pictures.writes (after-start one (lock-move ∷ [])).state (record { processors = refl; mutexes = refl; firsts = refl; threads = refl }, refl) long
    (le_by_compare 32 12000 tt) in
    let n : ◌≡◌ {A = ℕ} 0 3 = ap (λ (x : Pictured). get_or x.buffer 8 0) e in
    omega arith

one_picture_breaks_3 : ¬ (Demand3 one_picture)
unfolding IsLe one_picture computing
one_picture_breaks_3 d =
    let e = (d.sessions alone long refl (locks ∷ []) (tt, tt)).pictured long (le_by_compare 32 12000 tt) in
    let n : ◌≡◌ {A = ℕ} 0 3 = ap (λ (x : Pictured). get_or x.buffer 8 0) e in
    omega arith
