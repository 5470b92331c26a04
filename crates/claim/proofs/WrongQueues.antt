-- Wrong uses of the ready queues, each of which breaks a demand (document 02, No. 13).
-- Assumes nothing.
use Prim.Native.Nat.{ℕ}
use mathlib.Core.Bool.{◌&&◌}
use mathlib.Core.List.{List, [], ◌∷◌}
use mathlib.Core.Path.{◌≡◌, refl, ap}
use native.Mathlib.Omega.{arith}
use lib.Dec.{ltb}
use lib.ListN.{length, get_or}
use Rattle.state.specs.declared.Session.{Session}
use Rattle.state.specs.Record.{zero_processor}
use Rattle.reference.specs.Lists.{choose, sum}
use Rattle.reference.specs.State.{Y1, Y2, same_line, processor_at}
use Rattle.reference.specs.Start.{Config}
use Rattle.reference.specs.Step.{Move, move_of}
use Rattle.reference.specs.Session.{Opening, table, scripted, move}
use Rattle.reference.specs.OneProcessor.{choosing}
use Rattle.session.specs.Contract.{shown}
use Rattle.claim.specs.Implementation.{Outcome, Implementation, begins}
use Rattle.claim.specs.Demand2.{Demand2}
use Rattle.claim.specs.Demand3.{Demand3}
use Rattle.claim.proofs.Sample.{ask, long, after-moves}
use Rattle.claim.proofs.Altered.{with_begin, with_moved, only_jumps, after-start, computing}

-- two processors with a ready queue each
abbrev queue-each : Config
queue-each = record { P = 2; T = 3; M = 1; B = 2; stealing = 1 }

-- ---- A start leaves out its fifth number.

begins-single : Opening → List ℕ → Outcome
begins-single (table c) j = begins (table (choosing 0 c)) j
begins-single (scripted c x) j = begins (scripted c x) j

start_single_breaks_3 : ¬ (Demand3 (with_begin begins-single))
unfolding begins-single computing
start_single_breaks_3 d =
    let n : ◌≡◌ {A = ℕ} 0 1 = ap (λ (r : Session). r.state.stealing) (d.sessions (table queue-each) long refl [] tt).state in
    omega arith

-- ---- Y1 looks into all ready queues.

yield_sees_all_queues : Implementation
yield_sees_all_queues =
    with_moved
    (λ r a right.
    choose (same_line (processor_at (shown r) a.processor).position Y1 && ltb 0 (sum length (shown r).ready)) (only_jumps Y2 r a) right)

-- processor 2 creates thread 3 into its own queue; processor 1 yields and finds its own empty
abbrev created : List Move
created = move_of 2 6 3 ∷ move_of 2 0 0 ∷ move_of 1 4 0 ∷ []

abbrev position_of_1 : Session → ℕ
position_of_1 r = (get_or r.state.processors 1 zero_processor).position

yield_sees_all_queues_breaks_2 : ¬ (Demand2 yield_sees_all_queues)
unfolding yield_sees_all_queues computing
yield_sees_all_queues_breaks_2 d =
    let n : ◌≡◌ {A = ℕ} 22 0 = ap position_of_1 ((d.moves (after-start queue-each created) (after-moves created) (move_of 1 0 0)).session refl) in
    omega arith

yield_sees_all_queues_breaks_3 : ¬ (Demand3 yield_sees_all_queues)
unfolding yield_sees_all_queues computing
yield_sees_all_queues_breaks_3 d =
    let e = (d.sessions (table queue-each) long refl
    (ask (move (move_of 2 6 3)) ∷ ask (move (move_of 2 0 0)) ∷ ask (move (move_of 1 4 0)) ∷ ask (move (move_of 1 0 0)) ∷ []) (tt, (tt, (tt, (tt, tt))))).state in
    let n : ◌≡◌ {A = ℕ} 22 0 = ap position_of_1 e in
    omega arith
