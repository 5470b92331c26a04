-- A list of moves with two neighbours exchanged that may be replays alike.
-- Assumes nothing.
use Prim.Native.Nat.{ℕ, zero, suc, ◌+◌, ◌/◌}
use mathlib.Core.Bool.{Bool, true, false}
use mathlib.Core.List.{List, [], ◌∷◌}
use mathlib.Core.Path.{◌≡◌, refl, sym, ap, ◌∙◌}
use native.Mathlib.Omega.{arith}
use lib.ListN.{length}
use Rattle.exports.specs.Replay.{found, replay, whole, replay_refusal, replay_place, replay_buffer}
use Rattle.exports.specs.Words.{moves_in}
use Rattle.exports.specs.Independent.{independent_refusal, independent_answer, ExchangeReplays}
use Rattle.exports.proofs.Tried.{none_first}
use Rattle.exports.proofs.Touched.{replay_cons, replay-accepted}
use Rattle.independence.specs.Exchange.{may_exchange, exchange, rearranged, may_rearrange}
use Rattle.independence.proofs.Lists.{rearranges}
use Rattle.reference.specs.Lists.{if_zero}
use Rattle.reference.specs.State.{State}
use Rattle.reference.specs.Start.{Config, config_cause, start}
use Rattle.reference.specs.Step.{Move, move_of, next, run}
use Rattle.reference.specs.Cause.{accepted}
use Rattle.reference.specs.Safe.{one_if}
use Rattle.reference.specs.Session.{bytes, moves}
use Rattle.reference.proofs.Tests.{both}
use Rattle.reference.proofs.Legal.{accepted_cons}

-- a replay that refuses nothing, by the moves in its bytes
replay-moves : (s : State) (i : ℕ) (j : List ℕ) → (replay s i j).refusal ≡ 0 → replay s i j ≡ found 0 0 (run s (moves_in j))
unfolding replay moves run
replay-moves s i [] z = refl
replay-moves s i (p ∷ []) z = absurd (omega arith)
replay-moves s i (p ∷ a ∷ []) z = absurd (omega arith)
replay-moves s i (p ∷ a ∷ o ∷ rest) z =
    let t = replay_cons s i p a o rest z in
    let e : length (p ∷ a ∷ o ∷ rest) / 3 ≡ suc (length rest / 3) = omega arith in
    rw (e, t.0) (replay-moves (next s (move_of p a o)) (suc i) rest t.1)

-- and by the bytes of moves that are accepted
replay-bytes : (s : State) (i : ℕ) (ms : List Move) → accepted s ms ≡ true → replay s i (bytes ms) ≡ found 0 0 (run s ms)
unfolding replay bytes run
replay-bytes s i [] h = refl
replay-bytes s i (a ∷ ms) h = let t = accepted_cons s a ms h in rw t.0 (replay-bytes (next s a) (suc i) ms t.1)

-- what the answer 1 says
yes : (n : ℕ) (b : Bool) → if_zero n (one_if b) (200 + n) ≡ 1 → (n ≡ 0) × (b ≡ true)
yes zero true e = (refl, refl)
yes zero false e = absurd (omega arith)
yes (suc n) b e = absurd (omega arith)

same-replay : (c : Config) (b : List ℕ) (k : ℕ) → independent_answer c b k ≡ 1 → whole c (bytes (exchange (moves_in b) k)) ≡ whole c b
unfolding independent_answer independent_refusal rearranged may_rearrange
same-replay c b k h =
    let y = yes (independent_refusal c b k) (may_exchange c (moves_in b) k) h in
    let t = none_first (config_cause c) _ y.0 in
    let free = (none_first (whole c b).refusal _ t.1).0 in
    let e = rearranges c (moves_in b) t.0 (replay-accepted (start c) 0 b free) (k ∷ []) (both y.1 refl) in
    replay-bytes (start c) 0 (exchange (moves_in b) k) e.all_accepted ∙ ap (found 0 0) e.state ∙ sym (replay-moves (start c) 0 b free)

pub exchange-replays : ExchangeReplays
unfolding replay_refusal replay_place replay_buffer
exchange-replays c b k h =
    let e = same-replay c b k h in
    record { number = λ n. rw e; place = rw e; written = λ buffer. rw e }
