-- The answer about a thread's turns ahead: what each case means, and which one it is on all inputs.
-- Assumes nothing.
use Rattle.std.specs.Prelude.{ℕ, Bool, true, false, not, ltb, Option, None, Some, Result, Ok, Err}
use Rattle.ahead.specs.declared.Place.{Place}
use Rattle.state.specs.declared.refusal.Refusal.{Refusal}
use Rattle.state.specs.Refusal.{number}
use Rattle.state.specs.declared.State.{State}
use Rattle.state.specs.Association.{decode}
use Rattle.state.specs.Rules.{state_ok}
use Rattle.reference.specs.Refusal.{bad_operand, bad_record, refuse}
use Rattle.reference.specs.Lists.{choose, if_zero, in_range}
use Rattle.reference.specs.State as reference
use Rattle.reference.specs.State.{mutex_at}
use Rattle.overtaking.specs.Ahead.{waits_for, turns_at, overtakable}

-- the turns of a waiting thread, without and with the mark 'may be overtaken', or that it does not wait, or the number of the refusal
pub data Ahead : Type 0 where
  InTurn : ℕ → Ahead
  Overtakable : ℕ → Ahead
  NotWaiting : Ahead
  Refused : ℕ → Ahead

-- an answer in the papers' terms: 0 or the number of the refusal, whether the thread waits, its turns, and the mark 'may be overtaken'
pub record Answer : Type 0 where
  pub refusal : ℕ
  pub waiting : Bool
  pub turns : ℕ
  pub overtakable : Bool

-- the number and the values of each case
abbrev pub meaning : Ahead → Answer
meaning (InTurn n) = record { refusal = 0; waiting = true; turns = n; overtakable = false }
meaning (Overtakable n) = record { refusal = 0; waiting = true; turns = n; overtakable = true }
meaning NotWaiting = record { refusal = 0; waiting = false; turns = 0; overtakable = false }
meaning (Refused n) = record { refusal = n; waiting = false; turns = 0; overtakable = false }

-- ---- of a state

-- n turns, with the mark or without it
abbrev pub waiting_for : Bool → ℕ → Ahead
waiting_for marked n = choose marked (Overtakable n) (InTurn n)

-- the same of the code's answer
unfoldable pub place_shown : Option Place → Ahead
place_shown (Some place) = waiting_for place.overtakable place.turns
place_shown None = NotWaiting

unfoldable pub ahead_shown : Result (Option Place) Refusal → Ahead
ahead_shown (Ok place) = place_shown place
ahead_shown (Err refusal) = Refused (number refusal)

-- of a thread that waits for a mutex; any other is not waiting
unfoldable pub turns_ahead : reference.State → ℕ → Ahead
turns_ahead s k =
    let m = waits_for s k in
    if_zero m NotWaiting (waiting_for (overtakable s m) (turns_at (mutex_at s m) k))

-- ---- of a record: 15, then 3

abbrev pub ahead_refusal : State → ℕ → ℕ
ahead_refusal r k = refuse (not (state_ok r)) bad_record (refuse (not (in_range 1 r.t k)) bad_operand 0)

unfoldable pub ahead : State → ℕ → Ahead
ahead r k = if_zero (ahead_refusal r k) (turns_ahead (decode r) k) (Refused (ahead_refusal r k))

-- the same in the papers' terms
unfoldable pub answer : State → ℕ → Answer
answer r k =
    let s = decode r in
    let m = waits_for s k in
    record {
      refusal = ahead_refusal r k;
      waiting = if_zero (ahead_refusal r k) (ltb 0 m) false;
      turns = if_zero (ahead_refusal r k) (if_zero m 0 (turns_at (mutex_at s m) k)) 0;
      overtakable = if_zero (ahead_refusal r k) (if_zero m false (overtakable s m)) false;
    }
