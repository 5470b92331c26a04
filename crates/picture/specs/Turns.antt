-- "Turns ahead": the answer of each case, and the reference formula on the queue of a state.
-- Assumes nothing.
use Rattle.std.specs.Prelude.{ℕ, suc, ◌+◌, Bool, true, false, not, List, [], ◌∷◌, eqb, ltb, Option, None, Some, Result, Ok, Err}
use Rattle.state.specs.declared.refusal.Refusal.{Refusal}
use Rattle.state.specs.Refusal.{number}
use Rattle.state.specs.declared.State.{State}
use Rattle.state.specs.Association.{decode}
use Rattle.state.specs.Rules.{state_ok}
use Rattle.reference.specs.Refusal.{bad_operand, bad_record, refuse}
use Rattle.reference.specs.Lists.{choose, if_zero, in_range, find}
use Rattle.reference.specs.State as reference
use Rattle.reference.specs.State.{Mutex, mutex_at}
use Rattle.reference.specs.Picture.{stands_in}

-- the turns of a thread that waits, or that it does not wait, or the number of the refusal
pub data Ahead : Type 0 where
  Turns : ℕ → Ahead
  NotWaiting : Ahead
  Refused : ℕ → Ahead

-- the same of the code's answer
unfoldable pub turns_shown : Option ℕ → Ahead
turns_shown (Some n) = Turns n
turns_shown None = NotWaiting

unfoldable pub ahead_shown : Result (Option ℕ) Refusal → Ahead
ahead_shown (Ok turns) = turns_shown turns
ahead_shown (Err refusal) = Refused (number refusal)

-- an answer in the papers' terms: 0 or the number of the refusal, whether the thread waits, and its turns
pub record Answer : Type 0 where
  pub refusal : ℕ
  pub waiting : Bool
  pub turns : ℕ

-- the number and the values of each case
abbrev pub meaning : Ahead → Answer
meaning (Turns n) = record { refusal = 0; waiting = true; turns = n }
meaning NotWaiting = record { refusal = 0; waiting = false; turns = 0 }
meaning (Refused n) = record { refusal = n; waiting = false; turns = 0 }

-- ---- the formula

-- how many stand before k in a queue
unfoldable pub before : ℕ → List ℕ → ℕ
before k [] = 0
before k (x ∷ rest) = choose (eqb x k) 0 (suc (before k rest))

-- the mutex in whose queue k is, 0 for none
abbrev pub waits_for : reference.State → ℕ → ℕ
waits_for s k = find (λ (x : Mutex). stands_in k x.queue) s.mutexes

-- those in front of it, and the owner, if there is one
abbrev pub turns_at : Mutex → ℕ → ℕ
turns_at x k = before k x.queue + if_zero x.owner 0 1

-- of a thread that waits for a mutex; any other is not waiting
unfoldable pub turns_ahead : reference.State → ℕ → Ahead
turns_ahead s k = if_zero (waits_for s k) NotWaiting (Turns (turns_at (mutex_at s (waits_for s k)) k))

-- ---- 15, then 3

abbrev pub ahead_refusal : State → ℕ → ℕ
ahead_refusal r k = refuse (not (state_ok r)) bad_record (refuse (not (in_range 1 r.t k)) bad_operand 0)

unfoldable pub ahead : State → ℕ → Ahead
ahead r k = if_zero (ahead_refusal r k) (turns_ahead (decode r) k) (Refused (ahead_refusal r k))

-- the same in the papers' terms
unfoldable pub answer : State → ℕ → Answer
answer r k =
    let m = waits_for (decode r) k in
    record {
      refusal = ahead_refusal r k;
      waiting = if_zero (ahead_refusal r k) (ltb 0 m) false;
      turns = if_zero (ahead_refusal r k) (if_zero m 0 (turns_at (mutex_at (decode r) m) k)) 0;
    }
