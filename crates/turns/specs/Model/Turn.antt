-- What one turn of a class computes, on the code's records, and what the class's loop starts from and gives.
-- Assumes nothing.
use Rattle.std.specs.Prelude.{ℕ, List, ◌≡◌, eqb, get_or}
use Rattle.state.specs.declared.Processor.{Processor}
use Rattle.state.specs.declared.State.{State}
use Rattle.state.specs.declared.Session.{Session}
use Rattle.state.specs.Association.{encode}
use Rattle.state.specs.Record.{processor_of}
use Rattle.step.specs.Model.Moves.{moved_of, noted}
use Rattle.reference.specs.Lists.{choose, tabulate, with_front}
use Rattle.reference.specs.Step.{Move, move_of}
use Rattle.reference.specs.Script.{next_call, class_answers, class_pictures}
use Rattle.reference.specs.Session.{bytes, state_of}
use Rattle.session.specs.Model.Replay.{stored}
use Rattle.session.specs.Contract.{config_of, standing, progress_in}
use Rattle.turns.specs.Contract.{class_refusal, class_made}

-- the move of processor p, whose registers are r, where the calls made are counted so
abbrev pub turn_of : Processor → List ℕ → List ℕ → ℕ → Move
turn_of r calls x p = choose (eqb r.position 0) (next_call x p r.current (get_or calls r.current 0)) (move_of p 0 0)

-- what a turn makes: the number that refuses its move, or 0; the move's action and operand; the state and the calls after it
pub record Made : Type 0 where
  pub refusal : ℕ
  pub action : ℕ
  pub operand : ℕ
  pub state : State
  pub calls : List ℕ

-- processor p makes the move; accepted, a call is counted
abbrev pub made_by : State → List ℕ → ℕ → Move → Made
made_by s calls p a =
    record {
      refusal = (moved_of s p a.action a.operand).refusal;
      action = a.action;
      operand = a.operand;
      state = (moved_of s p a.action a.operand).state;
      calls =
          choose (eqb (moved_of s p a.action a.operand).refusal 0)
          (choose (eqb a.action 0) calls (noted calls (processor_of s p).current)) calls;
    }

unfoldable pub turn_result : State → List ℕ → List ℕ → ℕ → Made
turn_result s calls x p = made_by s calls p (turn_of (processor_of s p) calls x p)

-- a turn of processor p that n answers: state, calls and journal before it and after; an accepted move is stored behind those that stand
pub record Takes (s : State) (calls j x : List ℕ) (p n : ℕ) (s' : State) (calls' j' : List ℕ) : Type 0 where
  pub number : n ≡ (turn_result s calls x p).refusal
  pub state : s' ≡ (turn_result s calls x p).state
  pub counts : calls' ≡ (turn_result s calls x p).calls
  pub journal :
      j' ≡ choose (eqb (turn_result s calls x p).refusal 0) (stored j s.applied (move_of p (turn_result s calls x p).action (turn_result s calls x p).operand)) j

-- ---- a class that nothing refuses

-- what it starts from: no cause is there, and the calls are counted in the journal
pub record Ready (r : Session) (calls j x ps answers pictures : List ℕ) : Type 0 where
  pub none : class_refusal r j x ps answers pictures ≡ 0
  pub counted : calls ≡ tabulate (progress_in r j) 0 33

-- what it gives: the state of the moves that then stand, in the journal too, and the answers and pictures
pub record Given (r : Session) (j x ps answers pictures : List ℕ) (s : State) (j' answers' pictures' : List ℕ) : Type 0 where
  pub state : s ≡ encode (state_of (config_of r) (class_made r j x ps answers pictures))
  pub journal : j' ≡ with_front j (bytes (class_made r j x ps answers pictures))
  pub numbers : answers' ≡ with_front answers (class_answers (config_of r) x (standing r j) ps)
  pub pictured : pictures' ≡ with_front pictures (class_pictures (config_of r) x (standing r j) ps)
