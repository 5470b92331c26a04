-- What the code computes on its own records: the words that a move touches, and a move with its words.
-- Assumes nothing.
use Rattle.std.specs.Prelude.{ℕ, ◌-◌, Bool, not, List, [], ◌∷◌, Result, Ok, Err, eqb}
use Rattle.touch.specs.declared.Word as code
use Rattle.touch.specs.declared.Word.TheVariants as case
use Rattle.touch.specs.declared.Touch as pair
use Rattle.touch.specs.declared.Sight.{Sight}
use Rattle.touch.specs.declared.Made as code-made
use Rattle.touch.specs.Association.{touch_record}
use Rattle.state.specs.declared.State.{State}
use Rattle.state.specs.declared.refusal.Refusal.{Refusal}
use Rattle.state.specs.Refusal as refusals
use Rattle.state.specs.Record.{processor_of}
use Rattle.state.specs.Association.{token_shown, processor_shown}
use Rattle.step.specs.declared.View as seen
use Rattle.step.specs.Model.Moves.{nothing_there, view_of, moved_of}
use Rattle.reference.specs.Lists.{choose}
use Rattle.reference.specs.State.{line_of}
use Rattle.reference.specs.Step.{View, action_of}
use Rattle.reference.specs.Touch.{Touch, nothing, line_touch, act_touch}

-- the word is read, and written where the test holds
abbrev pub touching : Bool → code.Word → pair.Touch
touching b w = record { reads = w; writes = choose b w case.None }

-- the number of the ready queue that has an index in the record
abbrev pub ready_number : ℕ → ℕ
ready_number i = choose (eqb i 0) 1 (i - 8)

-- what it sees of the shared words
abbrev pub sight_of : seen.View → Sight
sight_of v =
    record {
      number = v.number;
      proc = v.proc;
      mutex = v.mutex;
      waiting = not (nothing_there v.queue);
      ready = not (nothing_there v.ready);
      index = v.index;
    }

-- a queue in which there is a thread, or none
abbrev pub some_queue : Bool → List ℕ
some_queue b = choose b (0 ∷ []) []

-- a view of the reference machine with all of that
abbrev pub view_shown : Sight → View
view_shown v =
    record {
      self = v.number;
      proc = processor_shown v.proc;
      mutex = record { count = v.mutex.count; queue = some_queue v.waiting; owner = v.mutex.owner; token = token_shown v.mutex.token };
      ready = some_queue v.ready;
      queues = 0;
    }

-- the words of the line at which the processor stands, and of an action
unfoldable pub line_seen : Sight → Touch
line_seen v = line_touch (line_of v.proc.position) v.proc.mutex (ready_number v.index) (view_shown v)

unfoldable pub act_seen : ℕ → ℕ → Sight → Touch
act_seen a o v = act_touch (action_of a) o v.proc.mutex (ready_number v.index) (view_shown v)

-- the words of a move that is accepted
abbrev pub touch_of : State → ℕ → ℕ → ℕ → Touch
touch_of s p a o = act_seen a o (sight_of (view_of s p (processor_of s p).mutex))

-- a move's answer: 0, or why it is refused; the state after it; and what it touched
pub record Made : Type 0 where
  pub refusal : ℕ
  pub state : State
  pub touch : pair.Touch

-- a move with its words; refused, it has none
unfoldable pub made_of : State → ℕ → ℕ → ℕ → Made
made_of s p a o =
    let n = (moved_of s p a o).refusal in
    record { refusal = n; state = (moved_of s p a o).state; touch = touch_record (choose (eqb n 0) (touch_of s p a o) nothing) }

-- the answer that the code's says: refused, the state stays
unfoldable pub made_shown : State → Result code-made.Made Refusal → Made
made_shown s (Ok made) = record { refusal = 0; state = made.state; touch = made.touch }
made_shown s (Err e) = record { refusal = refusals.number e; state = s; touch = touch_record nothing }
