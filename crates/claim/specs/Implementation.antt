-- An implementation of the entry points (document 01: a bench), and the one that their contracts describe. The demands are stated of any implementation.
-- Assumes nothing.
use Rattle.std.specs.Prelude.{ℕ, List, [], ◌∷◌, ◌≡◌, length}
use Rattle.state.specs.declared.State.{State}
use Rattle.state.specs.declared.Session.{Session}
use Rattle.reference.specs.Touch.{Touch, nothing}
use Rattle.touch.specs.Association.{touch_shown}
use Rattle.reference.specs.Session.{Opening, table, scripted, Request, move, turn, class, goto}
use Rattle.picture.specs.Picture.{Read, write_refusal, written, read}
use Rattle.picture.specs.Turns.{Answer as TurnsAhead, meaning, ahead}
use Rattle.session.specs.Contract.{Answer, MoveAnswer, started, lent_refusal, moved, journal_after, went, front}
use Rattle.turns.specs.Contract as turns

-- what a call leaves: its number, the record, the words that it says it touched, the journal that it was lent, the further buffers
pub record Outcome : Type 0 where
  pub refusal : ℕ
  pub session : Session
  pub touch : Touch
  pub journal : List ℕ
  pub buffers : List (List ℕ)

-- what writing a picture leaves: its number, and the buffer
pub record Pictured : Type 0 where
  pub refusal : ℕ
  pub buffer : List ℕ

-- what asking for the journal's front gives: its number, and the front
pub record Fronted : Type 0 where
  pub refusal : ℕ
  pub bytes : List ℕ

-- begin: an opening, while a journal is there. call: from the record, the journal lent and what is asked to what it leaves. write: a state's picture into a
-- buffer. read: a state from bytes. front: the standing moves in the journal lent. ahead: a thread's turns ahead.
pub record Implementation : Type 0 where
  pub begin : Opening → List ℕ → Outcome
  pub call : Session → List ℕ → Request → Outcome
  pub write : State → List ℕ → Pictured
  pub read : List ℕ → Read
  pub front : Session → List ℕ → Fronted
  pub ahead : State → ℕ → TurnsAhead

-- the number is a refusal's
abbrev pub Refused : ℕ → Type 0
Refused n = ¬ (n ≡ 0)

-- ---- the contracts as an implementation

-- of a call whose answer says no words
abbrev pub outcome : Answer → List ℕ → List (List ℕ) → Outcome
outcome a j b = record { refusal = a.refusal; session = a.session; touch = nothing; journal = j; buffers = b }

-- of a move or a turn
abbrev pub move_outcome : MoveAnswer → List ℕ → Outcome
move_outcome a j = record { refusal = a.refusal; session = a.session; touch = touch_shown a.touch; journal = j; buffers = [] }

-- the contracts of start and scripted start, which are lent no journal
abbrev pub begins : Opening → List ℕ → Outcome
begins (table c) j = outcome (started c) j []
begins (scripted c x) j = outcome (turns.scripted c x) j []

-- the contracts of move, turn, class and going. Going gives no journal back: it is lent one for reading only, so nothing that meets its contract can
-- change it, and what it leaves is the journal as it was.
abbrev pub calls : Session → List ℕ → Request → Outcome
calls r j (move a) = move_outcome (moved r j a) (journal_after r j a)
calls r j (turn x p) = move_outcome (turns.turned r j x p) (turns.turn_journal r j x p)
calls r j (class x ps answers pictures) =
    outcome (turns.classed r j x ps answers pictures) (turns.class_journal r j x ps answers pictures)
    (turns.answers_after r j x ps answers pictures ∷ turns.pictures_after r j x ps answers pictures ∷ [])
calls r j (goto k) = outcome (went r j k) j []

abbrev pub contract : Implementation
contract =
    record {
      begin = begins;
      call = calls;
      write = λ s b. record { refusal = write_refusal s (length b); buffer = written s b };
      read = read;
      front = λ r j. record { refusal = lent_refusal r (length j); bytes = front r j };
      ahead = λ s k. meaning (ahead s k);
    }
