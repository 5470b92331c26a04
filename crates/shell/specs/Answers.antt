-- "The program", document 01: what the stepper's lines are answered, by any program that holds a session, and what they leave. A line's command is the one that
-- Grammar of command/specs says (`command_of`).
-- Assumes nothing.
use Rattle.std.specs.Prelude.{ℕ, Bool, true, false, cond, List, ◌∷◌, ◌++◌, eqb, Option, None, Some}
use Rattle.command.specs.Printing.{decimal, hex, line_feed}
use Rattle.command.specs.declared.Command.{Command}
use Rattle.command.specs.declared.Command.TheVariants.{Start, StartWith, Move, Goto, Show, Unknown}
use Rattle.state.specs.declared.Session.{Session}
use Rattle.state.specs.declared.State.{State}
use Rattle.state.specs.Association.{decode}
use Rattle.reference.specs.Picture.{picture}
use Rattle.reference.specs.Step.{move_of}
use Rattle.picture.specs.Picture.{write_refusal}
use Rattle.session.specs.Contract.{Answer, table, started, moved, journal_after, went}
use Rattle.shell.specs.declared.Shell.{Shell}

-- begun: a start has been accepted; its session, and the journal
pub record Context : Type 0 where
  pub begun : Bool
  pub session : Session
  pub journal : List ℕ

-- before the first line
abbrev pub initial : List ℕ → Context
initial j = record { begun = false; session = (started (table 0 0 0 0 0)).session; journal = j }

-- what the program holds, with the journal: no session before a start has been accepted
abbrev pub context_in : Option Session → List ℕ → Context
context_in None j = initial j
context_in (Some r) j = record { begun = true; session = r; journal = j }

abbrev pub context_of : Shell → List ℕ → Context
context_of d j = context_in d.session j

-- a line with `?`
abbrev pub question_mark : List ℕ
question_mark = 63 ∷ line_feed

-- a line with a number
abbrev pub number : ℕ → List ℕ
number n = decimal n ++ line_feed

-- a line with the picture; were a record refused, its refusal. No picture is longer than 296 bytes.
unfoldable pub picture_text : State → List ℕ
picture_text r = cond (eqb (write_refusal r 296) 0) (hex (picture (decode r)) ++ line_feed) (number (write_refusal r 296))

-- what a line prints: 0 or the refusal, the picture, or `?`. A start's fifth number, left out, is 0.
unfoldable pub response : Command → Context → List ℕ
response (Start p t m b) k = number (started (table p t m b 0)).refusal
response (StartWith p t m b c) k = number (started (table p t m b c)).refusal
response (Move p a o) k = cond k.begun (number (moved k.session k.journal (move_of p a o)).refusal) question_mark
response (Goto i) k = cond k.begun (number (went k.session k.journal i).refusal) question_mark
response Show k = cond k.begun (picture_text k.session.state) question_mark
response Unknown k = question_mark

-- a refused start keeps the old session
abbrev pub begun_by : Answer → Context → Context
begun_by a k = cond (eqb a.refusal 0) (record { begun = true; session = a.session; journal = k.journal }) k

-- a move or a goto leaves the record that it answers
abbrev pub holding : Bool → Session → List ℕ → Context
holding begun r j = record { begun = begun; session = r; journal = j }

-- what a line leaves; a refused move or goto answers the record that it was handed
unfoldable pub after : Command → Context → Context
after (Start p t m b) k = begun_by (started (table p t m b 0)) k
after (StartWith p t m b c) k = begun_by (started (table p t m b c)) k
after (Move p a o) k =
    cond k.begun (holding k.begun (moved k.session k.journal (move_of p a o)).session (journal_after k.session k.journal (move_of p a o))) k
after (Goto i) k = cond k.begun (holding k.begun (went k.session k.journal i).session k.journal) k
after Show k = k
after Unknown k = k
