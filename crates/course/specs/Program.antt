-- The program `course`: what it holds, what each line is answered, and what it leaves. What a line asks is what CourseGrammar of command/specs says (`ask_of`);
-- Transcript of command/specs says of any program what it writes for an input (`output`), and what a run of it is (`Run`).
-- Assumes nothing.
use Rattle.std.specs.Prelude.{ℕ, Bool, false, cond, List, eqb, length}
use Rattle.command.specs.Transcript.{Program}
use Rattle.command.specs.Request.{Ask, plain, script, turn, turns, view, chart, mark, mark_own, help}
use Rattle.command.specs.Model.Request.{ask_of}
use Rattle.command.specs.declared.Command.{Command}
use Rattle.command.specs.declared.Command.TheVariants.{Start, StartWith, Move, Goto, Show, Unknown}
use Rattle.state.specs.declared.Session.{Session}
use Rattle.script.specs.Contract.{set_refusal, scripts_after}
use Rattle.session.specs.Contract.{table, started, moved, last_touched}
use Rattle.touch.specs.Association.{touch_shown}
use Rattle.reference.specs.Step.{move_of}
use Rattle.turns.specs.Contract.{turned, turn_journal, classed, class_journal}
use Rattle.view.specs.Table.{view_text}
use Rattle.chart.specs.Chart.{chart_text}
use Rattle.mark.specs.Mark.{marked, state_marked}
use Rattle.shell.specs.Answers as shell
use Rattle.shell.specs.Answers.{number, question_mark}
use Rattle.course.specs.declared.answers.Base.{Base}
use Rattle.course.specs.declared.answers.Course.{Course}
use Rattle.course.specs.Answers.{move_text, zeros, class_text, mark_text, help_text}

-- the session and the journal, as the stepper has them, and the threads' scripts
pub record Context : Type 0 where
  pub base : shell.Context
  pub scripts : List ℕ

-- what the program holds
abbrev pub base_of : Base → shell.Context
base_of b = shell.context_of b.shell b.journal.now

abbrev pub context_of : Course → Context
context_of c = record { base = base_of c.base; scripts = c.scripts.now }

-- before the first line; the program begins with the scripts of 32 threads, all empty
abbrev pub started_with : List ℕ → List ℕ → Context
started_with j x = record { base = shell.initial j; scripts = x }

-- the command is a start that is accepted
unfoldable pub starts : Command → Bool
starts (Start p t m b) = eqb (started (table p t m b 0)).refusal 0
starts (StartWith p t m b c) = eqb (started (table p t m b c)).refusal 0
starts (Move p a o) = false
starts (Goto k) = false
starts Show = false
starts Unknown = false

-- ---- what a line is answered; until a start has been accepted, `?` where it is about the session

module _ (k : Context) where
  abbrev pub begun : Bool
  begun = k.base.begun

  abbrev pub session : Session
  session = k.base.session

  abbrev pub journal : List ℕ
  journal = k.base.journal

  -- a move: 0 and the words that it touched, or the refusal; the stepper's other lines as the stepper answers them
  unfoldable pub plain_response : Command → List ℕ
  plain_response (Move p a o) =
      let x = moved session journal (move_of p a o) in
      cond begun (move_text x.refusal (touch_shown x.touch)) question_mark
  plain_response (Start p t m b) = shell.response (Start p t m b) k.base
  plain_response (StartWith p t m b c) = shell.response (StartWith p t m b c) k.base
  plain_response (Goto i) = shell.response (Goto i) k.base
  plain_response Show = shell.response Show k.base
  plain_response Unknown = shell.response Unknown k.base

  -- a turn is answered as its move is
  abbrev pub turn_response : ℕ → List ℕ
  turn_response p = let x = turned session journal k.scripts p in move_text x.refusal (touch_shown x.touch)

  -- `script`: 0 or the refusal. `turns`: the class's lines. `view`: the table, with the words marked that the last standing move touched. `chart`: the chart.
  -- `mark`: the mark or the refusal; with two pictures it needs no session.
  unfoldable pub response : Ask → List ℕ
  response (plain c) = plain_response c
  response (script i c) = cond begun (number (set_refusal session.state.t k.scripts i c)) question_mark
  response (turn p) = cond begun (turn_response p) question_mark
  response (turns ps) = cond begun (class_text session journal k.scripts ps) question_mark
  response view = cond begun (view_text session.state (touch_shown (last_touched session journal))) question_mark
  response chart = cond begun (chart_text session journal) question_mark
  response (mark b c) = mark_text (marked b c)
  response (mark_own c) = cond begun (mark_text (state_marked session.state c)) question_mark
  response help = help_text

  -- ---- what it leaves

  -- the record and the journal that a call leaves
  abbrev pub left_with : Session → List ℕ → Context
  left_with r j = record { base = record { begun = begun; session = r; journal = j }; scripts = k.scripts }

  -- after an accepted start all scripts are empty; a refused call leaves the record, the journal and the scripts that it was handed
  unfoldable pub after : Ask → Context
  after (plain c) = record { base = shell.after c k.base; scripts = cond (starts c) (zeros (length k.scripts)) k.scripts }
  after (script i c) = cond begun (record { base = k.base; scripts = scripts_after session.state.t k.scripts i c }) k
  after (turn p) = cond begun (left_with (turned session journal k.scripts p).session (turn_journal session journal k.scripts p)) k
  after (turns ps) =
      cond begun
      (left_with (classed session journal k.scripts ps (zeros 1024) (zeros 303104)).session (class_journal session journal k.scripts ps (zeros 1024) (zeros 303104)))
      k
  after view = k
  after chart = k
  after (mark b c) = k
  after (mark_own c) = k
  after help = k

abbrev pub course : Program
course = record { Context = Context; response = λ l k. response k (ask_of l); after = λ l k. after k (ask_of l) }
