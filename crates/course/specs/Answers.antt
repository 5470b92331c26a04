-- What `course` writes for a move or a turn, for a class, for a mark, and for `help`.
-- Assumes nothing.
use Rattle.std.specs.Prelude.{ℕ, List, [], ◌∷◌, ◌++◌, replicate}
use Rattle.command.specs.Printing.{text, decimal, hundredths, hex, line_feed}
use Rattle.mark.specs.Mark.{Marked}
use Rattle.state.specs.declared.Session.{Session}
use Rattle.reference.specs.Lists.{if_zero}
use Rattle.reference.specs.Start.{Config}
use Rattle.reference.specs.Step.{Move}
use Rattle.reference.specs.Touch.{Touch}
use Rattle.reference.specs.Picture.{picture}
use Rattle.reference.specs.Script.{turn_cause, turn_after}
use Rattle.reference.specs.Session.{state_of}
use Rattle.session.specs.Contract.{config_of, standing}
use Rattle.turns.specs.Contract.{class_refusal}
use Rattle.view.specs.Words.{touch_text}
use Rattle.shell.specs.Answers.{number}

-- ---- a line with the number of a move or a turn; accepted, it names the words that were touched

unfoldable pub move_text : ℕ → Touch → List ℕ
move_text n t = decimal n ++ (if_zero n (touch_text t) [] ++ line_feed)

-- ---- a class of the processors ps: for each turn a line with its number and a line with the picture after it

-- from the configuration c with the scripts x, where the moves ms stand already
unfoldable pub class_lines : Config → List ℕ → List Move → List ℕ → List ℕ
class_lines c x ms [] = []
class_lines c x ms (p ∷ ps) =
    number (turn_cause c x ms p) ++ (hex (picture (state_of c (turn_after c x ms p))) ++ line_feed) ++ class_lines c x (turn_after c x ms p) ps

-- a buffer of n bytes before it is used
unfoldable pub zeros : ℕ → List ℕ
zeros n = replicate n 0

-- there is room for 1024 turns; were the class refused, its number
unfoldable pub class_text : Session → List ℕ → List ℕ → List ℕ → List ℕ
class_text r j x ps =
    if_zero (class_refusal r j x ps (zeros 1024) (zeros 303104)) (class_lines (config_of r) x (standing r j) ps)
    (number (class_refusal r j x ps (zeros 1024) (zeros 303104)))

-- ---- a line with a mark, or with the refusal

unfoldable pub mark_text : Marked → List ℕ
mark_text a = if_zero a.refusal (hundredths a.mark ++ line_feed) (number a.refusal)

-- ---- help

abbrev pub help_text : List ℕ
help_text =
    text "start P T M B    begin a session: processors, threads, mutexes, threads created at first\n" ++
    text "start P T M B S  the same with the choice of ready queues: 0 a single one, 1 one for each processor\n" ++
    text "move p a o       processor p: 0 go, 1 lock, 2 trylock, 3 unlock mutex o, 4 yield, 5 exit, 6 create thread o\n" ++
    text "                 accepted, a move or a turn names the words that it read and wrote\n" ++
    text "goto k           go to step k, back or forward: so many of the moves kept stand then\n" ++
    text "show             the picture in hexadecimal\n" ++
    text "script k a o ..  the script of thread k: up to 6 calls, each an action and an operand\n" ++
    text "turn p           a turn of processor p, by its thread's script\n" ++
    text "turns p p ..     turns one after the other: for each its number, then the picture\n" ++
    text "view             the state as a table, r and w behind the words that the last move read and wrote\n" ++
    text "chart            the moves that stand, a column for each processor\n" ++
    text "mark HEX HEX     the mark of a picture: the machine's, then the candidate's\n" ++
    text "mark HEX         the mark of a candidate's picture against the session's\n" ++
    text "help             these lines\n" ++
    text "\n"
