-- What a line of the program `course` asks, and how it is written, in bytes. CourseGrammar says that exactly these lines are commands there.
-- Assumes nothing.
use Rattle.std.specs.Prelude.{ℕ, ◌+◌, ◌≤◌, ◌<◌, ◌%◌, List, [], ◌∷◌, ◌++◌, ◌≡◌, length, take, drop}
use Rattle.command.specs.declared.Command.{Command}
use Rattle.command.specs.declared.request.Request.{Request}
use Rattle.command.specs.declared.request.Request.TheVariants.{Plain, Script, Turn, Turns, View, Chart, Mark, MarkOwn, Help}
use Rattle.command.specs.Printing.{hex}
use Rattle.command.specs.Command.{field, spell, Known}

-- a line of the stepper's; a thread and the numbers of its calls; a turn of a processor, or of one after the other; a word; two pictures to be marked, the
-- machine's and the candidate's, or the candidate's alone
pub data Ask : Type 0 where
  plain : Command → Ask
  script : ℕ → List ℕ → Ask
  turn : ℕ → Ask
  turns : List ℕ → Ask
  view : Ask
  chart : Ask
  mark : List ℕ → List ℕ → Ask
  mark_own : List ℕ → Ask
  help : Ask

-- ---- how it is written

-- `script`, `turn`, `turns`, `view`, `chart`, `mark`, `help`
abbrev pub script_word : List ℕ
script_word = 115 ∷ 99 ∷ 114 ∷ 105 ∷ 112 ∷ 116 ∷ []

abbrev pub turn_word : List ℕ
turn_word = 116 ∷ 117 ∷ 114 ∷ 110 ∷ []

abbrev pub turns_word : List ℕ
turns_word = 116 ∷ 117 ∷ 114 ∷ 110 ∷ 115 ∷ []

abbrev pub view_word : List ℕ
view_word = 118 ∷ 105 ∷ 101 ∷ 119 ∷ []

abbrev pub chart_word : List ℕ
chart_word = 99 ∷ 104 ∷ 97 ∷ 114 ∷ 116 ∷ []

abbrev pub mark_word : List ℕ
mark_word = 109 ∷ 97 ∷ 114 ∷ 107 ∷ []

abbrev pub help_word : List ℕ
help_word = 104 ∷ 101 ∷ 108 ∷ 112 ∷ []

-- numbers, each after a space
unfoldable pub fields : List ℕ → List ℕ
fields [] = []
fields (n ∷ ns) = field n ++ fields ns

-- bytes in hexadecimal digits, after a space
unfoldable pub hex_field : List ℕ → List ℕ
hex_field b = 32 ∷ hex b

-- the line that asks it
unfoldable pub spell_ask : Ask → List ℕ
spell_ask (plain c) = spell c
spell_ask (script k ns) = script_word ++ (field k ++ fields ns)
spell_ask (turn p) = turn_word ++ field p
spell_ask (turns ps) = turns_word ++ fields ps
spell_ask view = view_word
spell_ask chart = chart_word
spell_ask (mark b c) = mark_word ++ (hex_field b ++ hex_field c)
spell_ask (mark_own c) = mark_word ++ hex_field c
spell_ask help = help_word

-- ---- what a line can ask

-- each number is a byte
unfoldable pub Bytes : List ℕ → Type 0
Bytes [] = Unit {0}
Bytes (n ∷ ns) = (n ≤ 255) × Bytes ns

-- its numbers are bytes, a script's come in pairs, a class and a picture have one at least, and the line has at most 2,048 bytes
abbrev pub KnownAsk : Ask → Type 0
KnownAsk (plain c) = Known c
KnownAsk (script k ns) = (k ≤ 255) × Bytes ns × (length ns % 2 ≡ 0) × (length (spell_ask (script k ns)) ≤ 2048)
KnownAsk (turn p) = p ≤ 255
KnownAsk (turns ps) = Bytes ps × (0 < length ps) × (length (spell_ask (turns ps)) ≤ 2048)
KnownAsk view = Unit {0}
KnownAsk chart = Unit {0}
KnownAsk (mark b c) = (Bytes b × (0 < length b)) × (Bytes c × (0 < length c)) × (length (spell_ask (mark b c)) ≤ 2048)
KnownAsk (mark_own c) = Bytes c × (0 < length c) × (length (spell_ask (mark_own c)) ≤ 2048)
KnownAsk help = Unit {0}

-- ---- as the code returns it: a request, with a list of numbers at the front of a buffer

-- how many numbers the buffer has for it
abbrev pub count_in : Request → ℕ
count_in (Plain c) = 0
count_in (Script k n) = n
count_in (Turn p) = 0
count_in (Turns n) = n
count_in View = 0
count_in Chart = 0
count_in (Mark n m) = n + m
count_in (MarkOwn n) = n
count_in Help = 0

abbrev pub asked : Request → List ℕ → Ask
asked (Plain c) b = plain c
asked (Script k n) b = script k (take n b)
asked (Turn p) b = turn p
asked (Turns n) b = turns (take n b)
asked View b = view
asked Chart b = chart
asked (Mark n m) b = mark (take n b) (take m (drop n b))
asked (MarkOwn n) b = mark_own (take n b)
asked Help b = help

-- a buffer with these bytes at its front
abbrev pub over : List ℕ → List ℕ → List ℕ
over b x = x ++ drop (length x) b
