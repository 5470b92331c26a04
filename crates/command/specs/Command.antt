-- How each of the program's commands is written, in bytes. Grammar says that exactly these lines are commands.
use Rattle.std.specs.Prelude.{ℕ, ◌≤◌, List, [], ◌∷◌, ◌++◌}
use Rattle.command.specs.declared.Command.{Command}
use Rattle.command.specs.declared.Command.TheVariants.{Start, StartWith, Move, Goto, Show, Unknown}
use Rattle.command.specs.Printing.{decimal, wide}

-- `start`, `move`, `goto`, `show`
abbrev pub start_word : List ℕ
start_word = 115 ∷ 116 ∷ 97 ∷ 114 ∷ 116 ∷ []

abbrev pub move_word : List ℕ
move_word = 109 ∷ 111 ∷ 118 ∷ 101 ∷ []

abbrev pub goto_word : List ℕ
goto_word = 103 ∷ 111 ∷ 116 ∷ 111 ∷ []

abbrev pub show_word : List ℕ
show_word = 115 ∷ 104 ∷ 111 ∷ 119 ∷ []

-- a space and a number
unfoldable pub field : ℕ → List ℕ
field n = 32 ∷ decimal n

-- the same of a number that may be above 999
unfoldable pub wide_field : ℕ → List ℕ
wide_field n = 32 ∷ wide n

-- the line that is the command; Unknown is none
unfoldable pub spell : Command → List ℕ
spell (Start p t m b) = start_word ++ (field p ++ (field t ++ (field m ++ field b)))
spell (StartWith p t m b c) = start_word ++ (field p ++ (field t ++ (field m ++ (field b ++ field c))))
spell (Move p a o) = move_word ++ (field p ++ (field a ++ field o))
spell (Goto k) = goto_word ++ wide_field k
spell Show = show_word
spell Unknown = []

-- a command, with its numbers bytes; the step of a goto alone is up to 4,000
abbrev pub Known : Command → Type 0
Known (Start p t m b) = (p ≤ 255) × (t ≤ 255) × (m ≤ 255) × (b ≤ 255)
Known (StartWith p t m b c) = (p ≤ 255) × (t ≤ 255) × (m ≤ 255) × (b ≤ 255) × (c ≤ 255)
Known (Move p a o) = (p ≤ 255) × (a ≤ 255) × (o ≤ 255)
Known (Goto k) = k ≤ 4000
Known Show = Unit {0}
Known Unknown = ⊥
