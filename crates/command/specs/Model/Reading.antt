-- How a line is read, piece by piece. Grammar says what comes of it.
use Rattle.std.specs.Prelude.{ℕ, ◌+◌, ◌*◌, ◌-◌, Bool, ◌&&◌, cond, Option, Some, None, option_map, option_and_then, unwrap_or, List, eqb, leb, length, get_or, take, drop}
use Rattle.std.specs.Str.{bytes_eq}
use Rattle.std.specs.Borrow.{Bor}
use Rattle.command.specs.declared.Command.{Command}
use Rattle.command.specs.declared.Command.TheVariants.{Start, StartWith, Move, Goto, Show, Unknown}
use Rattle.command.specs.Command.{start_word, move_word, goto_word, show_word}

-- what a reader answers: the bytes that it leaves, and something before them
abbrev pub shown_rest : Option (Bor (List ℕ)) → Option (List ℕ)
shown_rest = option_map (λ s. s.now)

abbrev pub shown : Option (ℕ × Bor (List ℕ)) → Option (ℕ × List ℕ)
shown = option_map (λ x. (x.0, x.1.now))

abbrev pub ended : List ℕ → Bool
ended l = eqb (length l) 0

-- the bytes behind a word
unfoldable pub after : List ℕ → List ℕ → Option (List ℕ)
after w l = cond (bytes_eq (take (length w) l) w) (Some (drop (length w) l)) None

abbrev pub is_digit : ℕ → Bool
is_digit b = leb 48 b && leb b 57

-- a number with one more digit
abbrev pub longer : ℕ → ℕ → ℕ
longer n b = 10 * n + (b - 48)

-- the number that starts with these bytes, and how many it takes
unfoldable pub number_of : ℕ → ℕ → ℕ → ℕ → ℕ → Option (ℕ × ℕ)
number_of space a b c d =
    cond (eqb space 32 && is_digit a)
    (cond (is_digit b)
    (cond (eqb a 48) None
    (cond (is_digit c)
    (cond (is_digit d) (Some (longer (longer (longer (a - 48) b) c) d, 5)) (Some (longer (longer (a - 48) b) c, 4)))
    (Some (longer (a - 48) b, 3))))
    (Some (a - 48, 2)))
    None

-- a number that is at most so large, and the bytes behind it
unfoldable pub read_number : ℕ → List ℕ → Option (ℕ × List ℕ)
read_number most l =
    option_and_then (λ n. cond (leb n.0 most) (Some (n.0, drop n.1 l)) None) (number_of (get_or l 0 0) (get_or l 1 0) (get_or l 2 0) (get_or l 3 0) (get_or l 4 0))

-- a number that is a byte
unfoldable pub read_field : List ℕ → Option (ℕ × List ℕ)
read_field = read_number 255

-- four numbers, or these and a fifth
unfoldable pub start_line : List ℕ → Option Command
start_line l =
    option_and_then (λ p. option_and_then (λ t. option_and_then (λ m. option_and_then (λ b.
    cond (ended b.1) (Some (Start p.0 t.0 m.0 b.0))
    (option_and_then (λ c. cond (ended c.1) (Some (StartWith p.0 t.0 m.0 b.0 c.0)) None) (read_field b.1)))
    (read_field m.1)) (read_field t.1)) (read_field p.1)) (read_field l)

unfoldable pub move_line : List ℕ → Option Command
move_line l =
    option_and_then (λ p. option_and_then (λ a. option_and_then (λ o. cond (ended o.1) (Some (Move p.0 a.0 o.0)) None) (read_field a.1)) (read_field p.1)) (read_field l)

unfoldable pub goto_line : List ℕ → Option Command
goto_line l = option_and_then (λ k. cond (ended k.1) (Some (Goto k.0)) None) (read_number 4000 l)

-- a line that is the word
abbrev pub is_word : List ℕ → List ℕ → Bool
is_word w l = bytes_eq l w

-- what is behind a word read on, and something else where the word is not there
abbrev pub or_else : {A B : Type 0} → Option A → (A → B) → B → B
or_else None f y = y
or_else (Some x) f y = f x

unfoldable pub read_command : List ℕ → Option Command
read_command l =
    or_else (after start_word l) start_line
    (or_else (after move_word l) move_line (or_else (after goto_word l) goto_line (cond (is_word show_word l) (Some Show) None)))

-- the command that a line is
unfoldable pub command_of : List ℕ → Command
command_of l = unwrap_or (read_command l) Unknown
