-- How a line of the program `course` is read, piece by piece. CourseGrammar says what comes of it.
use Rattle.std.specs.Prelude.{ℕ, zero, suc, ◌%◌, ◌≤◌, ◌≡◌, cond, Option, Some, None, IfSome, option_map, option_and_then, unwrap_or, List, [], ◌∷◌, ◌++◌, eqb, ltb, length, drop}
use Rattle.command.specs.declared.Command.TheVariants.{Unknown}
use Rattle.command.specs.declared.request.Request.{Request}
use Rattle.command.specs.Request.{Ask, plain, script, turn, turns, view, chart, mark, mark_own, help, script_word, turn_word, turns_word, view_word, chart_word, mark_word, help_word, asked, count_in, over}
use Rattle.command.specs.Model.Hex.{hex_bytes, bytes_of}
use Rattle.command.specs.Model.Reading.{ended, after, read_field, is_word, or_else, command_of}

-- what a line asks, if it is read, and the numbers at the front of a buffer
pub record Asks (result : Option Request) (numbers numbers' : List ℕ) (ask : Option Ask) (front : List ℕ) : Type 0 where
  pub read : option_map (λ r. asked r numbers') result ≡ ask
  pub buffer : numbers' ≡ over numbers front
  pub few : IfSome result (λ r. count_in r ≤ 1024)

-- a number before others
abbrev pub before : Option (ℕ × List ℕ) → List ℕ
before None = []
before (Some x) = x.0 ∷ x.1

-- the fields at the front of some bytes, at most so many: their numbers, and what is left behind them
unfoldable pub values : ℕ → List ℕ → List ℕ
values zero l = []
values (suc n) l = before (option_map (λ f. (f.0, values n f.1)) (read_field l))

unfoldable pub left : ℕ → List ℕ → List ℕ
left zero l = l
left (suc n) l = unwrap_or (option_map (λ f. left n f.1) (read_field l)) l

-- how many there are up to the end
unfoldable pub listed : List ℕ → Option ℕ
listed l = cond (ended (left 1024 l)) (Some (length (values 1024 l))) None

-- behind `script`
unfoldable pub calls_in : List ℕ → List ℕ
calls_in l = unwrap_or (option_map (λ k. values 1024 k.1) (read_field l)) []

unfoldable pub script_line : List ℕ → Option Ask
script_line l = option_and_then (λ k. option_and_then (λ n. cond (eqb (n % 2) 0) (Some (script k.0 (values 1024 k.1))) None) (listed k.1)) (read_field l)

-- behind `turns`
unfoldable pub turns_line : List ℕ → Option Ask
turns_line l = option_and_then (λ n. cond (ltb 0 n) (Some (turns (values 1024 l))) None) (listed l)

-- behind `turn`
unfoldable pub turn_line : List ℕ → Option Ask
turn_line l = option_and_then (λ p. cond (ended p.1) (Some (turn p.0)) None) (read_field l)

-- behind `mark`
unfoldable pub mark_front : List ℕ → List ℕ
mark_front l = unwrap_or (option_map (λ b. b.0 ++ bytes_of (hex_bytes b.1)) (hex_bytes l)) (bytes_of (hex_bytes (drop 1 l)))

unfoldable pub mark_line : List ℕ → Option Ask
mark_line l =
    option_and_then (λ b. cond (ended b.1) (Some (mark_own b.0)) (option_and_then (λ c. cond (ended c.1) (Some (mark b.0 c.0)) None) (hex_bytes b.1))) (hex_bytes l)

-- a line without a list of numbers
unfoldable pub short_line : List ℕ → Option Ask
short_line l =
    or_else (after turn_word l) turn_line
    (cond (is_word view_word l) (Some view) (cond (is_word chart_word l) (Some chart) (cond (is_word help_word l) (Some help) (Some (plain (command_of l))))))

-- any line that is not too long, and the numbers that reading it leaves at the buffer's front
unfoldable pub read_ask : List ℕ → Option Ask
read_ask l = or_else (after script_word l) script_line (or_else (after turns_word l) turns_line (or_else (after mark_word l) mark_line (short_line l)))

unfoldable pub front : List ℕ → List ℕ
front l = or_else (after script_word l) calls_in (or_else (after turns_word l) (values 1024) (or_else (after mark_word l) mark_front []))

abbrev pub unknown : Ask
unknown = plain Unknown

-- what a line asks
unfoldable pub ask_of : List ℕ → Ask
ask_of l = cond (ltb 2048 (length l)) unknown (unwrap_or (read_ask l) unknown)

unfoldable pub front_of : List ℕ → List ℕ
front_of l = cond (ltb 2048 (length l)) [] (front l)

-- the two with a buffer of so many bytes: under 1024 nothing is read
abbrev pub ask_in : ℕ → List ℕ → Ask
ask_in room l = cond (ltb room 1024) unknown (ask_of l)

abbrev pub front_in : ℕ → List ℕ → List ℕ
front_in room l = cond (ltb room 1024) [] (front_of l)
