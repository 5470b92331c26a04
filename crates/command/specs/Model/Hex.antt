-- How bytes in hexadecimal digits are read.
use Rattle.std.specs.Prelude.{ℕ, ◌+◌, ◌-◌, ◌*◌, ◌&&◌, cond, Option, Some, None, option_map, option_and_then, List, [], ◌∷◌, eqb, leb, length, drop}
use Rattle.command.specs.Model.Reading.{after}

-- what a lower-case digit is worth
unfoldable pub hex_worth : ℕ → Option ℕ
hex_worth b = cond (leb 48 b && leb b 57) (Some (b - 48)) (cond (leb 97 b && leb b 102) (Some (b - 97 + 10)) None)

-- a byte before others, if both its digits are digits
abbrev pub paired : Option ℕ → Option ℕ → List ℕ → List ℕ
paired None y l = []
paired (Some x) None l = []
paired (Some x) (Some y) l = (16 * x + y) ∷ l

-- the bytes that pairs of digits at the front show
unfoldable pub pairs : List ℕ → List ℕ
pairs [] = []
pairs (a ∷ []) = []
pairs (a ∷ b ∷ l) = paired (hex_worth a) (hex_worth b) (pairs l)

-- bytes and what is behind them, if there is one
abbrev pub some_bytes : List ℕ → List ℕ → Option (List ℕ × List ℕ)
some_bytes p l = cond (eqb (length p) 0) None (Some (p, drop (2 * length p) l))

-- the same after a space
unfoldable pub hex_bytes : List ℕ → Option (List ℕ × List ℕ)
hex_bytes l = option_and_then (λ r. some_bytes (pairs r) r) (after (32 ∷ []) l)

-- the bytes, and how many
abbrev pub bytes_of : Option (List ℕ × List ℕ) → List ℕ
bytes_of None = []
bytes_of (Some x) = x.0

abbrev pub counted : Option (List ℕ × List ℕ) → Option (ℕ × List ℕ)
counted = option_map (λ x. (length x.0, x.1))
