-- Texts, numbers and bytes as text, a buffer that text is added to, and a page, which lends one.
use Rattle.std.specs.Prelude.{ℕ, ◌+◌, ◌-◌, ◌/◌, ◌%◌, min, cond, List, [], ◌∷◌, ◌++◌, ltb, length, replicate}
use Prim.Native.Char.{code}
use Prim.Native.String.{String, [] as no_char, ◌∷◌ as ◌then◌}
use Rattle.std.proofs.Math.Seq.{paste}
use Rattle.command.specs.declared.printing.Page.{Page}

-- a text as bytes, each the code of its character
unfoldable pub text : String → List ℕ
text no_char = []
text (c then s) = code c ∷ text s

-- the decimal digits of a number below 1,000, without leading zeros; 48 is the digit 0
unfoldable pub decimal : ℕ → List ℕ
decimal n =
    cond (ltb n 10) ((48 + n) ∷ [])
    (cond (ltb n 100) ((48 + n / 10) ∷ (48 + n % 10) ∷ [])
    ((48 + n / 100) ∷ (48 + n / 10 % 10) ∷ (48 + n % 10) ∷ []))

-- and of one below 1,000,000
unfoldable pub wide : ℕ → List ℕ
wide n =
    cond (ltb n 1000) (decimal n)
    (decimal (n / 1000) ++ ((48 + n / 100 % 10) ∷ (48 + n / 10 % 10) ∷ (48 + n % 10) ∷ []))

-- a number of hundredths below 100,000, with a point and two digits behind it: 8,823 is 88.23
unfoldable pub hundredths : ℕ → List ℕ
hundredths n = decimal (n / 100) ++ (46 ∷ (48 + n / 10 % 10) ∷ (48 + n % 10) ∷ [])

-- a lower-case hexadecimal digit: 0 to 9, then a to f
abbrev pub hex_digit : ℕ → ℕ
hex_digit d = cond (ltb d 10) (48 + d) (87 + d)

-- two digits a byte, unspaced
unfoldable pub hex : List ℕ → List ℕ
hex [] = []
hex (b ∷ l) = hex_digit (b / 16) ∷ hex_digit (b % 16) ∷ hex l

abbrev pub line_feed : List ℕ
line_feed = 10 ∷ []

-- n spaces
abbrev pub spaces : ℕ → List ℕ
spaces n = replicate n 32

-- a text and spaces up to the width; a longer one as it is
unfoldable pub padded : ℕ → List ℕ → List ℕ
padded width x = x ++ spaces (width - length x)

-- ---- a buffer, and how many of its bytes count

pub record Buffer : Type 0 where
  pub bytes : List ℕ
  pub len : ℕ

abbrev pub buffer_of : List ℕ → ℕ → Buffer
buffer_of b n = record { bytes = b; len = n }

-- how many of n bytes fit behind those that count
abbrev pub fitting : Buffer → ℕ → ℕ
fitting p n = min n (length p.bytes - p.len)

-- text put behind what counts: as much of it as fits
unfoldable pub add : Buffer → List ℕ → Buffer
add p x = record { bytes = paste p.bytes p.len x (fitting p (length x)); len = p.len + fitting p (length x) }

-- ---- a page

-- a page with a text put on it: its bytes, which the same owner lent, as the buffer of them that the text is added to
unfoldable pub written : Page → List ℕ → Page
written p x = record p { bytes = record p.bytes { now = (add (buffer_of p.bytes.now p.len) x).bytes }; len = (add (buffer_of p.bytes.now p.len) x).len }
