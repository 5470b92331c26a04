-- The reading of lines (`Next`, which input::next_line ensures), and of any program that answers line by line: what it does from its first read to its end
-- (`Run`), and what its output is, line by line (`Transcript`, proved in proofs/Transcript.antt).
-- Assumes nothing. What no contract can say stays with the kit's read and write: that the bytes which a read puts into its buffer are the next of standard
-- input, that those which write is handed are the next of standard output, and that io::write_all answers false where a write fails.
use Rattle.std.specs.Prelude.{ℕ, ◌+◌, ◌-◌, ◌≤◌, ◌<◌, Bool, true, false, not, ◌||◌, cond, ◌⊎◌, ◌≡◌, List, [], ◌∷◌, ◌++◌, eqb, ltb, length, take, drop}
use Rattle.command.specs.declared.line.Line.{Line}
use Rattle.command.specs.declared.input.Input.{Input}
use Rattle.command.specs.declared.input.NextLine.{NextLine}

-- ---- a line; 10 is a line feed

-- no line feed in it
abbrev pub Unbroken : List ℕ → Type 0
Unbroken [] = Unit {0}
Unbroken (b ∷ l) = (b ≡ 10 → ⊥) × Unbroken l

-- with the line feed that ended it, unless the input ended instead
abbrev pub whole_line : Bool → List ℕ → List ℕ
whole_line ended l = cond ended l (l ++ (10 ∷ []))

-- a line counts if a line feed ended it or it has a byte
abbrev pub counts : Bool → List ℕ → Bool
counts ended l = not ended || ltb 0 (length l)

-- a buffer, `bytes` before, begins with as much of a line as it has room for; `long` says that there was more
pub record Held (l bytes : List ℕ) (line : Line) (bytes' : List ℕ) : Type 0 where
  pub len : line.len ≡ length (take (length bytes) l)
  pub all : bytes' ≡ take (length bytes) l ++ drop line.len bytes
  pub long : line.long ≡ ltb (length bytes) (length l)

-- ---- reads

-- what is left of the last read
abbrev pub left_of : Input → List ℕ → List ℕ
left_of i chunk = take (i.end - i.at) (drop i.at chunk)

-- reads, one after the other: how many, all that they brought, and what the last one brought; `before`: what the one before them brought
pub data Reads (before : List ℕ) : ℕ → List ℕ → List ℕ → Type 0 where
  no_read : Reads before 0 [] before
  one_more_read : (n : ℕ) (all last piece : List ℕ) → Reads before n all last → Reads before (n + 1) (all ++ piece) piece

-- the line l is consumed: what was left of the chunk, and what was read then, is the line and what is left now
pub record Consumed (l : List ℕ) (input : Input) (chunk : List ℕ) (input' : Input) (chunk' : List ℕ) (ended : Bool) : Type 0 where
  pub count : ℕ
  pub brought : List ℕ
  pub reads : Reads (take input.end chunk) count brought (take input'.end chunk')
  pub unbroken : Unbroken l
  pub cut : left_of input chunk ++ brought ≡ whole_line ended l ++ left_of input' chunk'
  -- without a read the chunk stays as it is;
  pub untouched : count ≡ 0 → chunk' ≡ chunk
  -- at the input's end nothing is left,
  pub none_left : ended ≡ true → left_of input' chunk' ≡ []
  -- and it is there where a read brings nothing; no line takes 2 ^ 64 - 1 reads
  pub stop : ended ≡ true → ((0 < count) × (take input'.end chunk' ≡ [])) ⊎ (count ≡ 18446744073709551615)

-- the next line, in a buffer
pub record Next (input : Input) (chunk bytes : List ℕ) (r : NextLine) (chunk' bytes' : List ℕ) : Type 0 where
  pub line : List ℕ
  pub consumed : Consumed line input chunk r.input chunk' r.ended
  pub held : Held line bytes r.line bytes'
  pub some : r.counts ≡ counts r.ended line

-- ---- a program

-- what it holds; the text that it writes for a line; what the line leaves
pub record Program : Type 1 where
  pub Context : Type 0
  pub response : List ℕ → Context → List ℕ
  pub after : List ℕ → Context → Context

-- a line's text, and what it leaves, if it counts
abbrev pub text_for : (p : Program) → Bool → List ℕ → p.Context → List ℕ
text_for p ended l k = cond (counts ended l) (p.response l k) []

abbrev pub left_by : (p : Program) → Bool → List ℕ → p.Context → p.Context
left_by p ended l k = cond (counts ended l) (p.after l k) k

-- the output for an input; `seen`: the bytes of the line so far
unfoldable pub output_from : (p : Program) → List ℕ → List ℕ → p.Context → List ℕ
output_from p seen [] k = text_for p true seen k
output_from p seen (b ∷ l) k = cond (eqb b 10) (p.response seen k ++ output_from p [] l (p.after seen k)) (output_from p (seen ++ (b ∷ [])) l k)

unfoldable pub output : (p : Program) → List ℕ → p.Context → List ℕ
output p l k = output_from p [] l k

pub record Transcript (p : Program) : Type 0 where
  -- the output for a line and more is the line's text, and the output for the rest from what the line leaves;
  pub line : (l m : List ℕ) (k : p.Context) → Unbroken l → output p (l ++ (10 ∷ m)) k ≡ p.response l k ++ output p m (p.after l k)
  -- a last line without a line feed counts, if it has a byte
  pub last : (b : ℕ) (l : List ℕ) (k : p.Context) → Unbroken (b ∷ l) → output p (b ∷ l) k ≡ p.response (b ∷ l) k
  pub none : (k : p.Context) → output p [] k ≡ []

-- ---- a run

-- one line: it is consumed, `text` is handed to write, and k becomes k'
pub record Turn (p : Program) (input : Input) (chunk : List ℕ) (k : p.Context) (input' : Input) (chunk' : List ℕ) (k' : p.Context) (text : List ℕ) (ended : Bool) : Type 0 where
  pub line : List ℕ
  pub consumed : Consumed line input chunk input' chunk' ended
  pub all : text ≡ text_for p ended line k
  pub context : k' ≡ left_by p ended line k

-- lines, one after the other, each from what the one before left: how many, their bytes, their texts, what they leave, whether the input ended with the last
-- one, and whether its text was written (`ok`, which io::write_all answers)
pub data Lines (p : Program) (first : p.Context) : ℕ → List ℕ → List ℕ → p.Context → Bool → Bool → Type 0 where
  no_line : Lines p first 0 [] [] first false true
  one_more_line : (n : ℕ) (consumed texts l : List ℕ) (k : p.Context) (ended ok : Bool) → Lines p first n consumed texts k false true → Unbroken l
      → Lines p first (n + 1) (consumed ++ whole_line ended l) (texts ++ text_for p ended l k) (left_by p ended l k) ended ok

-- a whole run
pub record Run (p : Program) (first : p.Context) : Type 0 where
  -- what the reads brought
  pub reads : ℕ
  pub input : List ℕ
  pub last : List ℕ
  pub brought : Reads [] reads input last
  -- the lines of it that were answered
  pub count : ℕ
  pub consumed : List ℕ
  pub texts : List ℕ
  pub context : p.Context
  pub ended : Bool
  pub ok : Bool
  pub lines : Lines p first count consumed texts context ended ok
  pub unread : List ℕ
  pub cut : input ≡ consumed ++ unread
  -- a read brought nothing, and all before it was answered; or a text was not written; no run has 2 ^ 64 - 1 lines or reads
  pub stop : ((0 < reads) × (last ≡ []) × (unread ≡ [])) ⊎ ((ok ≡ false) ⊎ (18446744073709551615 ≤ count + reads))
  -- the texts are the output for what was answered
  pub all : texts ≡ output p consumed first
