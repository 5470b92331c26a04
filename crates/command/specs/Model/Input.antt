-- What the inner functions of the reading of lines do.
use Rattle.std.specs.Prelude.{ℕ, true, not, ◌||◌, List, [], ◌++◌, ◌≡◌, ltb}
use Rattle.command.specs.declared.line.Line.{Line}
use Rattle.command.specs.declared.input.NextLine.{NextLine}
use Rattle.command.specs.Transcript.{Unbroken, whole_line, Held}

-- what was left up to a line feed is added to the line that the buffer held
pub record Scanned (left : List ℕ) (line : Line) (bytes : List ℕ) (r : NextLine) (left' bytes' : List ℕ) : Type 0 where
  pub part : List ℕ
  pub unbroken : Unbroken part
  pub cut : left ≡ whole_line r.ended part ++ left'
  pub none_left : r.ended ≡ true → left' ≡ []
  pub held : (seen before : List ℕ) → Held seen before line bytes → Held (seen ++ part) before r.line bytes'
  pub some : r.counts ≡ (not r.ended || (ltb 0 r.line.len || r.line.long))
