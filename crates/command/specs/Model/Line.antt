-- A line that is fed byte by byte into a buffer.
use Rattle.std.specs.Prelude.{ℕ, ◌+◌, true, false, cond, ltb}
use Rattle.command.specs.declared.line.Line.{Line}

abbrev pub empty_line : Line
empty_line = record { len = 0; long = false }

-- one byte more, in a buffer of n bytes
abbrev pub fed : Line → ℕ → Line
fed line n = cond (ltb line.len n) (record { len = line.len + 1; long = line.long }) (record { len = line.len; long = true })
