-- Answers of one number, as the inner functions' contracts state them.
-- Assumes nothing.
use Rattle.std.specs.Prelude.{ℕ, ◌+◌, Result, Ok, Err}
use Rattle.state.specs.declared.refusal.Refusal.{Refusal}
use Rattle.state.specs.Refusal.{number}

-- a value as it is, 200 and the number of a refusal
unfoldable pub small_number : Result ℕ Refusal → ℕ
small_number (Ok n) = n
small_number (Err refusal) = 200 + number refusal
