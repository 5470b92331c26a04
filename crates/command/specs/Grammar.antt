-- Which command a line is, of any reader of lines: `command_of` has it (proofs/Grammar.antt), which command::reading::command_of computes, and all readers
-- that have it agree.
-- Assumes nothing.
use Rattle.std.specs.Prelude.{ℕ, ◌≤◌, ◌<◌, List, ◌≡◌, length}
use Rattle.command.specs.declared.Command.{Command}
use Rattle.command.specs.declared.Command.TheVariants.{Unknown}
use Rattle.command.specs.Command.{spell, Known}
use Rattle.command.specs.Request.{Ask, plain, spell_ask, KnownAsk}

pub record Grammar (read : List ℕ → Command) : Type 0 where
  -- a line is read as a command exactly where it is that command's spelling,
  pub exactly : (l : List ℕ) (c : Command) → Known c → (read l ≡ c → l ≡ spell c) × (l ≡ spell c → read l ≡ c)
  -- and any other line as Unknown: what is read is Unknown or such a command;
  pub known : (l : List ℕ) → (read l ≡ Unknown → ⊥) → Known (read l)
  -- no two commands are spelled the same;
  pub once : (c d : Command) → Known c → Known d → spell c ≡ spell d → c ≡ d
  -- no spelling has more than 25 bytes, and a line of more than 64 is Unknown
  pub short : (c : Command) → length (spell c) ≤ 25
  pub long : (l : List ℕ) → 64 < length l → read l ≡ Unknown

-- What a line asks the program `course`, of any reader of lines there: `ask_of` has it, which command::request::request_of computes.
pub record CourseGrammar (read : List ℕ → Ask) : Type 0 where
  -- a line is read as an ask exactly where it is that ask's spelling,
  pub exactly : (l : List ℕ) (a : Ask) → KnownAsk a → (read l ≡ a → l ≡ spell_ask a) × (l ≡ spell_ask a → read l ≡ a)
  -- and any other line as Unknown;
  pub known : (l : List ℕ) → (read l ≡ plain Unknown → ⊥) → KnownAsk (read l)
  -- no two are spelled the same;
  pub once : (a b : Ask) → KnownAsk a → KnownAsk b → spell_ask a ≡ spell_ask b → a ≡ b
  -- a line of more than 2,048 bytes is Unknown;
  pub long : (l : List ℕ) → 2048 < length l → read l ≡ plain Unknown
  -- the stepper's lines are read as in the stepper
  pub stepper : (f : List ℕ → Command) → Grammar f → (l : List ℕ) → (f l ≡ Unknown → ⊥) → read l ≡ plain (f l)
