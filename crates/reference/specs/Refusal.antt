-- The refusals: each number under one name, and the rule that the first cause of a row decides. 0 is no cause.
-- Assumes nothing.
use Rattle.std.specs.Prelude.{ℕ, Bool, true, false}

-- a configuration with a number out of its range
abbrev pub bad_config : ℕ
bad_config = 1

-- a processor that there is not
abbrev pub no_processor : ℕ
no_processor = 2

-- an action that there is not, or an operand that does not fit it
abbrev pub bad_operand : ℕ
bad_operand = 3

-- a call while one is being executed
abbrev pub call_away : ℕ
call_away = 4

-- a go while none is
abbrev pub go_at_app : ℕ
go_at_app = 5

-- an unlock of another's mutex, or of nobody's
abbrev pub not_owner : ℕ
not_owner = 6

-- a create of a thread that is not new
abbrev pub not_new : ℕ
not_new = 7

-- no room for another move
abbrev pub full : ℕ
full = 8

-- a step that is not kept
abbrev pub no_step : ℕ
no_step = 9

-- a journal or another buffer without enough room
abbrev pub too_short : ℕ
too_short = 10

-- a picture of another length than its header asks for
abbrev pub bad_length : ℕ
bad_length = 11

-- a picture with a field out of its range, or nonzero where it has to be zero
abbrev pub bad_field : ℕ
bad_field = 12

-- a picture whose chains are not its queues
abbrev pub bad_chain : ℕ
bad_chain = 13

-- a picture whose processors and threads disagree on who holds whom
abbrev pub bad_holder : ℕ
bad_holder = 14

-- a record that is not valid, or that the step would make invalid
abbrev pub bad_record : ℕ
bad_record = 15

-- a journal whose moves do not lead to the record
abbrev pub bad_journal : ℕ
bad_journal = 16

-- scripts that are too short or hold what is no call
abbrev pub bad_script : ℕ
bad_script = 19

-- an exit by the owner of a mutex
abbrev pub still_owner : ℕ
still_owner = 21

-- `n` where its cause is there, else what the rest of the row says
abbrev pub refuse : Bool → ℕ → ℕ → ℕ
refuse true n later = n
refuse false n later = later
