-- The numbers by which requests are refused, and that of an answer; 0 is no refusal.
-- Assumes nothing.
use Rattle.std.specs.Prelude.{ℕ, Result, Ok, Err}
use Rattle.state.specs.declared.refusal.Refusal.{Refusal}
use Rattle.state.specs.declared.refusal.Refusal.TheVariants as case
use Rattle.reference.specs.Refusal.{
  bad_config,
  no_processor,
  bad_operand,
  call_away,
  go_at_app,
  not_owner,
  not_new,
  full,
  no_step,
  too_short,
  bad_length,
  bad_field,
  bad_chain,
  bad_holder,
  bad_record,
  bad_journal,
  bad_script,
  still_owner,
}

unfoldable pub number : Refusal → ℕ
number case.BadConfig = bad_config
number case.NoProcessor = no_processor
number case.BadOperand = bad_operand
number case.CallAway = call_away
number case.GoAtApp = go_at_app
number case.NotOwner = not_owner
number case.NotNew = not_new
number case.Full = full
number case.NoStep = no_step
number case.TooShort = too_short
number case.BadLength = bad_length
number case.BadField = bad_field
number case.BadChain = bad_chain
number case.BadHolder = bad_holder
number case.BadRecord = bad_record
number case.BadJournal = bad_journal
number case.BadScript = bad_script
number case.StillOwner = still_owner

unfoldable pub outcome : {A : Type 0} → Result A Refusal → ℕ
outcome (Ok _) = 0
outcome (Err refusal) = number refusal
