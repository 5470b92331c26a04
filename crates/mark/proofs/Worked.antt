-- Document 02's printed example and its neighbours, by computation.
-- Assumes nothing.
use mathlib.Core.Path.{refl}
use Rattle.picture.specs.Picture.{fields, zero_bytes_ok, read_refusal}
use Rattle.state.specs.Record.{chain}
use Rattle.state.specs.Rules.{every, no_twice, processor_ok, mutex_ok, thread_ok, fields_ok, chain_ok, chains_ok, holders_ok, broken_rule}
use Rattle.reference.specs.Lists.{tabulate, sum, is, each}
use Rattle.reference.specs.State.{line_of}
use Rattle.mark.specs.Mark.{rows, all_rows, rows_of, agrees, earned, possible, mark, mark_refusal, marked, answer}
use Rattle.mark.specs.Worked.{Example}

pub example : Example
unfolding answer marked mark_refusal mark possible earned agrees rows_of all_rows rows read_refusal broken_rule holders_ok chains_ok chain_ok fields_ok thread_ok mutex_ok processor_ok no_twice every chain zero_bytes_ok fields tabulate sum is each line_of
example = record { printed = refl; apart = refl; right = refl; header_free = refl; nothing = refl; shorter = refl; longer = refl; machine_first = refl }
