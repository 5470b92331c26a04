-- `turns::turn` meets its contract.
-- Assumes nothing.
use mathlib.Core.Path.{◌∙◌}
use Rattle.std.proofs.lemmas.Result.{err_from_is_err_and}
use Rattle.script.specs.Association.{move_in}
use Rattle.state.proofs.Sized.{session_sized}
use Rattle.state.specs.Refusal.{outcome}
use Rattle.turns.proofs.Answers.{turn_untested, turn_unscripted, turn_refused, turn_accepted}
use Rattle.turns.proofs.turn.Goals as goal

pub returns-in_err-counts : goal.returns-in_err-counts
unfolding outcome
returns-in_err-counts c =
    let t = err_from_is_err_and c.from_residual.result c.from_residual.ensures.1 in
    let a = c.args in
    let k = turn_untested a.session a.journal.now a.scripts.now a.p c.in_err-counts.field-0.0 c.in_err-counts.ensures in
    record { answer = rw (t.1, t.2) k.answer; written = k.journal }

pub returns-in_err-test_scripts : goal.returns-in_err-test_scripts
unfolding outcome
returns-in_err-test_scripts c =
    let t = err_from_is_err_and c.from_residual-in_err-test_scripts.result c.from_residual-in_err-test_scripts.ensures.1 in
    let a = c.args in
    let k = turn_unscripted a.session a.journal.now a.scripts.now a.p _ c.in_ok-counts.ensures c.in_err-test_scripts.field-0.0 c.in_err-test_scripts.ensures in
    record { answer = rw (t.1, t.2) k.answer; written = k.journal }

pub returns-in_err-made : goal.returns-in_err-made
unfolding outcome
returns-in_err-made c =
    let t = err_from_is_err_and c.from_residual-in_err-made.result c.from_residual-in_err-made.ensures.1 in
    let a = c.args in
    let k =
    turn_refused a.session a.journal.now a.scripts.now a.p _ c.in_ok-counts.ensures c.in_ok-test_scripts.ensures (session_sized c.well_formed.0) (move_in c.turn_move-a.result)
    (c.turn_move-a.ensures ∙ rw c.processor.ensures) c.in_err-made.field-0.0 c.in_err-made.ensures in
    record { answer = rw (t.1, t.2) k.answer; written = k.journal }

pub returns : goal.returns
unfolding outcome
returns c =
    let a = c.args in
    let k =
    turn_accepted a.session a.journal.now a.scripts.now a.p _ c.in_ok-counts.ensures c.in_ok-test_scripts.ensures (session_sized c.well_formed.0) (move_in c.turn_move-a.result)
    (c.turn_move-a.ensures ∙ rw c.processor.ensures) c.in_ok-made.made c.in_ok-made.ensures in
    record { answer = rw c.continued.ensures k.0; written = c.keep_move.ensures ∙ k.1 }
