-- `turns::made::make_turn` meets its contract.
-- Assumes nothing.
use mathlib.Core.Path.{◌∙◌}
use Rattle.std.proofs.lemmas.Result.{err_from_is_err_and}
use Rattle.state.specs.Refusal.{outcome}
use Rattle.script.specs.Association.{move_in}
use Rattle.turns.proofs.Turned.{turn_refused, turn_accepted}
use Rattle.turns.proofs.made.make_turn.Goals as goal

pub returns-in_err-after : goal.returns-in_err-after
unfolding outcome
returns-in_err-after c =
    let t = err_from_is_err_and c.from_residual.result c.from_residual.ensures.1 in
    let a = c.args in
    rw (t.1, t.2)
    (turn_refused a.state.now a.calls.now a.journal.now a.scripts.now a.p (move_in c.turn_move-a.result) (c.turn_move-a.ensures ∙ rw c.processor-r.ensures)
    c.in_err-after.field-0.0 c.in_err-after.ensures)

pub returns : goal.returns
unfolding outcome
returns c =
    let a = c.args in
    rw (c.note_move.ensures, c.processor-r.ensures, c.keep_move.ensures)
    (turn_accepted a.state.now a.calls.now a.journal.now a.scripts.now a.p (move_in c.turn_move-a.result) (c.turn_move-a.ensures ∙ rw c.processor-r.ensures)
    c.in_ok-after.after c.in_ok-after.ensures)
