-- `session::front` meets its contract.
-- Assumes nothing.
use mathlib.Core.Path.{sym}
use lib.Seq.{length-take-le}
use Rattle.std.proofs.lemmas.Result.{err_from_is_err_and}
use Rattle.state.specs.Refusal.{outcome}
use Rattle.state.proofs.Sized.{session_sized}
use Rattle.session.specs.Contract.{front_of}
use Rattle.session.proofs.Answers.{front_none, front_room}
use Rattle.session.proofs.front.Goals as goal

pub returns-in_err-lent-clause-bytes : goal.returns-in_err-lent-clause-bytes
unfolding outcome front_of
returns-in_err-lent-clause-bytes c =
    let t = err_from_is_err_and c.from_residual.result c.from_residual.ensures.1 in
    rw t.1 (front_none c.args.session c.args.journal.now _ c.in_err-lent.ensures)

pub slice_bounds-result-end : goal.slice_bounds-result-end
unfolding outcome
slice_bounds-result-end c =
    sym (length-take-le _ _ (front_room c.args.session c.args.journal.now (session_sized c.well_formed.0) (sym c.in_ok-lent.ensures)))
