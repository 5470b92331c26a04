-- `turns::sequence::unfit` meets its contract.
-- Assumes nothing.
use mathlib.Core.Path.{sym}
use native.Mathlib.Omega.{arith}
use Rattle.std.proofs.lemmas.Result.{err_from_is_err_and}
use Rattle.state.specs.Refusal.{outcome, number}
use Rattle.turns.proofs.Answers.{refused_first, unfit_some, unfit_none}
use Rattle.turns.proofs.sequence.unfit.Goals as goal

pub returns-in_err-lent : goal.returns-in_err-lent
unfolding outcome
returns-in_err-lent c =
    let t = err_from_is_err_and c.from_residual.result c.from_residual.ensures.1 in
    rw (t.1, t.2) (refused_first c.in_err-lent.field-0.0 _ _ c.in_err-lent.ensures)

pub returns-then-answers-n : goal.returns-then-answers-n
unfolding outcome number
returns-then-answers-n c =
    let a = c.args in
    unfit_some _ (sym c.in_ok-lent.ensures) a.answers a.pictures a.n _ _ c.picture_bytes-size.ensures (omega arith) c.if-answers-n.true

pub returns : goal.returns
unfolding outcome
returns c =
    let a = c.args in
    unfit_none _ (sym c.in_ok-lent.ensures) a.answers a.pictures a.n _ _ c.picture_bytes-size.ensures (omega arith) c.if-answers-n.false
