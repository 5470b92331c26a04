-- `session::test` meets its contract.
-- Assumes nothing.
use mathlib.Core.Path.{sym}
use Rattle.std.proofs.lemmas.Result.{err_from_is_err_and}
use Rattle.state.specs.Refusal.{outcome}
use Rattle.session.proofs.Answers.{lent_passed}
use Rattle.session.proofs.Found.{kept_range}
use Rattle.session.proofs.Testing.{test_lent}
use Rattle.session.proofs.test.Goals as goal

pub returns-in_err-lent-clause-number : goal.returns-in_err-lent-clause-number
unfolding outcome
returns-in_err-lent-clause-number c =
    let t = err_from_is_err_and c.from_residual.result c.from_residual.ensures.1 in
    rw (t.1, t.2) (test_lent c.args.session c.args.journal.now _ c.in_err-lent.ensures)

pub replayed-requires : goal.replayed-requires
unfolding outcome
replayed-requires c =
    let free = sym c.in_ok-lent.ensures in
    (free, (kept_range c.args.session (lent_passed _ _ free).1).0)
