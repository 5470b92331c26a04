-- `turns::start` meets its contract.
-- Assumes nothing.
use Rattle.std.proofs.lemmas.Result.{err_from_is_err_and}
use Rattle.session.specs.Contract.{table}
use Rattle.state.specs.Refusal.{outcome}
use Rattle.turns.proofs.Answers.{start-refused, start_unscripted, start-taken}
use Rattle.turns.proofs.start.Goals as goal

pub returns-in_err-begun : goal.returns-in_err-begun
unfolding outcome
returns-in_err-begun c =
    let t = err_from_is_err_and c.from_residual.result c.from_residual.ensures.1 in
    let a = c.args in
    rw (t.1, t.2) (start-refused (table a.p a.t a.m a.b a.stealing) a.scripts.now c.in_err-begun.field-0.0 c.in_err-begun.ensures)

pub returns-in_err-test_scripts : goal.returns-in_err-test_scripts
unfolding outcome
returns-in_err-test_scripts c =
    let t = err_from_is_err_and c.from_residual-in_err-test_scripts.result c.from_residual-in_err-test_scripts.ensures.1 in
    let a = c.args in
    rw (t.1, t.2) (start_unscripted (table a.p a.t a.m a.b a.stealing) a.scripts.now c.in_ok-begun.begun c.in_ok-begun.ensures c.in_err-test_scripts.field-0.0 c.in_err-test_scripts.ensures)

pub returns : goal.returns
unfolding outcome
returns c =
    let a = c.args in
    start-taken (table a.p a.t a.m a.b a.stealing) a.scripts.now c.in_ok-begun.begun c.in_ok-begun.ensures c.in_ok-test_scripts.ensures
