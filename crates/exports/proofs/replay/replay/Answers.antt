-- `exports::replay::replay` meets its contract.
-- Assumes nothing.
use mathlib.Core.Path.{ap}
use native.Mathlib.Omega.{arith}
use Rattle.std.proofs.lemmas.Result.{err_from_is_err_and}
use Rattle.session.specs.Contract.{table}
use Rattle.state.specs.Refusal.{outcome}
use Rattle.step.specs.Model.Moves.{run_shown}
use Rattle.exports.proofs.Replayed.{table-refused, most, move-refused, over, all-made}
use Rattle.exports.proofs.replay.replay.Goals as goal

pub returns-in_err-begun : goal.returns-in_err-begun
returns-in_err-begun c =
    let t = err_from_is_err_and c.from_residual.result c.from_residual.ensures.1 in
    let a = c.args in
    let k = table-refused (table a.p a.t a.m a.b a.stealing) a.moves.now c.in_err-begun.field-0.0 c.in_err-begun.ensures in
    record { state = rw (t.1, t.2) k.0; place = k.1 }

pub overflow_cast-place : goal.overflow_cast-place
overflow_cast-place c =
    let a = c.args in
    omega (arith, most (table a.p a.t a.m a.b a.stealing) a.moves.now c.in_ok-begun.begun c.in_ok-begun.ensures (run_shown c.run-done.result) c.run-done.ensures.state)

pub overflow_add-place : goal.overflow_add-place
overflow_add-place c =
    let a = c.args in
    omega (arith, most (table a.p a.t a.m a.b a.stealing) a.moves.now c.in_ok-begun.begun c.in_ok-begun.ensures (run_shown c.run-done.result) c.run-done.ensures.state)

pub returns-in_err-done : goal.returns-in_err-done
unfolding outcome
returns-in_err-done c =
    let t = err_from_is_err_and c.from_residual-in_err-done.result c.from_residual-in_err-done.ensures.1 in
    let a = c.args in
    let k =
    move-refused (table a.p a.t a.m a.b a.stealing) a.moves.now c.in_ok-begun.begun c.in_ok-begun.ensures (run_shown c.run-done.result) c.run-done.ensures.state
    c.in_err-done.field-0.0 (ap outcome c.in_err-done.was) in
    record { state = rw (t.1, t.2) k.0; place = k.1 }

pub returns-then-moves-ne0 : goal.returns-then-moves-ne0
unfolding outcome
returns-then-moves-ne0 c =
    let a = c.args in
    let k =
    over (table a.p a.t a.m a.b a.stealing) a.moves.now c.in_ok-begun.begun c.in_ok-begun.ensures (run_shown c.run-done.result) c.run-done.ensures.state
    (ap outcome c.in_ok-done.was) c.if-moves-ne0.true in
    record { state = k.0; place = k.1 }

pub returns : goal.returns
unfolding outcome
returns c =
    let a = c.args in
    let k =
    all-made (table a.p a.t a.m a.b a.stealing) a.moves.now c.in_ok-begun.begun c.in_ok-begun.ensures (run_shown c.run-done.result) c.run-done.ensures.state
    (ap outcome c.in_ok-done.was) c.if-moves-ne0.false in
    record { state = k.0; place = k.1 }
