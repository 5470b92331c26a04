-- `exports::turns_ahead` meets its contract.
-- Assumes nothing.
use native.Mathlib.Omega.{arith}
use Rattle.std.proofs.lemmas.Result.{err_from_is_err_and}
use Rattle.exports.proofs.Ahead.{picture-refused, thread-refused, turns_are}
use Rattle.exports.proofs.turns_ahead.Goals as goal

pub returns-in_err-state : goal.returns-in_err-state
returns-in_err-state c =
    let t = err_from_is_err_and c.from_residual.result c.from_residual.ensures.1 in
    rw (t.1, t.2) (picture-refused c.args.picture.now c.args.thread c.in_err-state.field-0.0 c.in_err-state.ensures)

pub returns-in_err-turns : goal.returns-in_err-turns
returns-in_err-turns c =
    let t = err_from_is_err_and c.from_residual-in_err-turns.result c.from_residual-in_err-turns.ensures.1 in
    rw (t.1, t.2)
    (thread-refused c.args.picture.now (λ i. omega (arith, (c.type_inv.picture i).fits)) c.in_ok-state.state c.in_ok-state.ensures c.args.thread c.in_err-turns.field-0.0
    c.in_err-turns.ensures.shown)

pub returns : goal.returns
returns c =
    rw c.unwrap_or.ensures
    (turns_are c.args.picture.now (λ i. omega (arith, (c.type_inv.picture i).fits)) c.in_ok-state.state c.in_ok-state.ensures c.args.thread _ c.in_ok-turns.ensures.shown)
