-- `stored::start` meets its contract.
-- Assumes nothing.
use mathlib.Core.Path.{◌∙◌}
use native.Mathlib.Omega.{arith}
use Rattle.std.proofs.lemmas.Result.{err_from_is_err_and}
use Rattle.session.specs.Contract.{table}
use Rattle.state.specs.Refusal.{outcome, number}
use Rattle.stored.proofs.Cases.{start-refused, start-short, start_fits, start-taken}
use Rattle.stored.proofs.start.Goals as goal

pub returns-in_err-begun : goal.returns-in_err-begun
unfolding outcome
returns-in_err-begun c =
    let t = err_from_is_err_and c.from_residual.result c.from_residual.ensures.1 in
    let a = c.args in
    let k = start-refused (table a.p a.t a.m a.b a.stealing) a.session.now c.in_err-begun.field-0.0 c.in_err-begun.ensures in
    record { number = rw (t.1, t.2) k.0; session = k.1 }

pub returns-then-session-picture_bytes : goal.returns-then-session-picture_bytes
unfolding outcome number
returns-then-session-picture_bytes c =
    let a = c.args in
    let k =
    start-short (table a.p a.t a.m a.b a.stealing) a.session.now c.in_ok-begun.begun c.in_ok-begun.ensures
    (omega (arith, c.if-session-picture_bytes.true, c.picture_bytes.ensures)) in
    record { number = k.0; session = k.1 }

pub write-requires : goal.write-requires
write-requires c =
    let a = c.args in
    start_fits (table a.p a.t a.m a.b a.stealing) a.session.now c.in_ok-begun.begun c.in_ok-begun.ensures
    (omega (arith, c.if-session-picture_bytes.false, c.picture_bytes.ensures))

pub returns : goal.returns
unfolding outcome
returns c =
    let a = c.args in
    let k =
    start-taken (table a.p a.t a.m a.b a.stealing) a.session.now c.in_ok-begun.begun c.in_ok-begun.ensures
    (omega (arith, c.if-session-picture_bytes.false, c.picture_bytes.ensures)) in
    record { number = k.0; session = c.write.ensures ∙ k.1 }
