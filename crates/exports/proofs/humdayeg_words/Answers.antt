-- `exports::humdayeg_words` meets its contract.
-- Assumes nothing.
use mathlib.Core.Path.{◌∙◌}
use native.Mathlib.Omega.{arith}
use Rattle.session.specs.Contract.{table}
use Rattle.state.specs.Refusal.{number}
use Rattle.exports.proofs.Touched.{bad_moves, short-buffer, all-written}
use Rattle.exports.proofs.humdayeg_words.Goals as goal

pub returns-in-Err : goal.returns-in-Err
returns-in-Err c =
    let a = c.args in
    let k = bad_moves (table a.p a.t a.m a.b a.stealing) a.moves.now a.words.now c.in-Err.refusal c.in-Err.ensures.state in
    record { number = c.number.ensures ∙ k.0; written = k.1; place = c.replay.ensures.place }

pub returns-in-Ok : goal.returns-in-Ok
unfolding number
returns-in-Ok c =
    let a = c.args in
    let k = short-buffer (table a.p a.t a.m a.b a.stealing) a.moves.now a.words.now c.in-Ok.field-0 c.in-Ok.ensures.state c.if-words-moves.true in
    record { number = c.number-in-Ok.ensures ∙ k.0; written = k.1; place = c.replay.ensures.place }

pub returns-in-Ok-2 : goal.returns-in-Ok-2
returns-in-Ok-2 c =
    let a = c.args in
    let k =
    all-written (table a.p a.t a.m a.b a.stealing) a.moves.now a.words.now c.in-Ok-2.field-0 c.in-Ok-2.ensures.state (omega (arith, c.if-words-moves.false)) c.start.result c.start.ensures _
    c.put_words.ensures in
    record { number = k.0; written = k.1; place = c.replay.ensures.place }
