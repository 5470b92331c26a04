-- `exports::humdayeg_replay_with` meets its contract.
-- Assumes nothing.
use mathlib.Core.Path.{◌∙◌}
use Rattle.session.specs.Contract.{table}
use Rattle.exports.proofs.Answers.{stopped, all_taken}
use Rattle.exports.proofs.humdayeg_replay_with.Goals as goal

pub returns-in-Ok : goal.returns-in-Ok
returns-in-Ok c =
    let a = c.args in
    let k = all_taken (table a.p a.t a.m a.b a.stealing) a.moves.now a.picture.now c.in-Ok.state c.in-Ok.ensures.state in
    record { number = c.outcome.ensures ∙ c.write.ensures.number ∙ k.0; written = c.write.ensures.bytes ∙ k.1; place = c.replay.ensures.place }

pub returns-in-Err : goal.returns-in-Err
returns-in-Err c =
    let a = c.args in
    let k = stopped (table a.p a.t a.m a.b a.stealing) a.moves.now a.picture.now c.in-Err.refusal c.in-Err.ensures.state in
    record { number = c.number.ensures ∙ k.0; written = k.1; place = c.replay.ensures.place }
