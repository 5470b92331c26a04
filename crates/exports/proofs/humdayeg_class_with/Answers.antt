-- `exports::humdayeg_class_with` meets its contract.
-- Assumes nothing.
use mathlib.Core.Path.{refl, ◌∙◌}
use lib.ListN.{replicate}
use Rattle.session.specs.Contract.{table}
use Rattle.exports.proofs.Class.{class_unbegun, class-done}
use Rattle.exports.proofs.humdayeg_class_with.Goals as goal

pub returns-in-Ok : goal.returns-in-Ok
returns-in-Ok c =
    let a = c.args in
    let d = c.class-done in
    let k =
    class-done (table a.p a.t a.m a.b a.stealing) a.scripts.now a.turns.now a.answers.now a.pictures.now c.in-Ok.session c.in-Ok.ensures (replicate 12000 0) refl
    d.result _ _ d.ensures.answer d.ensures.answers d.ensures.pictures in
    record { number = c.outcome.ensures ∙ k.number; answers = k.numbers; pictures = k.pictured }

pub returns-in-Err : goal.returns-in-Err
returns-in-Err c =
    let a = c.args in
    let k = class_unbegun (table a.p a.t a.m a.b a.stealing) a.scripts.now a.turns.now a.answers.now a.pictures.now c.in-Err.refusal c.in-Err.ensures in
    record { number = c.number.ensures ∙ k.number; answers = k.numbers; pictures = k.pictured }
