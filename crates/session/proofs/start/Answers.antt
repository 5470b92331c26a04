-- `session::start` meets its contract.
-- Assumes nothing.
use mathlib.Core.Path.{sym, ◌∙◌}
use Rattle.session.specs.Contract.{table}
use Rattle.session.proofs.Answers.{started_taken}
use Rattle.session.proofs.start.Goals as goal

pub returns : goal.returns
returns c =
    let a = c.args in
    started_taken (table a.p a.t a.m a.b a.stealing) (sym c.config_ok.ensures ∙ c.if-not-config_ok.false) _ c.start.ensures
