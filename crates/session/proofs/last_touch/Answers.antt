-- `session::last_touch` meets its contract.
-- Assumes nothing.
use mathlib.Core.Path.{ap, ◌∙◌}
use Rattle.state.proofs.Refused.{not_none}
use Rattle.session.specs.Contract.{Answer, answer_of, went}
use Rattle.session.proofs.LastTouch.{last_refused}
use Rattle.session.proofs.last_touch.Goals as goal

pub returns-in-Err : goal.returns-in-Err
unfolding answer_of went
returns-in-Err c =
    c.nothing-in-Err.ensures ∙ last_refused _ _ (λ e. not_none c.in-Err.field-0 (ap (λ (x : Answer). x.refusal) c.in-Err.ensures ∙ e))
