-- `rules::state_ok` meets its contract: no rule is broken exactly if the number is 0.
-- Assumes nothing.
use Rattle.state.specs.Rules.{state_ok}
use Rattle.state.proofs.Refused.{ok-outcome}
use Rattle.rules.proofs.state_ok.Goals as goal

pub returns : goal.returns
unfolding state_ok
returns c = rw (c.zero_past.ensures, c.is_ok.ensures.value, ok-outcome, c.broken_rule.ensures)
