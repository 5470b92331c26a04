-- `rules::chain::chains_ok` meets its contract: the check is the rule, by `check_is_rule`.
-- Assumes nothing.
use lib.ListN.{get_or}
use Rattle.rules.proofs.Chains.{check_is_rule}
use Rattle.rules.proofs.chain.chains_ok.Goals as goal

pub returns : goal.returns
returns g c =
    let a = c.args in
    rw c.none_missed.ensures
    (check_is_rule (g.T.ThreadTable.thread a.threads) (λ q. get_or a.firsts q 0) a.t _ c.walk_to-w.ensures)
