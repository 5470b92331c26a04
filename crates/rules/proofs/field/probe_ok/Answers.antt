-- `rules::field::probe_ok` meets its contract: at CI2, and elsewhere.
-- Assumes nothing.
use Rattle.rules.proofs.Firsts.{probe-here, probe-away}
use Rattle.rules.proofs.field.probe_ok.Goals as goal

pub returns-then-position-eq1 : goal.returns-then-position-eq1
returns-then-position-eq1 c = let a = c.args in rw c.saturating_sub.ensures (probe-here a.n a.position a.probe c.if-position-eq1.true)

pub returns-else-position-eq1 : goal.returns-else-position-eq1
returns-else-position-eq1 c = let a = c.args in probe-away a.n a.position a.probe c.if-position-eq1.false
