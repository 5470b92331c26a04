-- `session::replay::part` meets its contract.
-- Assumes nothing.
use Rattle.session.proofs.Found.{part_none}
use Rattle.session.proofs.replay.part.Goals as goal

pub returns-then-a-b : goal.returns-then-a-b
returns-then-a-b c = let all = part_none _ _ c.if-a-b.true _ _ _ in
    record { run = all.0; calls = all.1 }
