-- `session::replay::replayed` meets its contract.
-- Assumes nothing.
use Rattle.session.proofs.Answers.{lent_passed}
use Rattle.session.proofs.Found.{kept_range}
use Rattle.session.proofs.replay.replayed.Goals as goal

pub reached-requires : goal.reached-requires
reached-requires c = (c.requires.0, c.if-k-n.true, (kept_range c.args.session (lent_passed _ _ c.requires.0).1).0)
