-- `picture::write` meets its contract.
-- Assumes nothing.
use mathlib.Core.Path.{sym, ◌∙◌}
use Rattle.state.proofs.Sized.{sized}
use Rattle.picture.proofs.Written.{over-written}
use Rattle.picture.proofs.write.Goals as goal

pub returns-clause-bytes : goal.returns-clause-bytes
returns-clause-bytes c =
    let a = c.args in
    c.put.ensures.bytes ∙ over-written a.s a.buffer.now (sized c.well_formed.0) (sym c.state_ok.ensures ∙ c.if-not-state_ok.false)
