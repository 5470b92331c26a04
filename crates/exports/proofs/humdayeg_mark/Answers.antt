-- `exports::humdayeg_mark` meets its contract.
-- Assumes nothing.
use mathlib.Core.Path.{◌∙◌}
use Rattle.exports.proofs.Marks.{mark_shown}
use Rattle.exports.proofs.humdayeg_mark.Goals as goal

pub returns : goal.returns
returns c = c.wide.ensures ∙ mark_shown c.args.machine.now c.args.candidate.now c.mark.result c.mark.ensures
