-- `exports::humdayeg_read` meets its contract.
-- Assumes nothing.
use mathlib.Core.Path.{◌∙◌}
use Rattle.exports.proofs.Ahead.{read_number}
use Rattle.exports.proofs.humdayeg_read.Goals as goal

pub returns : goal.returns
returns c = c.outcome.ensures ∙ read_number c.args.picture.now c.read.result c.read.ensures
