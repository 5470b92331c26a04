-- `picture::reader::chained` meets its contract: the part's threads are the record's.
-- Assumes nothing.
use mathlib.Core.Path.{◌∙◌}
use Rattle.picture.proofs.Reading.{part_chains}
use Rattle.picture.proofs.reader.chained.Goals as goal

pub returns : goal.returns
returns c = let a = c.args in c.chains_ok.ensures ∙ part_chains a.b.now a.part.now a.s c.requires.shape c.requires.part c.requires.record
