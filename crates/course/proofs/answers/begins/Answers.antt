-- `course::answers::begins` meets its contract.
use mathlib.Core.Path.{◌∙◌}
use Rattle.course.specs.Program.{starts}
use Rattle.course.proofs.Lines.{begun_ok}
use Rattle.course.proofs.answers.begins.Goals as goal

pub returns-in-Start : goal.returns-in-Start
unfolding starts
returns-in-Start c = rw c.in-Start.is (c.is_ok.ensures.value ∙ begun_ok _ _ _ c.start.ensures)

pub returns-in-StartWith : goal.returns-in-StartWith
unfolding starts
returns-in-StartWith c = rw c.in-StartWith.is (c.is_ok-in-StartWith.ensures.value ∙ begun_ok _ _ _ c.start-in-StartWith.ensures)
