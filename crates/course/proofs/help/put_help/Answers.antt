-- `course::help::put_help` meets its contract.
use Rattle.command.specs.Printing.{text}
use Rattle.course.proofs.help.put_help.Goals as goal

pub returns : goal.returns
unfolding text
returns c = c.put.ensures
