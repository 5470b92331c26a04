-- `view::table::Table::put` meets its contract.
use Rattle.std.proofs.Common.{append_assoc, ◌∙◌}
use Rattle.command.specs.Printing.{text}
use Rattle.command.proofs.Put.{written_twice}
use Rattle.view.specs.Table.{table}
use Rattle.view.proofs.table.Table.put.Goals as goal

pub returns : goal.returns
unfolding text table
returns c =
    c.push-2.ensures
    ∙ rw (
      c.statuses.ensures,
      c.put-5.ensures,
      c.ready_queues.ensures,
      c.put-4.ensures,
      c.mutexes.ensures,
      c.put-3.ensures,
      c.processors.ensures,
      c.put-2.ensures,
      c.push.ensures,
      c.wide.ensures,
      c.put.ensures,
    ) (simp (written_twice, append_assoc))
