-- `rules::field::Sizes::processor_ok` meets its contract: each column read is the table's.
-- Assumes nothing.
use Rattle.state.specs.Rules.{processor_ok}
use Rattle.rules.proofs.Table.{current_column, transit_column, mutex_column, observed_column}
use Rattle.rules.proofs.field.Sizes.processor_ok.Goals as goal

pub returns : goal.returns
unfolding processor_ok
returns c =
    rw (c.token_ok.ensures, c.register_ok-4.ensures, c.column-4.ensures, c.register_ok-3.ensures, c.column-3.ensures, c.register_ok-2.ensures, c.column-2.ensures, c.register_ok.ensures, c.column.ensures, c.probe_ok.ensures, c.ready_queues-n.ensures, current_column, transit_column, mutex_column, observed_column)
