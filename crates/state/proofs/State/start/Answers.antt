-- `state::State::start` meets its contract.
use Rattle.state.specs.Record.{zero_state}
use Rattle.state.specs.Model.Access.{start_record}
use Rattle.state.proofs.State.start.Goals as goal

pub returns : goal.returns
unfolding start_record zero_state
returns c =
    rw (
      c.first_processors-processors.ensures,
      c.first_threads-threads.ensures,
      c.first_firsts-firsts.ensures,
      c.zero-s.ensures,
    )
