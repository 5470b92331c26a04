-- `state::State::zero` meets its contract.
use Rattle.state.specs.Record.{zero_state}
use Rattle.state.proofs.State.zero.Goals as goal

pub returns : goal.returns
unfolding zero_state
returns c = rw (c.zero-mutex.ensures, c.zero-processor.ensures, c.zero-thread.ensures)
