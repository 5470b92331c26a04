-- `exports::neighbours::independent` meets its contract.
-- Assumes nothing.
use Rattle.exports.specs.Model.Made.{made_independent}
use Rattle.exports.proofs.neighbours.independent.Goals as goal

pub returns : goal.returns
unfolding made_independent
returns c = rw (c.apart-separate.ensures, c.make_in-two.ensures.touch, c.make_in-one.ensures.state, c.make_in-one.ensures.touch)
