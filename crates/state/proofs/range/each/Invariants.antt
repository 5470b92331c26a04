-- `state::range::each` meets its contract: the test held of the numbers so far.
-- Assumes nothing.
use Rattle.std.proofs.Common.{true}
use Rattle.state.specs.Each.{IsEach}
use Rattle.state.proofs.range.each.Given as goal

abbrev pub invariant-loop-i : goal.invariant-loop-i
invariant-loop-i g l = IsEach (λ i b. goal.F-post g l.test i b) l.lo l.i true
