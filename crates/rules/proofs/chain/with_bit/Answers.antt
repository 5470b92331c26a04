-- `rules::chain::with_bit` meets its contract: what the shift gives.
-- Assumes nothing.
use borrow.Author.Tests.{lt-ltb, le-ltb}
use Rattle.rules.specs.Model.Chain.{with_bit}
use Rattle.rules.proofs.Bits.{shl_one}
use Rattle.rules.proofs.chain.with_bit.Goals as goal

pub returns-then-i-lt64 : goal.returns-then-i-lt64
unfolding with_bit
returns-then-i-lt64 c = rw (lt-ltb _ _ c.if-i-lt64.true, shl_one c.args.k c.if-i-lt64.true)

pub returns-else-i-lt64 : goal.returns-else-i-lt64
unfolding with_bit
returns-else-i-lt64 c = rw (le-ltb _ _ c.if-i-lt64.false)
