-- `rules::chain::has_bit` meets its contract: no bit from 64 on is set.
-- Assumes nothing.
use mathlib.Core.Path.{refl, sym}
use Rattle.rules.specs.Walk.{has_bit}
use Rattle.rules.proofs.Bits.{has_past}
use Rattle.rules.proofs.chain.has_bit.Goals as goal

pub returns-then-i-lt64 : goal.returns-then-i-lt64
unfolding has_bit
returns-then-i-lt64 c = refl

pub returns-else-i-lt64 : goal.returns-else-i-lt64
returns-else-i-lt64 c = sym (has_past _ _ c.ranges.met.fits c.if-i-lt64.false)
