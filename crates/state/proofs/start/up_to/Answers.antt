-- `state::start::up_to` meets its contract.
use native.Mathlib.Omega.{arith}
use Rattle.state.proofs.Begun.{sum_fits, sum_over}
use Rattle.state.proofs.start.up_to.Goals as goal

pub returns-then-k-b : goal.returns-then-k-b
returns-then-k-b c = sum_fits _ _ _ c.if-n-b.true c.if-k-b.true

pub returns-else-k-b : goal.returns-else-k-b
returns-else-k-b c = let a = c.args in sum_over a.b a.k a.n (λ h l. omega arith)

pub returns-else-n-b : goal.returns-else-n-b
returns-else-n-b c = let a = c.args in sum_over a.b a.k a.n (λ h l. omega arith)
