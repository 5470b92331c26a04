-- `mark::points::mark_of` meets its contract.
-- Assumes nothing.
use native.Mathlib.Omega.{arith}
use Rattle.mark.specs.Mark.{rows_of, mark}
use Rattle.mark.proofs.Rows.{earned-all, possible-all, share_most}
use Rattle.mark.proofs.points.mark_of.Goals as goal

pub overflow_cast-result : goal.overflow_cast-result
overflow_cast-result c = omega (arith, share_most _ _ _ c.share.ensures (omega arith))

pub returns : goal.returns
unfolding mark rows_of
returns c =
    rw (c.share.ensures, c.earned-threads.ensures.0, c.threads_at.ensures, c.earned-mutexes.ensures.0, c.mutexes_at.ensures, c.earned-processors.ensures.0, earned-all, possible-all)
