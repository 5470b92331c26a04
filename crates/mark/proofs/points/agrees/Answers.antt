-- `mark::points::agrees` meets its contract.
-- Assumes nothing.
use Prim.Native.Nat.{◌+◌, ◌-◌}
use mathlib.Core.Path.{◌≡◌, ◌∙◌}
use native.Mathlib.Omega.{arith}
use Rattle.mark.specs.Mark.{agrees}
use Rattle.mark.proofs.Rows.{same_slices}
use Rattle.mark.proofs.points.agrees.Goals as goal

pub returns : goal.returns
unfolding agrees
returns c =
    let a = c.args in
    let w : a.at + a.width - a.at ≡ a.width = omega arith in
    c.eq.ensures ∙ rw w (same_slices a.machine.now a.candidate.now a.at a.width (omega arith) (omega arith))
