-- `mark::points::earned` meets its contract.
-- Assumes nothing.
use Prim.Native.Nat.{◌+◌, ◌-◌, ◌*◌, ◌≤◌}
use mathlib.Core.Path.{◌≡◌}
use lib.ListN.{length}
use Rattle.mark.specs.Mark.{rows, earned}
use Rattle.mark.proofs.points.earned.Given as goal

abbrev pub invariant-loop : goal.invariant-loop
invariant-loop l =
    (l.from + l.width * (l.n - l.counter) ≤ length l.machine) × (l.from + l.width * (l.n - l.counter) ≤ length l.candidate) ×
    (l.sum + earned l.machine l.candidate (rows l.from l.width l.points (l.n - l.counter)) ≡ earned l.machine l.candidate (rows l.at l.width l.points l.n))
