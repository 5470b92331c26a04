-- `picture::row::table` meets its contract.
-- Assumes nothing.
use mathlib.Core.Path.{◌≡◌}
use Prim.Native.Nat.{ℕ}
use Rattle.reference.specs.Lists.{tabulate}
use Rattle.picture.specs.Picture.{one_of, from_record}
use Rattle.picture.proofs.row.table.Given as goal

abbrev pub invariant-loop-i : goal.invariant-loop-i
invariant-loop-i g l = l.all ≡ tabulate (λ (j : ℕ). one_of l.i j (g.T.Row.field (from_record g.T.Row.WIDTH l.b j)) g.T.Zero.zero) 0 g.row.N
