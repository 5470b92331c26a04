-- `picture::row::table` meets its contract: after i turns the first i rows are filled in.
-- Assumes nothing.
use Prim.Native.Nat.{ℕ}
use mathlib.Core.Path.{◌≡◌}
use native.Mathlib.Omega.{arith}
use Rattle.picture.specs.Picture.{from_record}
use Rattle.picture.proofs.Tables.{no_rows, row_more}
use Rattle.picture.proofs.row.table.Goals as goal

pub loop-i-init : goal.loop-i-init
loop-i-init g c = rw c.zero-all.ensures (no_rows (λ (j : ℕ). g.T.Row.field (from_record g.T.Row.WIDTH c.args.b.now j)) g.T.Zero.zero g.row.N)

pub loop-i-preserved : goal.loop-i-preserved
loop-i-preserved g c =
    rw (c.put.ensures, c.read.ensures, c.record.ensures, c.loop-i.invariant)
    (row_more (λ (j : ℕ). g.T.Row.field (from_record g.T.Row.WIDTH c.args.b.now j)) g.T.Zero.zero g.row.N c.loop-i.i)

pub returns : goal.returns
returns g c = let e : c.loop-i.i ≡ c.args.n = omega arith in rw e at c.loop-i.invariant
