-- `view::each::put_each` meets its contract: the rows of the numbers so far are put.
use Rattle.std.proofs.Common.{◌+◌, ◌%◌, ◌≡◌, arith}
use Rattle.view.proofs.Rows.{rows_begun, rows_more}
use Rattle.view.proofs.each.put_each.Goals as goal

pub loop-i-init : goal.loop-i-init
loop-i-init g c f h s = rows_begun f c.args.page.now c.args.lo

pub loop-i-preserved : goal.loop-i-preserved
loop-i-preserved g c f h s =
    let k : (c.args.lo + c.loop-i.i) % 256 ≡ c.args.lo + c.loop-i.i = omega arith in
    rows_more f _ _ _ c.args.lo c.loop-i.i (c.loop-i.invariant f h (omega arith)) (rw k at (h _ (omega arith) _ _ c.row.ensures))
