-- `picture::row::put_table` meets its contract.
-- Assumes nothing.
use Prim.Native.Nat.{ℕ, ◌+◌, ◌*◌, ◌≤◌}
use mathlib.Core.Path.{◌≡◌, ap, ◌∙◌}
use native.Mathlib.Omega.{arith}
use native.Mathlib.Nat.{mul_comm}
use lib.ListN.{get_or}
use Rattle.picture.proofs.Rows.{rows_no_room, rows_start, write-row, row-room}
use Rattle.picture.proofs.row.put_table.Goals as goal

pub returns-then-b-WIDTH : goal.returns-then-b-WIDTH
returns-then-b-WIDTH g c =
    let a = c.args in
    let w : c.WIDTH.result * a.n ≡ a.n * g.T.Row.WIDTH = ap (λ (k : ℕ). k * a.n) c.WIDTH.ensures ∙ mul_comm g.T.Row.WIDTH a.n in
    rows_no_room (λ (j : ℕ). g.T.Row.bytes (get_or a.firsts.now j 0) (get_or a.all.now j g.T.Zero.zero)) g.T.Row.WIDTH
    (λ j. g.met.T.Row.wide (get_or a.firsts.now j 0) (get_or a.all.now j g.T.Zero.zero)) a.b.now a.n (omega (arith, w))

pub loop-i-init : goal.loop-i-init
loop-i-init g c = let a = c.args in rows_start (λ (j : ℕ). g.T.Row.bytes (get_or a.firsts.now j 0) (get_or a.all.now j g.T.Zero.zero)) a.b.now

pub loop-i-preserved : goal.loop-i-preserved
loop-i-preserved g c =
    let a = c.args in
    let l = c.loop-i in
    let e : c.WIDTH-in-loop-i.result * l.i ≡ l.i * g.T.Row.WIDTH = ap (λ (k : ℕ). k * l.i) c.WIDTH-in-loop-i.ensures ∙ mul_comm g.T.Row.WIDTH l.i in
    let f : c.WIDTH.result * a.n ≡ a.n * g.T.Row.WIDTH = ap (λ (k : ℕ). k * a.n) c.WIDTH.ensures ∙ mul_comm g.T.Row.WIDTH a.n in
    let r : l.i * g.T.Row.WIDTH + g.T.Row.WIDTH ≤ a.n * g.T.Row.WIDTH = row-room g.T.Row.WIDTH l.i a.n (omega arith) in
    write-row (λ (j : ℕ). g.T.Row.bytes (get_or a.firsts.now j 0) (get_or a.all.now j g.T.Zero.zero)) g.T.Row.WIDTH
    (λ j. g.met.T.Row.wide (get_or a.firsts.now j 0) (get_or a.all.now j g.T.Zero.zero)) a.b.now l.b c.write.new.b l.i _ l.invariant e (omega (arith, e, f, r))
    (rw (c.at-x.ensures, c.at.ensures) at c.write.ensures)
