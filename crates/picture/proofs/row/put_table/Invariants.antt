-- `picture::row::put_table` meets its contract.
-- Assumes nothing.
use Prim.Native.Nat.{ℕ}
use mathlib.Core.Path.{◌≡◌}
use lib.ListN.{get_or}
use Rattle.picture.specs.Model.Parts.{over, rows}
use Rattle.picture.proofs.row.put_table.Given as goal

abbrev pub invariant-loop-i : goal.invariant-loop-i
invariant-loop-i g l = l.b ≡ over l.initial.b (rows (λ (j : ℕ). g.T.Row.bytes (get_or l.firsts j 0) (get_or l.all j g.T.Zero.zero)) 1 l.i)
