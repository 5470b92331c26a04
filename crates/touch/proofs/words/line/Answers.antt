-- `touch::words::line` meets its contract where no line has the number, or it is App's.
-- Assumes nothing.
use Prim.Native.Nat.{◌≤◌}
use mathlib.Core.Path.{◌≡◌, ap, ◌∙◌}
use native.Mathlib.Decide.{ℕ_discrete}
use native.Mathlib.Omega.{arith}
use lib.ListN.{get_or-eq_default}
use Rattle.reference.specs.State.{App, lines, line_of}
use Rattle.reference.specs.Touch.{nothing, line_touch}
use Rattle.touch.specs.declared.Sight.{Sight}
use Rattle.touch.specs.Association.{touch_record}
use Rattle.touch.specs.Model.Made.{line_seen}
use Rattle.touch.proofs.words.line.Goals as goal

at_app : (v : Sight) → v.proc.position ≡ 0 → nothing ≡ line_seen v
unfolding line_seen line_of line_touch
at_app v e = rw e

no_line : (v : Sight) → 25 ≤ v.proc.position → nothing ≡ line_seen v
unfolding line_seen line_of line_touch
no_line v h = rw (get_or-eq_default lines App h)

pub returns-in_default : goal.returns-in_default
returns-in_default c =
    let v = c.args.v in
    c.nothing-in_default.ensures ∙ ap touch_record (elim (ℕ_discrete v.proc.position 0) [ yes e ↦ at_app v e | no e ↦ no_line v (omega arith) ])
