-- `course::class::turn_lines` meets its contract.
use Prim.Native.Nat.{◌*◌}
use mathlib.Core.Path.{◌≡◌}
use lib.ListN.{drop}
use Rattle.command.specs.Printing.{written}
use Rattle.course.specs.Model.TurnLines.{turn_lines}
use Rattle.course.proofs.class.turn_lines.Given as goal

abbrev pub invariant-loop-i : goal.invariant-loop-i
invariant-loop-i l =
    written l.page (turn_lines l.size (drop l.i l.answers) (drop (l.i * l.size) l.pictures)) ≡ written l.initial.page (turn_lines l.size l.answers l.pictures)
