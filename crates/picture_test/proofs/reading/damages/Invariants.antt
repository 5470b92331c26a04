-- `picture_test::reading::damages`: after each step the line is as it was passed.
use Rattle.std.proofs.Common.{◌≡◌}
use Rattle.picture_test.proofs.reading.damages.Given as goal

abbrev pub invariant-loop-i : goal.invariant-loop-i
invariant-loop-i l = l.line ≡ l.fn.line
