-- `course::class::turn_lines` meets its contract.
use mathlib.Core.Path.{◌∙◌}
use native.Mathlib.Omega.{arith}
use lib.ListN.{length}
use Rattle.course.proofs.ClassLines.{fits, next_lines, no_lines}
use Rattle.course.proofs.class.turn_lines.Goals as goal

pub overflow_mul-from : goal.overflow_mul-from
overflow_mul-from c = let a = c.args in omega (arith, fits c.loop-i.i (length a.answers.now) a.size c.loop-i-test.true)

pub loop-i-preserved : goal.loop-i-preserved
loop-i-preserved c =
    let a = c.args in
    rw (c.hex_line.ensures, c.number_line.ensures) (next_lines c.loop-i.page a.size c.loop-i.i a.answers.now a.pictures.now c.loop-i-test.true ∙ c.loop-i.invariant)

pub returns : goal.returns
returns c = let a = c.args in no_lines _ _ a.size c.loop-i.i a.answers.now _ c.loop-i-test.false c.loop-i.invariant
