-- The printed mark as the program prints it, by computation.
-- Assumes nothing.
use mathlib.Core.Path.{refl, ap}
use Rattle.command.specs.Printing.{text, decimal, hundredths}
use Rattle.mark.proofs.Worked.{example as marks}
use Rattle.course.specs.Answers.{mark_text}
use Rattle.course.specs.Program.{response}
use Rattle.course.specs.Worked.{Example}

pub example : Example
unfolding response mark_text hundredths decimal text
example = record { printed = λ k. ap mark_text marks.apart; full = refl; nothing = refl; zeros_kept = refl }
