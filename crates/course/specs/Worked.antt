-- Document 02's printed mark as the program prints it, whatever it holds.
-- Assumes nothing.
use Rattle.std.specs.Prelude.{◌≡◌}
use Rattle.command.specs.Printing.{text, hundredths}
use Rattle.command.specs.Request.{mark}
use Rattle.mark.specs.Worked.{machine, candidate}
use Rattle.course.specs.Program.{Context, response}

pub record Example : Type 0 where
  pub printed : (k : Context) → response k (mark machine candidate) ≡ text "88.23\n"
  -- two digits always stand behind the point, and one at least before it
  pub full : hundredths 10000 ≡ text "100.00"
  pub nothing : hundredths 0 ≡ text "0.00"
  pub zeros_kept : hundredths 705 ≡ text "7.05"
