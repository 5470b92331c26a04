-- `view::words::put_word` meets its contract.
use mathlib.Core.Path.{◌≡◌}
use lib.ListN.{drop}
use Rattle.command.specs.Printing.{written}
use Rattle.view.specs.Words.{trimmed}
use Rattle.view.proofs.words.put_word.Given as goal

abbrev pub invariant-loop-b : goal.invariant-loop-b
invariant-loop-b l = written l.page (trimmed (drop l.b-index l.b-items)) ≡ written l.initial.page (trimmed l.b-items)
