-- `command::printing::Page::put` meets its contract.
use Rattle.std.proofs.Common.{◌≡◌, take}
use Rattle.command.specs.Printing.{written}
use Rattle.command.proofs.printing.Page.put.Given as goal

abbrev pub invariant-loop-b : goal.invariant-loop-b
invariant-loop-b l = l.self ≡ written l.initial.self (take l.b-index l.text)
