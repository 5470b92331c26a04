-- `command::printing::Page::spaces` meets its contract.
use Rattle.std.proofs.Common.{◌≡◌}
use Rattle.command.specs.Printing.{spaces, written}
use Rattle.command.proofs.printing.Page.spaces.Given as goal

abbrev pub invariant-loop : goal.invariant-loop
invariant-loop l = l.self ≡ written l.initial.self (spaces l.counter)
