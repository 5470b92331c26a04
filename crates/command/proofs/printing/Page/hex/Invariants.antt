-- `command::printing::Page::hex` meets its contract.
use Rattle.std.proofs.Common.{◌≡◌, take}
use Rattle.command.specs.Printing.{hex, written}
use Rattle.command.proofs.printing.Page.hex.Given as goal

abbrev pub invariant-loop-b : goal.invariant-loop-b
invariant-loop-b l = l.self ≡ written l.initial.self (hex (take l.b-index l.bytes))
