-- `view::lists::put_chain` meets its contract.
use mathlib.Core.Path.{◌≡◌}
use Prim.Native.Nat.{◌-◌}
use Rattle.command.specs.Printing.{written}
use Rattle.command.specs.Request.{fields}
use Rattle.state.specs.Record.{thread_in, chain}
use Rattle.view.proofs.lists.put_chain.Given as goal

abbrev pub invariant-loop : goal.invariant-loop
invariant-loop l = written l.page (fields (chain (thread_in l.threads) (32 - l.counter) l.k)) ≡ written l.initial.page (fields (chain (thread_in l.threads) 32 l.first))
