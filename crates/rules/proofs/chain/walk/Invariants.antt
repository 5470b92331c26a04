-- `rules::chain::walk` meets its contract: the bits are the threads met so far, and what is left to walk gives the whole walk.
-- Assumes nothing.
use Prim.Native.Nat.{ℕ, ◌-◌}
use mathlib.Core.List.{List}
use mathlib.Core.Path.{◌≡◌}
use Rattle.rules.specs.Walk.{Bits, along}
use Rattle.rules.proofs.chain.walk.Given as goal

abbrev pub invariant-loop : goal.invariant-loop
invariant-loop g now =
    let thread = g.T.ThreadTable.thread now.threads in
    (l : List ℕ) → Bits now.before l → (m : List ℕ) × Bits now.met m × (along thread now.q (now.most - now.counter) now.k m ≡ along thread now.q now.most now.first l)
