-- `state::start::first_current` meets its contract.
-- Assumes nothing.
use Prim.Native.Nat.{ℕ}
use mathlib.Core.Bool.{Bool}
use mathlib.Core.Path.{sym, ap, ◌∙◌}
use Rattle.reference.specs.Lists.{choose}
use Rattle.state.proofs.Begun.{current-first}
use Rattle.state.proofs.start.first_current.Goals as goal

pub returns-then-loaded : goal.returns-then-loaded
returns-then-loaded c = sym (ap (λ (t : Bool). choose {A = ℕ} t c.args.i 0) c.if-loaded.true) ∙ current-first c.args.p c.args.b c.args.i

pub returns-else-loaded : goal.returns-else-loaded
returns-else-loaded c = sym (ap (λ (t : Bool). choose {A = ℕ} t c.args.i 0) c.if-loaded.false) ∙ current-first c.args.p c.args.b c.args.i
