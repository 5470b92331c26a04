-- `state::start::first_position` meets its contract.
-- Assumes nothing.
use Prim.Native.Nat.{ℕ}
use mathlib.Core.Bool.{Bool}
use mathlib.Core.Path.{sym, ap, ◌∙◌}
use Rattle.reference.specs.Lists.{choose}
use Rattle.state.proofs.Begun.{position_first}
use Rattle.state.proofs.start.first_position.Goals as goal

pub returns-then-idle : goal.returns-then-idle
returns-then-idle c = sym (ap (λ (t : Bool). choose {A = ℕ} t 1 0) c.if-idle.true) ∙ position_first c.args.p c.args.b c.args.i

pub returns-else-idle : goal.returns-else-idle
returns-else-idle c = sym (ap (λ (t : Bool). choose {A = ℕ} t 1 0) c.if-idle.false) ∙ position_first c.args.p c.args.b c.args.i
