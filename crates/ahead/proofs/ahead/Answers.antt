-- `ahead::ahead` meets its contract.
-- Assumes nothing.
use Prim.Native.Nat.{ℕ}
use mathlib.Core.Bool.{true}
use mathlib.Core.Path.{◌≡◌, ap, sym, ◌∙◌}
use Rattle.reference.specs.Lists.{in_range}
use Rattle.reference.proofs.Tests.{range_true}
use Rattle.state.specs.declared.State.{State}
use Rattle.state.specs.Record.{Sized}
use Rattle.state.specs.Rules.{state_ok}
use Rattle.state.proofs.Sized.{sized}
use Rattle.ahead.specs.Turns.{Ahead, ahead_shown, ahead, meaning}
use Rattle.ahead.specs.Model.Waiting.{chain_answer}
use Rattle.ahead.proofs.Formula.{chain_formula, meaning-ahead}
use Rattle.ahead.proofs.ahead.Goals as goal

-- of a thread that is there, by its own record
there : (r : State) → Sized r → (k : ℕ) → (a : Ahead) → a ≡ chain_answer r k → state_ok r ≡ true → in_range 1 r.t k ≡ true → a ≡ ahead r k
unfolding ahead
there r z k a e ok h = e ∙ chain_formula r z ok k (range_true 1 r.t k h) ∙ sym (rw (ok, h))

pub returns-clause-shown : goal.returns-clause-shown
unfolding ahead_shown
returns-clause-shown c =
    let a = c.args in
    there a.s (sized c.well_formed.0) a.thread _ c.turns_ahead.ensures (sym c.state_ok.ensures ∙ c.if-not-state_ok.false) (sym c.in_range.ensures ∙ c.if-not-in_range.false)

pub returns-clause-means : goal.returns-clause-means
unfolding ahead_shown
returns-clause-means c =
    let a = c.args in
    ap meaning (there a.s (sized c.well_formed.0) a.thread _ c.turns_ahead.ensures (sym c.state_ok.ensures ∙ c.if-not-state_ok.false) (sym c.in_range.ensures ∙ c.if-not-in_range.false)) ∙
    meaning-ahead a.s a.thread
