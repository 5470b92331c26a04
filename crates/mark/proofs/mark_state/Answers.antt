-- `mark::mark_state` meets its contract.
-- Assumes nothing.
use mathlib.Core.Path.{refl, sym, ◌∙◌}
use borrow.Author.Rules.{rules}
use Rattle.state.specs.Refusal.{outcome}
use Rattle.mark.proofs.Cases.{state-refused, state-accepted}
use Rattle.mark.proofs.mark_state.Goals as goal

pub returns-in_err-write : goal.returns-in_err-write
unfolding outcome
returns-in_err-write c =
    let e = state-refused c.args.s _ c.in_err-write.ensures.number c.args.candidate.now in
    search rules

pub returns : goal.returns
unfolding outcome
returns c =
    let n = c.in_ok-write.ensures.number in
    c.mark.ensures ∙ state-accepted c.args.s (sym n) _ _ _ refl c.write.ensures.bytes c.picture_bytes-n.ensures _
