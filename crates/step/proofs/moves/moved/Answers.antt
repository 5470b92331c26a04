-- `step::moves::moved` meets its contract: it makes a list of one move.
-- Assumes nothing.
use Rattle.std.proofs.Common.{ℕ, ◌≡◌, sym, ap, ◌∙◌, [], ◌∷◌}
use Rattle.std.proofs.lemmas.Result.{err_from_is_err_and}
use Rattle.state.specs.declared.State.{State}
use Rattle.state.specs.Refusal.{number, outcome}
use Rattle.state.proofs.Refused.{not_none}
use Rattle.step.specs.declared.Run as code
use Rattle.step.specs.Model.Moves.{Run, Moved, run_shown, run_of, moved_of, moved_shown}
use Rattle.step.proofs.InPlace.{left_alone, moved-is}
use Rattle.step.proofs.moves.moved.Goals as goal

alone : (s : State) (p a o : ℕ) (r : code.Run) → run_shown r ≡ run_of s (p ∷ a ∷ o ∷ []) → record { refusal = outcome r.outcome; state = r.state } ≡ moved_of s p a o
alone s p a o r e = ap (λ (x : Run). record { refusal = x.refusal; state = x.state }) e ∙ moved-is s p a o

pub returns-in-Ok : goal.returns-in-Ok
unfolding outcome moved_shown
returns-in-Ok c =
    let a = c.args in
    let r = c.run-done.result in
    ap (λ (n : ℕ). record { refusal = n; state = r.state }) (ap outcome (sym c.in-Ok.is)) ∙ alone a.s a.p a.action a.operand r c.run-done.ensures.state

pub returns-in-Err : goal.returns-in-Err
unfolding outcome moved_shown
returns-in-Err c =
    let a = c.args in
    let r = c.run-done.result in
    let e = c.in-Err.refusal in
    let whole = ap (λ (n : ℕ). record { refusal = n; state = r.state }) (ap outcome (sym c.in-Err.is)) ∙ alone a.s a.p a.action a.operand r c.run-done.ensures.state in
    let same = left_alone a.s a.p a.action a.operand (number e) r.state whole (not_none e) in
    ap (λ (x : State). record { refusal = number e; state = x }) (sym same) ∙ whole
