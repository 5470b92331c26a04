-- `stored::goto` meets its contract.
-- Assumes nothing.
use mathlib.Core.Path.{ap, ◌∙◌}
use Rattle.std.proofs.lemmas.Result.{err_from_is_err_and}
use Rattle.state.specs.declared.Session.{Session}
use Rattle.state.specs.Refusal.{outcome}
use Rattle.session.specs.Contract.{Answer, answer_of, went}
use Rattle.stored.specs.Calls.{goto_bytes}
use Rattle.stored.proofs.Valid.{goto-left}
use Rattle.stored.proofs.Answered.{stays, fits, wrote}
use Rattle.stored.proofs.goto.Goals as goal

pub returns-in_err-there : goal.returns-in_err-there
unfolding outcome answer_of goto_bytes
returns-in_err-there c =
    let t = err_from_is_err_and c.from_residual.result c.from_residual.ensures.1 in
    let a = c.args in
    let k = c.in_err-there.ensures ∙ ap (λ (s : Session). went s a.journal.now a.k) c.read.ensures in
    let n = ap (λ (x : Answer). x.refusal) k in
    record { number = rw (t.1, t.2) n; session = stays _ _ _ c.in_err-there.field-0.0 n }

pub write-requires : goal.write-requires
unfolding answer_of
write-requires c =
    let a = c.args in
    let k = c.in_ok-there.ensures ∙ ap (λ (s : Session). went s a.journal.now a.k) c.read.ensures in
    fits _ _ _ _ (ap (λ (x : Answer). x.refusal) k) (ap (λ (x : Answer). x.session) k) (goto-left a.session.now a.journal.now a.k)

pub returns : goal.returns
unfolding outcome answer_of goto_bytes
returns c =
    let a = c.args in
    let k = c.in_ok-there.ensures ∙ ap (λ (s : Session). went s a.journal.now a.k) c.read.ensures in
    let n = ap (λ (x : Answer). x.refusal) k in
    record { number = n; session = c.write.ensures ∙ wrote _ _ _ _ n (ap (λ (x : Answer). x.session) k) }
