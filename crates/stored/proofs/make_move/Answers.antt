-- `stored::make_move` meets its contract.
-- Assumes nothing.
use mathlib.Core.Path.{ap, ◌∙◌}
use Rattle.std.proofs.lemmas.Result.{err_from_is_err_and}
use Rattle.state.specs.declared.Session.{Session}
use Rattle.state.specs.Refusal.{outcome}
use Rattle.session.specs.Contract.{MoveAnswer, move_answer_of, moved, journal_after}
use Rattle.reference.specs.Step.{move_of}
use Rattle.stored.specs.Calls.{move_bytes}
use Rattle.stored.proofs.Valid.{move-left}
use Rattle.stored.proofs.Answered.{stays, fits, wrote}
use Rattle.stored.proofs.make_move.Goals as goal

pub returns-in_err-made : goal.returns-in_err-made
unfolding outcome move_answer_of move_bytes
returns-in_err-made c =
    let t = err_from_is_err_and c.from_residual.result c.from_residual.ensures.1 in
    let a = c.args in
    let k = c.in_err-made.ensures.answer ∙ ap (λ (s : Session). moved s a.journal.now (move_of a.p a.a a.o)) c.read.ensures in
    let n = ap (λ (x : MoveAnswer). x.refusal) k in
    record { number = rw (t.1, t.2) n; session = stays _ _ _ c.in_err-made.field-0.0 n; journal = c.in_err-made.ensures.written ∙ ap (λ (s : Session). journal_after s a.journal.now (move_of a.p a.a a.o)) c.read.ensures }

pub write-requires : goal.write-requires
unfolding move_answer_of
write-requires c =
    let a = c.args in
    let k = c.in_ok-made.ensures.answer ∙ ap (λ (s : Session). moved s a.journal.now (move_of a.p a.a a.o)) c.read.ensures in
    fits _ _ _ _ (ap (λ (x : MoveAnswer). x.refusal) k) (ap (λ (x : MoveAnswer). x.session) k) (move-left a.session.now a.journal.now (move_of a.p a.a a.o))

pub returns : goal.returns
unfolding outcome move_answer_of move_bytes
returns c =
    let a = c.args in
    let k = c.in_ok-made.ensures.answer ∙ ap (λ (s : Session). moved s a.journal.now (move_of a.p a.a a.o)) c.read.ensures in
    let n = ap (λ (x : MoveAnswer). x.refusal) k in
    record { number = n; session = c.write.ensures ∙ wrote _ _ _ _ n (ap (λ (x : MoveAnswer). x.session) k); journal = c.in_ok-made.ensures.written ∙ ap (λ (s : Session). journal_after s a.journal.now (move_of a.p a.a a.o)) c.read.ensures }
