-- `session::make_move` meets its contract.
-- Assumes nothing.
use mathlib.Core.Path.{refl, sym, ◌∙◌}
use Rattle.std.proofs.lemmas.Result.{err_from_is_err_and}
use Rattle.state.specs.Refusal.{outcome}
use Rattle.state.proofs.Sized.{session_sized}
use Rattle.reference.specs.Step.{move_of}
use Rattle.session.proofs.Answers.{move_untested, made_accepted, made_refused}
use Rattle.session.proofs.make_move.Goals as goal

pub returns-in_err-test : goal.returns-in_err-test
unfolding outcome
returns-in_err-test c =
    let t = err_from_is_err_and c.from_residual.result c.from_residual.ensures.1 in
    let a = c.args in
    let all = move_untested a.session a.journal.now (move_of a.p a.a a.o) _ c.in_err-test.ensures.number in
    rw (t.1, t.2) (record { answer = all.0; written = all.1 })

pub returns-in_err-made : goal.returns-in_err-made
unfolding outcome
returns-in_err-made c =
    let t = err_from_is_err_and c.from_residual-in_err-made.result c.from_residual-in_err-made.ensures.1 in
    let a = c.args in
    let all = made_refused a.session a.journal.now (move_of a.p a.a a.o) (session_sized c.well_formed.0) (sym c.in_ok-test.ensures.number) _ refl _ c.in_err-made.ensures in
    rw (t.1, t.2) (record { answer = all.0; written = all.1 })

pub returns : goal.returns
unfolding outcome
returns c =
    let a = c.args in
    let all = made_accepted a.session a.journal.now (move_of a.p a.a a.o) (session_sized c.well_formed.0) (sym c.in_ok-test.ensures.number) _ refl c.in_ok-made.made c.in_ok-made.ensures _
    (rw c.continued.ensures) in
    record { answer = all.0; written = c.keep_move.ensures ∙ all.1 }
