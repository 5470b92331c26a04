-- `turns::class` meets its contract.
-- Assumes nothing.
use Rattle.std.proofs.lemmas.Result.{err_from_is_err_and}
use Rattle.state.specs.Refusal.{outcome}
use Rattle.turns.proofs.Answers.{class_unfit, class_strange, class_unscripted, class_ready, class_given}
use Rattle.turns.proofs.class.Goals as goal

pub returns-in_err-unfit : goal.returns-in_err-unfit
unfolding outcome
returns-in_err-unfit c =
    let t = err_from_is_err_and c.from_residual.result c.from_residual.ensures.1 in
    let a = c.args in
    let k = class_unfit a.session a.journal.now a.scripts.now a.turns.now a.answers.now a.pictures.now c.in_err-unfit.field-0.0 c.in_err-unfit.ensures in
    record { answer = rw (t.1, t.2) k.answer; journal = k.journal; answers = k.numbers; pictures = k.pictured }

pub returns-in_err-calls : goal.returns-in_err-calls
unfolding outcome
returns-in_err-calls c =
    let t = err_from_is_err_and c.from_residual-in_err-calls.result c.from_residual-in_err-calls.ensures.1 in
    let a = c.args in
    let k = class_strange a.session a.journal.now a.scripts.now a.turns.now a.answers.now a.pictures.now c.in_ok-unfit.ensures c.in_err-calls.field-0.0 c.in_err-calls.ensures in
    record { answer = rw (t.1, t.2) k.answer; journal = k.journal; answers = k.numbers; pictures = k.pictured }

pub returns-in_err-test_scripts : goal.returns-in_err-test_scripts
unfolding outcome
returns-in_err-test_scripts c =
    let t = err_from_is_err_and c.from_residual-in_err-test_scripts.result c.from_residual-in_err-test_scripts.ensures.1 in
    let a = c.args in
    let k =
    class_unscripted a.session a.journal.now a.scripts.now a.turns.now a.answers.now a.pictures.now c.in_ok-unfit.ensures _ c.in_ok-calls.ensures
    c.in_err-test_scripts.field-0.0 c.in_err-test_scripts.ensures in
    record { answer = rw (t.1, t.2) k.answer; journal = k.journal; answers = k.numbers; pictures = k.pictured }

pub take_turns-state-requires : goal.take_turns-state-requires
unfolding outcome
take_turns-state-requires c =
    let a = c.args in
    class_ready a.session a.journal.now a.scripts.now a.turns.now a.answers.now a.pictures.now c.in_ok-unfit.ensures _ c.in_ok-calls.ensures c.in_ok-test_scripts.ensures

pub returns : goal.returns
unfolding outcome
returns c =
    let a = c.args in
    let ready =
    class_ready a.session a.journal.now a.scripts.now a.turns.now a.answers.now a.pictures.now c.in_ok-unfit.ensures _ c.in_ok-calls.ensures c.in_ok-test_scripts.ensures in
    let k = class_given a.session a.journal.now a.scripts.now a.turns.now a.answers.now a.pictures.now ready.none c.take_turns-state.result _ _ _ c.take_turns-state.ensures in
    record { answer = rw c.continued.ensures k.0; journal = k.1; answers = k.2; pictures = k.3 }
