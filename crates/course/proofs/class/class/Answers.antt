-- `course::class::class` meets its contract.
use mathlib.Core.Path.{sym, ap, ◌∙◌}
use native.Mathlib.Omega.{arith}
use lib.ListN.{length}
use lib.Seq.{length-take-le}
use Rattle.state.proofs.Sized.{session_sized}
use Rattle.state.proofs.Refused.{not_none}
use Rattle.command.specs.Printing.{written}
use Rattle.session.specs.Contract.{Answer, answer_of}
use Rattle.turns.specs.Contract.{classed}
use Rattle.course.specs.Answers.{zeros}
use Rattle.course.proofs.ClassLines.{class-room, class-refused, class-printed}
use Rattle.course.proofs.class.class.Goals as goal

pub slice_bounds-answers-end : goal.slice_bounds-answers-end
unfolding zeros classed answer_of
slice_bounds-answers-end c =
    let a = c.args in
    let e = sym (ap (λ (x : Answer). x.refusal) c.in-Ok.ensures.answer) in
    let room = class-room a.session (session_sized c.well_formed.1.0) a.journal.now a.scripts.now a.turns.now e in
    omega (arith, room.0, c.class.auto.answers)

pub slice_bounds-turn_lines-end : goal.slice_bounds-turn_lines-end
unfolding zeros classed answer_of
slice_bounds-turn_lines-end c =
    let a = c.args in
    let e = sym (ap (λ (x : Answer). x.refusal) c.in-Ok.ensures.answer) in
    let room = class-room a.session (session_sized c.well_formed.1.0) a.journal.now a.scripts.now a.turns.now e in
    sym (length-take-le (length a.turns.now) c.class.new.answers (omega (arith, room.0, c.class.auto.answers)))

pub turn_lines-requires : goal.turn_lines-requires
unfolding zeros classed answer_of
turn_lines-requires c =
    let a = c.args in
    let e = sym (ap (λ (x : Answer). x.refusal) c.in-Ok.ensures.answer) in
    let room = class-room a.session (session_sized c.well_formed.1.0) a.journal.now a.scripts.now a.turns.now e in
    let n = length-take-le (length a.turns.now) c.class.new.answers (omega (arith, room.0, c.class.auto.answers)) in
    rw (n, c.picture_bytes-size.ensures) (omega (arith, room.1, c.class.auto.pictures))

pub returns-in-Ok : goal.returns-in-Ok
unfolding zeros classed answer_of
returns-in-Ok c =
    let a = c.args in
    let e = sym (ap (λ (x : Answer). x.refusal) c.in-Ok.ensures.answer) in
    record {
      session_value = ap (λ (x : Answer). x.session) c.in-Ok.ensures.answer;
      journal_after = c.in-Ok.ensures.journal;
      page_after = c.turn_lines.ensures ∙ ap (written a.page.now) (rw c.picture_bytes-size.ensures (class-printed a.session (session_sized c.well_formed.1.0) a.journal.now a.scripts.now a.turns.now _ _ e c.in-Ok.ensures.answers c.in-Ok.ensures.pictures));
    }

pub returns-in-Err : goal.returns-in-Err
unfolding zeros classed answer_of
returns-in-Err c =
    let a = c.args in
    let e = ap (λ (x : Answer). x.refusal) c.in-Err.ensures.answer in
    record {
      session_value = ap (λ (x : Answer). x.session) c.in-Err.ensures.answer;
      journal_after = c.in-Err.ensures.journal;
      page_after = c.number_line.ensures ∙ ap (written a.page.now) (class-refused a.session (session_sized c.well_formed.1.0) a.journal.now a.scripts.now a.turns.now _ (c.number.ensures ∙ e) (λ z. not_none c.in-Err.refusal (sym c.number.ensures ∙ z)));
    }
