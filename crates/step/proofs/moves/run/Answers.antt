-- `step::moves::run` meets its contract: each turn of the loop makes the next move.
-- Assumes nothing.
use Rattle.std.proofs.Common.{ℕ, ◌≡◌, ◌/◌, refl, sym, ap, ◌∙◌, length}
use native.Mathlib.Omega.{arith}
use Rattle.state.specs.Refusal.{number, outcome}
use Rattle.state.proofs.Refused.{not_none}
use Rattle.step.specs.Model.Moves.{ran}
use Rattle.step.proofs.InPlace.{running_start, running_stop, running_more, running_end}
use Rattle.step.proofs.moves.run.Goals as goal

pub loop-made-init : goal.loop-made-init
loop-made-init c = running_start c.args.s c.args.moves.now c.args.calls.now

pub returns-in-Err : goal.returns-in-Err
unfolding outcome
returns-in-Err c =
    let a = c.args in
    let l = c.loop-made in
    let e = c.in-Err.refusal in
    let stop = running_stop a.s a.moves.now a.calls.now l.made l.s l.calls l.invariant (omega arith) (number e) c.make.new.s c.in-Err.ensures (not_none e) in
    record { state = stop.0; calls = stop.1 }

pub loop-made-preserved : goal.loop-made-preserved
unfolding outcome
loop-made-preserved c =
    let a = c.args in
    let l = c.loop-made in
    running_more a.s a.moves.now a.calls.now l.made l.s l.calls l.invariant (omega arith) 0 c.make.new.s c.in_default.ensures c.note_move.new.calls refl
    (rw c.current-caller.ensures at c.note_move.ensures)

pub returns : goal.returns
unfolding outcome
returns c =
    let l = c.loop-made in
    let n : l.made ≡ length c.args.moves.now / 3 = omega arith in
    let end = running_end c.args.s c.args.moves.now c.args.calls.now l.made l.s l.calls l.invariant n in
    record { state = ap (λ (k : ℕ). ran 0 k l.s) (sym n) ∙ end.0; calls = end.1 }
