-- `exports::neighbours::may_exchange` meets its contract.
-- Assumes nothing.
use mathlib.Core.Path.{refl, ◌∙◌}
use native.Mathlib.Omega.{arith}
use Rattle.std.proofs.lemmas.Result.{err_from_is_err_and}
use Rattle.session.specs.Contract.{table}
use Rattle.step.specs.Model.Moves.{run_shown}
use Rattle.exports.proofs.Pairs.{moves-refused, no_place, past_end, bit_is, answered}
use Rattle.exports.proofs.neighbours.may_exchange.Goals as goal
use Rattle.exports.proofs.neighbours.may_exchange.Goals.{then-k-eq0-via-then-k-eq0, then-k-eq0-via-else-k-eq0+then-moves-k}

pub returns-in_err-replay : goal.returns-in_err-replay
returns-in_err-replay c =
    let t = err_from_is_err_and c.from_residual.result c.from_residual.ensures.1 in
    let a = c.args in
    record {
      answer = rw (t.1, t.2) (moves-refused (table a.p a.t a.m a.b a.stealing) a.moves.now a.first c.in_err-replay.field-0.0 c.in_err-replay.ensures.state);
      place = c.replay.ensures.place;
    }

pub returns-then-k-eq0-clause-answer : goal.returns-then-k-eq0-clause-answer
returns-then-k-eq0-clause-answer c =
    let a = c.args in
    elim c.then-k-eq0.branch [
      | then-k-eq0-via-then-k-eq0 w ↦ no_place (table a.p a.t a.m a.b a.stealing) a.moves.now a.first c.in_ok-replay.field-0 c.in_ok-replay.ensures.state w.if-k-eq0.true
      | then-k-eq0-via-else-k-eq0+then-moves-k w ↦
          past_end (table a.p a.t a.m a.b a.stealing) a.moves.now a.first c.in_ok-replay.field-0 c.in_ok-replay.ensures.state w.if-k-eq0.false w.if-moves-k.true
    ]

pub returns-clause-answer : goal.returns-clause-answer
returns-clause-answer c =
    let a = c.args in
    rw (c.from.ensures, bit_is)
    (answered (table a.p a.t a.m a.b a.stealing) a.moves.now a.first c.in_ok-replay.field-0 c.in_ok-replay.ensures.state c.if-k-eq0.false (omega (arith, c.if-moves-k.false))
    (run_shown c.run-before.result) (c.run-before.ensures.state ∙ rw c.start.ensures refl) c.independent.result c.independent.ensures)
