-- `ahead::waiting::turns_ahead` meets its contract.
-- Assumes nothing.
use mathlib.Core.Path.{sym}
use Rattle.ahead.specs.Turns.{place_shown}
use Rattle.ahead.proofs.Formula.{answer-none, answer-some}
use Rattle.ahead.proofs.waiting.turns_ahead.Goals as goal

pub returns-then-x-ne2 : goal.returns-then-x-ne2
unfolding place_shown
returns-then-x-ne2 c = answer-none c.args.s.now c.args.thread c.at-x.result c.at-x.ensures c.if-x-ne2.true

pub returns : goal.returns
unfolding place_shown
returns c =
    answer-some c.args.s.now c.args.thread c.at-x.result c.at-x.ensures c.if-x-ne2.false c.turns.result c.turns.ensures c.marked.result (sym c.marked.ensures)
