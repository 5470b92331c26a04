-- `picture::waiting::turns_ahead` meets its contract.
-- Assumes nothing.
use native.Mathlib.Omega.{arith}
use Rattle.state.specs.Record.{thread_of}
use Rattle.picture.specs.Turns.{turns_shown}
use Rattle.picture.proofs.Formula.{turns-none, turns_free, turns-owned, walk_most}
use Rattle.picture.proofs.waiting.turns_ahead.Goals as goal

pub returns-then-x-ne2 : goal.returns-then-x-ne2
unfolding turns_shown
returns-then-x-ne2 c = let a = c.args in turns-none a.s a.thread c.at-x.result c.at-x.ensures c.if-x-ne2.true

pub returns-then-mutex-eq0 : goal.returns-then-mutex-eq0
unfolding turns_shown
returns-then-mutex-eq0 c =
    let a = c.args in
    turns_free a.s a.thread c.at-x.result c.at-x.ensures c.if-x-ne2.false c.at-first.result c.before-n.result c.at-mutex.result c.at-first.ensures c.before-n.ensures
    c.at-mutex.ensures c.if-mutex-eq0.true

pub overflow_add-result : goal.overflow_add-result
overflow_add-result c = let a = c.args in omega (arith, c.before-n.ensures, walk_most (thread_of a.s) a.thread 32 c.at-first.result)

pub returns : goal.returns
unfolding turns_shown
returns c =
    let a = c.args in
    turns-owned a.s a.thread c.at-x.result c.at-x.ensures c.if-x-ne2.false c.at-first.result c.before-n.result c.at-mutex.result c.at-first.ensures c.before-n.ensures
    c.at-mutex.ensures c.if-mutex-eq0.false
