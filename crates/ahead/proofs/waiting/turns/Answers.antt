-- `ahead::waiting::turns` meets its contract.
-- Assumes nothing.
use native.Mathlib.Omega.{arith}
use Rattle.state.specs.Record.{thread_of}
use Rattle.ahead.proofs.Walk.{walk_most, turns_free, turns-owned}
use Rattle.ahead.proofs.waiting.turns.Goals as goal

pub returns-then-mutex-eq0 : goal.returns-then-mutex-eq0
returns-then-mutex-eq0 c =
    let a = c.args in
    turns_free a.s.now a.m a.thread c.at.result c.before-n.result c.at-mutex.result c.at.ensures c.before-n.ensures c.at-mutex.ensures c.if-mutex-eq0.true

pub overflow_add-result : goal.overflow_add-result
overflow_add-result c = let a = c.args in omega (arith, c.before-n.ensures, walk_most (thread_of a.s.now) a.thread 32 c.at.result)

pub returns : goal.returns
returns c =
    let a = c.args in
    turns-owned a.s.now a.m a.thread c.at.result c.before-n.result c.at-mutex.result c.at.ensures c.before-n.ensures c.at-mutex.ensures c.if-mutex-eq0.false
