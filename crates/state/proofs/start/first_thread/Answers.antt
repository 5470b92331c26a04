-- `state::start::first_thread` meets its contract.
-- Assumes nothing.
use mathlib.Core.Path.{◌∙◌}
use Rattle.state.proofs.Begun.{thread_loaded, thread-ready, thread-none}
use Rattle.state.proofs.start.first_thread.Goals as goal

pub returns-then-k-p : goal.returns-then-k-p
returns-then-k-p c = let a = c.args in thread_loaded a.p a.b a.stealing a.k c.if-created.true c.if-k-p.true

pub returns-then-created : goal.returns-then-created
returns-then-created c =
    let index = c in
    let a = index.args in
    rw (c.up_to-n.ensures, c.ready_queues.ensures, c.queued_in-x.ensures, index.first_index.ensures)
    (thread-ready a.p a.b a.stealing a.k index.if-created.true index.if-k-p.false)

pub returns : goal.returns
returns c =
    let a = c.args in
    c.zero.ensures ∙ thread-none a.p a.b a.stealing a.k c.if-created.false
