-- `session::replay::reached` meets its contract.
-- Assumes nothing.
use native.Mathlib.Omega.{arith}
use Rattle.session.proofs.Found.{journal_long, low-all, low-none, high-all, high-none, high_counts, rest-none, rest-all}
use Rattle.session.proofs.replay.reached.Goals as goal

pub part-requires : goal.part-requires
part-requires c =
    let q = c.requires in
    (omega arith, omega (arith, q.1, q.2, journal_long _ _ q.0))

pub returns-in_err-low : goal.returns-in_err-low
returns-in_err-low c =
    let a = c.args in
    let q = c.requires in
    let e = low-none a.session a.journal.now q.0 a.a a.b q.1 q.2 _ c.start-first.ensures c.in_err-low.ensures.run a.calls.now _ c.in_err-low.ensures.calls in
    rw c.from_residual.ensures (record { states = e.0; calls = e.1 })

pub part-requires-2 : goal.part-requires-2
part-requires-2 c =
    let q = c.requires in
    (q.1, omega (arith, q.2, journal_long _ _ q.0))

pub returns-in_err-high : goal.returns-in_err-high
returns-in_err-high c =
    let a = c.args in
    let q = c.requires in
    let low = low-all a.session a.journal.now q.0 a.a a.b q.1 q.2 _ c.start-first.ensures c.in_ok-low.low c.in_ok-low.ensures.run in
    rw c.from_residual-in_err-high.ensures
    (record {
      states = high-none a.session a.journal.now q.0 a.a a.b q.1 q.2 _ c.start-first.ensures _ low c.in_err-high.ensures.run;
      calls = high_counts a.session a.journal.now q.0 a.a a.b q.1 q.2 _ c.start-first.ensures _ low a.calls.now _ _ c.in_ok-low.ensures.calls c.in_err-high.ensures.calls;
    })

pub part-requires-3 : goal.part-requires-3
part-requires-3 c = (c.requires.2, journal_long _ _ c.requires.0)

pub returns-in_err-part : goal.returns-in_err-part
returns-in_err-part c =
    let a = c.args in
    let q = c.requires in
    let low = low-all a.session a.journal.now q.0 a.a a.b q.1 q.2 _ c.start-first.ensures c.in_ok-low.low c.in_ok-low.ensures.run in
    let high = high-all a.session a.journal.now q.0 a.a a.b q.1 q.2 _ c.start-first.ensures _ low c.in_ok-high.high c.in_ok-high.ensures.run in
    rw c.from_residual-in_err-part.ensures
    (record {
      states = rest-none a.session a.journal.now q.0 a.a a.b q.1 q.2 _ c.start-first.ensures _ low _ high c.in_err-part.ensures.run;
      calls = high_counts a.session a.journal.now q.0 a.a a.b q.1 q.2 _ c.start-first.ensures _ low a.calls.now _ _ c.in_ok-low.ensures.calls c.in_ok-high.ensures.calls;
    })

pub returns : goal.returns
returns c =
    let a = c.args in
    let q = c.requires in
    let low = low-all a.session a.journal.now q.0 a.a a.b q.1 q.2 _ c.start-first.ensures c.in_ok-low.low c.in_ok-low.ensures.run in
    let high = high-all a.session a.journal.now q.0 a.a a.b q.1 q.2 _ c.start-first.ensures _ low c.in_ok-high.high c.in_ok-high.ensures.run in
    record {
      states = rest-all a.session a.journal.now q.0 a.a a.b q.1 q.2 _ c.start-first.ensures _ low _ high _ c.in_ok-part.ensures.run;
      calls = high_counts a.session a.journal.now q.0 a.a a.b q.1 q.2 _ c.start-first.ensures _ low a.calls.now _ _ c.in_ok-low.ensures.calls c.in_ok-high.ensures.calls;
    }
