-- `rules::zero::zero_past` meets its contract.
-- Assumes nothing.
use Prim.Native.Nat.{ℕ}
use native.Mathlib.Omega.{arith}
use borrow.Author.Rules.{rules}
use Rattle.state.specs.Record.{processor_of, mutex_of, thread_of}
use Rattle.state.specs.Rules.{zero_past, within_or, zero_processor?, zero_mutex?, zero_thread?}
use Rattle.rules.proofs.zero.zero_past.Goals as goal

pub returns : goal.returns
unfolding zero_past
returns c =
    let s = c.args.s in
    let a = c.each.ensures (λ (i : ℕ). within_or s.p i (zero_processor? (processor_of s i))) (λ i h b k. search rules) (omega arith) in
    let m = c.each-2.ensures (λ (i : ℕ). within_or s.m i (zero_mutex? (mutex_of s i))) (λ i h b k. search rules) (omega arith) in
    let t = c.each-3.ensures (λ (i : ℕ). within_or s.t i (zero_thread? (thread_of s i))) (λ i h b k. search rules) (omega arith) in
    rw (a, m, t)
