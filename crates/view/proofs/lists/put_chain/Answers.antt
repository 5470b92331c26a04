-- `view::lists::put_chain` meets its contract.
use Rattle.std.proofs.Common.{◌+◌, ◌-◌, ◌≡◌, sym, ap, arith, ◌∙◌}
use Rattle.state.specs.declared.Thread.{Thread}
use Rattle.state.specs.Record.{thread_in}
use Rattle.view.proofs.Rows.{chain_next, chain_stop, chain_end}
use Rattle.view.proofs.lists.put_chain.Goals as goal

pub loop-preserved : goal.loop-preserved
loop-preserved c =
    let k : c.at-k.result.next ≡ (thread_in c.args.threads.now c.loop.k).next = ap (λ (x : Thread). x.next) c.at-k.ensures in
    rw k (chain_next (thread_in c.args.threads.now) _ _ c.loop.k (32 - c.loop.counter) (32 - (c.loop.counter + 1)) c.if-k-eq0.false (omega arith) c.put_field.ensures) ∙ c.loop.invariant

pub returns-after-loop : goal.returns-after-loop
returns-after-loop c = sym (chain_end (thread_in c.args.threads.now) _ _ _ (omega arith)) ∙ c.loop.invariant

pub returns-then-k-eq0 : goal.returns-then-k-eq0
returns-then-k-eq0 c = sym (chain_stop (thread_in c.args.threads.now) _ _ _ c.if-k-eq0.true) ∙ c.loop.invariant
