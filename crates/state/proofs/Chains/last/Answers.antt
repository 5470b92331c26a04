-- `state::Chains::last` meets its contract.
-- Assumes nothing.
use Rattle.std.proofs.Common.{◌≡◌, ◌+◌, ◌-◌, suc, sym, ◌∙◌}
use native.Mathlib.Omega.{arith}
use Rattle.state.specs.Model.Access.{next_of, last_from}
use Rattle.state.proofs.Joining.{last-stop, last_on}
use Rattle.state.proofs.Chains.last.Goals as goal

pub returns-then-next-eq0 : goal.returns-then-next-eq0
returns-then-next-eq0 c =
    let l = c.loop in
    let ts = c.args.self.now.threads in
    let n : next_of ts l.k ≡ 0 = rw c.at-next.ensures at c.if-next-eq0.true in
    sym (last-stop ts (32 - l.counter) l.k n) ∙ l.invariant

pub loop-preserved : goal.loop-preserved
loop-preserved c =
    let l = c.loop in
    let ts = c.args.self.now.threads in
    let e : 32 - l.counter ≡ suc (32 - (l.counter + 1)) = omega arith in
    rw c.at-next.ensures
    (sym (last_on ts (32 - (l.counter + 1)) l.k (rw c.at-next.ensures at c.if-next-eq0.false)) ∙ rw (← e) l.invariant)

pub returns : goal.returns
unfolding last_from
returns c = let e : 32 - c.loop.counter ≡ 0 = omega arith in rw e at c.loop.invariant
