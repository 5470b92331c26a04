-- `state::range::each` meets its contract: the test held of the numbers so far.
-- Assumes nothing.
use Rattle.std.proofs.Common.{ℕ, ◌+◌, ◌%◌, ◌<◌, ◌≡◌, Bool, true, false, refl, sym, ◌∙◌, arith}
use Rattle.reference.specs.Lists.{each}
use Rattle.reference.proofs.Each.{each_none, each_more, each_at}
use Rattle.state.proofs.range.each.Goals as goal

-- a number at which the test fails
fails : (test : ℕ → Bool) (lo i n : ℕ) → i < n → false ≡ test (lo + i) → (r : Bool) → each test lo n ≡ r → false ≡ r
fails test lo i n h e true g = e ∙ each_at test lo n g (lo + i) (omega arith) (omega arith)
fails test lo i n h e false g = refl

pub loop-i-init : goal.loop-i-init
loop-i-init g c test h s = sym (each_none test c.args.lo)

pub returns-then-not-test : goal.returns-then-not-test
returns-then-not-test g c test h s =
    let k : (c.args.lo + c.loop-i.i) % 256 ≡ c.args.lo + c.loop-i.i = omega arith in
    fails test c.args.lo c.loop-i.i c.args.n (omega arith) (sym c.if-not-test.true ∙ (rw k at (h _ (omega arith) _ c.test.ensures))) _ refl

pub loop-i-preserved : goal.loop-i-preserved
loop-i-preserved g c test h s =
    let k : (c.args.lo + c.loop-i.i) % 256 ≡ c.args.lo + c.loop-i.i = omega arith in
    sym c.if-not-test.false ∙ each_more test c.args.lo c.loop-i.i true c.test.result (c.loop-i.invariant test h (omega arith)) (rw k at (h _ (omega arith) _ c.test.ensures))
