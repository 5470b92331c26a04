-- `rules::chain::walk` meets its contract: the bits are the threads met so far, and what is left to walk gives the whole walk.
-- Assumes nothing.
use Prim.Native.Nat.{ℕ, ◌+◌, ◌-◌, suc}
use mathlib.Core.Bool.{Bool, false, ◌||◌, not}
use mathlib.Core.List.{List, [], ◌∷◌, ◌++◌}
use mathlib.Core.Path.{◌≡◌, refl, sym, ◌∙◌}
use native.Mathlib.Omega.{arith}
use borrow.Author.Tests.{not-false}
use Rattle.reference.specs.Picture.{stands_in}
use Rattle.state.specs.declared.Thread.{Thread}
use Rattle.state.specs.Rules.{placed_in}
use Rattle.rules.specs.Walk.{has_bit, Bits}
use Rattle.rules.proofs.Bits.{bits_with}
use Rattle.rules.proofs.Placed.{placed-small}
use Rattle.rules.proofs.Logic.{neither}
use Rattle.rules.proofs.Walks.{along-none, along-end, along-stop, along_more}
use Rattle.rules.proofs.chain.walk.Goals as goal

pub loop-init : goal.loop-init
loop-init g c l b = let e : c.args.most - 0 ≡ c.args.most = omega arith in (l, b, rw e)

-- the code's test at a thread is the walk's, by the bits
tests : (thread : ℕ → Thread) (q k met : ℕ) (m : List ℕ) (x : Thread) (twice fits : Bool) → Bits met m → x ≡ thread k → twice ≡ has_bit met k → fits ≡ placed_in x q → twice || not fits ≡ stands_in k m || not (placed_in (thread k) q)
tests thread q k met m x twice fits b e f g = rw (f, g, e, b k)

pub returns-then-twice-misplaced : goal.returns-then-twice-misplaced
returns-then-twice-misplaced g c l b =
    let a = c.args in
    let o = c.loop in
    let thread = g.T.ThreadTable.thread a.threads in
    let i = o.invariant l b in
    let n : a.most - o.counter ≡ suc (a.most - (o.counter + 1)) = omega arith in
    let e = along-stop thread a.q (a.most - (o.counter + 1)) o.k i.0 c.if-k-eq0.false
    (sym (tests thread a.q o.k o.met i.0 _ _ _ i.1 c.thread-x.ensures.read c.has_bit-twice.ensures c.placed_in-misplaced.ensures) ∙ c.if-twice-misplaced.true)
    in
    rw (← i.2, n, e) (record {
      bits = i.1;
      twice = c.has_bit-twice.ensures ∙ i.1 o.k;
      misplaced = rw (c.placed_in-misplaced.ensures, c.thread-x.ensures.read);
    })

pub loop-preserved : goal.loop-preserved
loop-preserved g c l b =
    let a = c.args in
    let o = c.loop in
    let thread = g.T.ThreadTable.thread a.threads in
    let i = o.invariant l b in
    let m : a.most - o.counter ≡ suc (a.most - (o.counter + 1)) = omega arith in
    let n : stands_in o.k i.0 || not (placed_in (thread o.k) a.q) ≡ false =
    sym (tests thread a.q o.k o.met i.0 _ _ _ i.1 c.thread-x.ensures.read c.has_bit-twice.ensures c.placed_in-misplaced.ensures) ∙ c.if-twice-misplaced.false
    in
    let s = placed-small (thread o.k) o.k a.q (λ h. sym c.thread-x.ensures.read ∙ c.thread-x.ensures.none h) (not-false (placed_in (thread o.k) a.q) (neither (stands_in o.k i.0) (not (placed_in (thread o.k) a.q)) n).1) in (
      i.0 ++ (o.k ∷ []),
      rw c.with_bit-met.ensures (bits_with o.met o.k i.0 s i.1),
      rw c.thread-x.ensures.read (sym (along_more thread a.q (a.most - (o.counter + 1)) o.k i.0 c.if-k-eq0.false n) ∙ rw m at i.2),
    )

pub returns-then-k-eq0 : goal.returns-then-k-eq0
returns-then-k-eq0 g c l b =
    let a = c.args in
    let o = c.loop in
    let i = o.invariant l b in
    rw (← i.2, c.if-k-eq0.true, along-end (g.T.ThreadTable.thread a.threads) a.q (a.most - o.counter) i.0) (record { bits = i.1; twice = refl; misplaced = refl })

pub returns-after-loop : goal.returns-after-loop
returns-after-loop g c l b =
    let a = c.args in
    let o = c.loop in
    let i = o.invariant l b in
    let n : a.most - o.counter ≡ 0 = omega arith in
    rw (← i.2, n, along-none (g.T.ThreadTable.thread a.threads) a.q o.k i.0) (record { bits = i.1; twice = refl; misplaced = refl })
