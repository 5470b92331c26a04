-- `mark::points::earned` meets its contract.
-- Assumes nothing.
use Prim.Native.Nat.{◌+◌, ◌-◌}
use mathlib.Core.Path.{◌≡◌, sym, ◌∙◌}
use native.Mathlib.Nat.{mul-le-mul_right}
use native.Mathlib.Omega.{arith}
use Rattle.reference.specs.Lists.{choose}
use Rattle.mark.specs.Mark.{agrees}
use Rattle.mark.proofs.Rows.{times_turn, earned-rows-most, earned-turn, earned-none}
use Rattle.mark.proofs.points.earned.Goals as goal
use Rattle.mark.proofs.points.earned.Goals.{then-agrees, else-agrees}

pub loop-init : goal.loop-init
loop-init c = let e : c.args.n - 0 ≡ c.args.n = omega arith in rw e (c.requires.0, c.requires.1, omega arith)

pub agrees-requires : goal.agrees-requires
agrees-requires c = omega (arith, times_turn c.args.width (c.args.n - c.loop.counter) (omega arith))

pub overflow_add-sum : goal.overflow_add-sum
overflow_add-sum c =
    let a = c.args in
    omega (arith, earned-rows-most a.machine.now a.candidate.now a.at a.width a.points a.n, mul-le-mul_right {m = a.points} {n = 5} a.n (omega arith))

pub overflow_add-from : goal.overflow_add-from
overflow_add-from c = omega (arith, times_turn c.args.width (c.args.n - c.loop.counter) (omega arith))

pub loop-preserved : goal.loop-preserved
loop-preserved c =
    let a = c.args in
    let l = c.loop in
    let b = a.machine.now in
    let d = a.candidate.now in
    let e = c.agrees.ensures in
    let won : c.if-agrees.sum ≡ l.sum + choose (agrees b d (record { at = l.from; width = a.width; points = 0 })) a.points 0 =
    elim c.if-agrees.branch [
      | then-agrees w ↦ rw (sym e ∙ w.if-agrees.true) w.sum-is
      | else-agrees w ↦ rw (sym e ∙ w.if-agrees.false) (w.sum-is ∙ omega arith)
    ]
    in
    let left : a.n - (l.counter + 1) ≡ a.n - l.counter - 1 = omega arith in
    let n = times_turn a.width (a.n - l.counter) (omega arith) in
    rw left (omega arith, omega arith, omega (arith, earned-turn b d l.from a.width a.points (a.n - l.counter) (omega arith)))

pub returns : goal.returns
returns c =
    let a = c.args in
    let l = c.loop in
    let b = a.machine.now in
    let d = a.candidate.now in
    let e : a.n - l.counter ≡ 0 = omega arith in
    let none = rw (← e) at (earned-none b d l.from a.width a.points) in
    let most = earned-rows-most b d a.at a.width a.points a.n in
    omega arith
