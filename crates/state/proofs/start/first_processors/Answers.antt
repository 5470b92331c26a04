-- `state::start::first_processors` meets its contract.
-- Assumes nothing.
use Rattle.std.proofs.Common.{rules, ◌≡◌, length-set}
use native.Mathlib.Omega.{arith}
use Rattle.state.specs.Model.Access.{first_processor}
use Rattle.state.proofs.Begun.{processor-first}
use Rattle.state.proofs.Fill.{fill_none, fill_more, fill_all}
use Rattle.state.proofs.start.first_processors.Goals as goal

pub loop-i-init : goal.loop-i-init
loop-i-init c = (search rules, fill_none (first_processor c.args.p c.args.b))

pub loop-i-preserved : goal.loop-i-preserved
loop-i-preserved c =
    let k = c.loop-i in
    let a = c.args in (
      simp length-set k.invariant.0,
      rw (c.zero.ensures, c.first_current-current.ensures, c.first_position-position.ensures, processor-first a.p a.b k.i)
          (fill_more _ k.processors k.i (omega arith) k.invariant.1),
    )

pub returns : goal.returns
returns c =
    let k = c.loop-i in
    let e : k.i ≡ 9 = omega arith in
    fill_all _ k.processors 9 k.invariant.0 (rw e at k.invariant.1)
