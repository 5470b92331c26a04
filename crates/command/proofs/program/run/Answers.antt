-- `command::program::run` meets its contract.
use native.Mathlib.Omega.{arith}
use borrow.Author.Rules.{rules}
use borrow.Author.Tests.{not-true, not-false}
use mathlib.Core.Bool.{true}
use mathlib.Core.Logic.{inl, inr}
use mathlib.Core.Path.{◌≡◌, refl}
use Rattle.command.proofs.Transcript.{nothing_read, turn_taken, run_over}
use Rattle.command.proofs.program.run.Goals.{then-s-via-then-s, then-s-via-else-s+then-not-s}
use Rattle.command.proofs.program.run.Goals as goal

pub loop-init : goal.loop-init
loop-init g c = (refl, refl, nothing_read _ _ _ _ c.unread-input.ensures)

pub loop-preserved : goal.loop-preserved
loop-preserved g c =
    let o : c.turn-s.result.ok ≡ true = not-false _ c.if-not-s.false in
    (search rules, search rules, rw (c.if-s.false, o) at (turn_taken _ _ _ _ _ _ _ _ _ _ _ c.turn-s.result.ok c.loop.invariant.2 c.turn-s.ensures))

pub returns-then-s : goal.returns-then-s
returns-then-s g c =
    let t = turn_taken _ _ _ _ _ _ _ _ _ _ _ c.turn-s.result.ok c.loop.invariant.2 c.turn-s.ensures in
    elim c.then-s.branch [
      | then-s-via-then-s w ↦ run_over _ _ _ _ _ _ _ _ t (inr (inl w.if-s.true))
      | then-s-via-else-s+then-not-s w ↦ run_over _ _ _ _ _ _ _ _ t (inl (not-true _ w.if-not-s.true))
    ]

pub returns-after-loop : goal.returns-after-loop
returns-after-loop g c = run_over _ _ _ _ _ _ _ _ c.loop.invariant.2 (inr (inr (omega arith)))
