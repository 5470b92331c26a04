-- `step::line::line` meets its contract where no line has the number, or it is App's.
-- Assumes nothing.
use Prim.Native.Nat.{ℕ, ◌≤◌}
use mathlib.Core.Bool.{false}
use mathlib.Core.Path.{◌≡◌, ap}
use native.Mathlib.Decide.{ℕ_discrete}
use native.Mathlib.Omega.{arith}
use lib.ListN.{get_or-eq_default}
use borrow.Author.Tests.{ne_eqb}
use Rattle.step.specs.declared.View.{View}
use Rattle.step.specs.declared.Effect.{Effect}
use Rattle.step.specs.Model.Moves.{outcome, looking, writers, line_outcome, line_effect, at_CI3, effects, stay}
use Rattle.step.proofs.line.line.Goals as goal

at_app : (t : ℕ) (v : View) → v.proc.position ≡ 0 → outcome false false (stay v) ≡ line_outcome t v
unfolding line_outcome line_effect
at_app t v e = rw e

no_line : (t : ℕ) (v : View) → 25 ≤ v.proc.position → outcome false false (stay v) ≡ line_outcome t v
unfolding line_outcome line_effect
no_line t v h =
    let n = v.proc.position in
    rw (
      get_or-eq_default writers false h,
      ap (λ (f : View → Effect). f v) (get_or-eq_default effects stay h),
      ne_eqb n 15 (λ e. omega arith),
      ne_eqb n 3 (λ e. omega arith),
      ne_eqb n 14 (λ e. omega arith),
      ne_eqb n 18 (λ e. omega arith),
      ne_eqb n 9 (λ e. omega arith),
    )

pub returns-in_default : goal.returns-in_default
returns-in_default c =
    let v = looking c.args.chains.now c.args.m c.args.v in
    rw (c.keeps-in_default.ensures, c.stays.ensures)
    (elim (ℕ_discrete v.proc.position 0) [ yes e ↦ at_app c.args.t v e | no e ↦ no_line c.args.t v (omega arith) ])

pub returns-in-2 : goal.returns-in-2
unfolding line_outcome line_effect at_CI3
returns-in-2 c = rw (c.keeps-in-2.ensures, c.ci3.ensures, c.in-2.is)
