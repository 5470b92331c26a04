-- `command::request::fields` meets its contract.
use mathlib.Core.Path.{◌≡◌, refl, sym, ◌∙◌}
use native.Mathlib.Omega.{arith}
use lib.ListN.{length-set}
use Rattle.command.proofs.Laws.{some_if}
use Rattle.command.proofs.Listed.{row-none, row_next, row-stop, row-end, row-full}
use Rattle.command.proofs.request.fields.Goals as goal

pub loop-count-init : goal.loop-count-init
loop-count-init c = (refl, row-none _ _)

pub returns-then-is_empty : goal.returns-then-is_empty
returns-then-is_empty c = let d = row-end _ _ _ _ _ c.loop-count.invariant.1 (cc) (omega arith) in record { value = d.value; numbers_after = d.numbers_after; listed = d.listed }

pub returns-in_err-value : goal.returns-in_err-value
returns-in_err-value c =
    let d = row-stop _ _ _ _ _ c.loop-count.invariant.1 (cc) (sym c.in_err-value.ensures) (omega arith) in
    rw c.from_residual.ensures (record { value = d.value; numbers_after = d.numbers_after; listed = d.listed })

pub loop-count-preserved : goal.loop-count-preserved
loop-count-preserved c = (simp length-set (omega arith), row_next _ _ _ _ _ c.loop-count.invariant.1 _ (sym c.in_ok-value.ensures) (omega arith))

pub returns : goal.returns
returns c =
    let k : c.loop-count.count ≡ 1024 = omega arith in
    let d = row-full _ _ _ _ _ c.loop-count.invariant.1 _ (c.then_some.ensures ∙ rw (c.is_empty-2.ensures, k) (some_if _ _)) k in
    record { value = d.value; numbers_after = d.numbers_after; listed = d.listed }
