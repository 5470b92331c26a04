-- `command::request::mark` meets its contract.
use mathlib.Core.Path.{◌∙◌}
use native.Mathlib.Omega.{arith}
use Rattle.command.proofs.Laws.{some_if}
use Rattle.command.proofs.Digits.{counted-some, counted-none, behind_one, mark-none, mark-one, mark-half, mark-two}
use Rattle.command.proofs.request.mark.Goals as goal

pub returns-in_default : goal.returns-in_default
returns-in_default c =
    mark-none _ _ _ c.hex_bytes.ensures.numbers_after (counted-none _ c.in_default.ensures.value) _ _ (rw c.min.ensures (behind_one c.args.s.now)) c.hex_bytes-in_default.ensures.numbers_after

pub returns-then-is_empty : goal.returns-then-is_empty
returns-then-is_empty c = mark-one _ _ _ c.hex_bytes.ensures.numbers_after _ _ (counted-some _ _ _ c.in-Some.ensures.value) (cc) (omega (arith, c.in-Some.ensures.bound))

pub returns-in_err-m : goal.returns-in_err-m
returns-in_err-m c =
    rw c.from_residual.ensures
    (mark-half _ _ _ c.hex_bytes.ensures.numbers_after _ _ (counted-some _ _ _ c.in-Some.ensures.value) _ c.hex_bytes-2.ensures.numbers_after (cc) (counted-none _ c.in_err-m.ensures.value))

pub returns : goal.returns
returns c =
    mark-two _ _ _ c.hex_bytes.ensures.numbers_after _ _ (counted-some _ _ _ c.in-Some.ensures.value) _ c.hex_bytes-2.ensures.numbers_after (cc)
    _ _ (counted-some _ _ _ c.in_ok-m.ensures.value) _ (c.then_some.ensures ∙ rw c.is_empty-2.ensures (some_if _ _)) (omega (arith, c.in-Some.ensures.bound, c.in_ok-m.ensures.bound))
