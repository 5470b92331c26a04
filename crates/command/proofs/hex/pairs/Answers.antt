-- `command::hex::pairs` meets its contract.
use mathlib.Core.Path.{refl}
use native.Mathlib.Omega.{arith}
use lib.ListN.{length-set}
use Rattle.command.proofs.Digits.{front-none, front-end, front-high, front_low, front-next}
use Rattle.command.proofs.hex.pairs.Goals as goal

pub loop-n-init : goal.loop-n-init
loop-n-init c = (refl, front-none _ _)

pub returns-in_default : goal.returns-in_default
returns-in_default c = let all = front-high _ _ _ _ c.loop-n.invariant.1 (omega arith) (cc) in record { value = all.0; numbers_after = all.1 }

pub returns-in_default-worth : goal.returns-in_default-worth
returns-in_default-worth c = let all = front_low _ _ _ _ c.loop-n.invariant.1 (omega arith) c.in-Some.high (cc) (cc) in record { value = all.0; numbers_after = all.1 }

pub loop-n-preserved : goal.loop-n-preserved
loop-n-preserved c = (simp length-set (omega arith), front-next _ _ _ _ c.loop-n.invariant.1 (omega arith) c.in-Some.high c.in-Some-worth.low (cc) (cc) (omega arith))

pub returns : goal.returns
returns c = let all = front-end _ _ _ _ c.loop-n.invariant.1 (omega arith) in record { value = omega (arith, all.0); numbers_after = all.1 }
