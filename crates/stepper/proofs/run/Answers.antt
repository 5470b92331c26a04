-- `stepper::run` meets its contract.
use native.Mathlib.Omega.{arith}
use Rattle.stepper.proofs.Responses.{response_fits, front_read}
use Rattle.stepper.proofs.run.Goals as goal

pub run-requires-clause-fits : goal.run-requires-clause-fits
run-requires-clause-fits c = λ l k. omega (arith, response_fits l k)

pub run-requires-clause-seen : goal.run-requires-clause-seen
run-requires-clause-seen c = λ l k. front_read _ l k c.requires.0
