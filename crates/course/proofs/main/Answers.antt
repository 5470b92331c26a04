-- `course::main` meets its contract.
use mathlib.Core.Path.{refl}
use Rattle.course.proofs.Scripts.{counted, roomy}
use Rattle.course.proofs.main.Goals as goal

pub slice_bounds-run-end-5 : goal.slice_bounds-run-end-5
slice_bounds-run-end-5 c = counted 700000 _ refl

pub run-requires : goal.run-requires
run-requires c = (roomy 2049 _ refl, roomy 700000 _ refl)
