-- The reference machine's move with a record's numbers.
-- Assumes nothing.
use Rattle.reference.specs.Step as reference
use Rattle.reference.specs.Step.{move_of}
use Rattle.script.specs.declared.Move.{Move}

abbrev pub move_in : Move → reference.Move
move_in m = move_of m.processor m.action m.operand
