-- What a class answers and writes: a start table with scripts, then turns as bytes, a processor each. `c` is the start table, `x` the scripts, `ps` the turns.
-- Assumes nothing.
use Rattle.std.specs.Prelude.{ℕ, List, [], eqb, length}
use Rattle.reference.specs.Refusal.{too_short, refuse}
use Rattle.reference.specs.Lists.{choose, with_front}
use Rattle.reference.specs.Start.{Config, config_cause}
use Rattle.reference.specs.Script.{scripts_cause, class_answers, class_pictures}
use Rattle.reference.specs.Session.{lacks_room}
use Rattle.session.specs.Contract.{or_later}

module _ (c : Config) (x ps answers pictures : List ℕ) where
  -- 1, 19, 10
  unfoldable pub class_number : ℕ
  class_number = or_later (config_cause c) (or_later (scripts_cause c.T x) (refuse (lacks_room c (length ps) answers pictures) too_short 0))

  -- each turn's answer, followed by the buffer's later bytes; refused, the buffer as it was
  unfoldable pub class_answered : List ℕ
  class_answered = choose (eqb class_number 0) (with_front answers (class_answers c x [] ps)) answers

  -- the picture after each turn, accepted or not, followed by the buffer's later bytes; refused, the buffer as it was
  unfoldable pub class_pictured : List ℕ
  class_pictured = choose (eqb class_number 0) (with_front pictures (class_pictures c x [] ps)) pictures
