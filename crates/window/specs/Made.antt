-- What a move answers besides the record, which the caller keeps.
-- Assumes nothing.
use Rattle.std.specs.Prelude.{ℕ, Result, Ok, Err}
use Rattle.state.specs.declared.refusal.Refusal.{Refusal}
use Rattle.state.specs.Refusal.{number}
use Rattle.touch.specs.declared.Touch.{Touch}
use Rattle.touch.specs.Association.{touch_record}
use Rattle.reference.specs.Touch.{nothing}
use Rattle.session.specs.Contract.{MoveAnswer}

-- the number that refuses it, or 0, and the words that it touched
pub record Made : Type 0 where
  pub refusal : ℕ
  pub touch : Touch

abbrev pub made_of : MoveAnswer → Made
made_of r = record { refusal = r.refusal; touch = r.touch }

-- what the code's answer means: a move that is refused touches nothing
unfoldable pub made_shown : Result Touch Refusal → Made
made_shown (Ok touch) = record { refusal = 0; touch = touch }
made_shown (Err refusal) = record { refusal = number refusal; touch = touch_record nothing }
