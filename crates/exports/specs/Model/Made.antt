-- The words of moves that the code makes one after the other on its own records, and its test of two of them.
-- Assumes nothing.
use Rattle.std.specs.Prelude.{ℕ, ◌+◌, Bool, ◌&&◌, not, List, [], ◌∷◌, ◌++◌, eqb, get_or}
use Rattle.state.specs.declared.State.{State}
use Rattle.touch.specs.Association.{touch_shown, touch_bytes}
use Rattle.touch.specs.Model.Made.{Made, made_of}
use Rattle.reference.specs.Step.{Move, move_of}
use Rattle.reference.specs.Touch.{apart}

abbrev pub made_by : State → Move → Made
made_by s a = made_of s a.processor a.action a.operand

-- the record after them
unfoldable pub made_after : State → List Move → State
made_after s [] = s
made_after s (a ∷ rest) = made_after (made_by s a).state rest

unfoldable pub made_words : State → List Move → List ℕ
made_words s [] = []
made_words s (a ∷ rest) = touch_bytes (touch_shown (made_by s a).touch) ++ made_words (made_by s a).state rest

-- the move whose three bytes begin at one
abbrev pub move_from : List ℕ → ℕ → Move
move_from j at = move_of (get_or j at 0) (get_or j (at + 1) 0) (get_or j (at + 2) 0)

unfoldable pub made_independent : State → Move → Move → Bool
made_independent s a b =
    not (eqb a.processor b.processor) && apart (touch_shown (made_by s a).touch) (touch_shown (made_by (made_by s a).state b).touch)
