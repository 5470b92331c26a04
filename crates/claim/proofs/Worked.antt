-- The worked classes, the words and the two journals, computed.
-- Assumes nothing.
use Prim.Native.Nat.{ℕ}
use mathlib.Core.Path.{◌≡◌, refl, ap}
use native.Mathlib.Omega.{arith}
use Rattle.reference.specs.Lists.{tabulate, those, find, sum, is, each}
use Rattle.reference.specs.Start.{start}
use Rattle.reference.specs.Step.{Move, next, run, act, action_of, line}
use Rattle.reference.specs.Cause.{cause, accepted}
use Rattle.reference.specs.Touch.{line_touch, act_touch, touched}
use Rattle.reference.specs.Picture.{behind, thread_entry, concat, picture}
use Rattle.reference.specs.Script.{progress, turn_move, class_moves, class_answers}
use Rattle.claim.specs.Worked.{HandOff, SpentScript, touches_along, Words, SameRecord}

pub hand_off : HandOff
unfolding start tabulate those run next act line cause action_of progress turn_move class_moves class_answers find sum is each behind thread_entry concat picture
hand_off = record { answers = refl; moves = refl; waiting = refl; handed = (refl, refl); shown = refl }

pub spent-script : SpentScript
unfolding start tabulate those run next act line cause action_of progress turn_move class_moves class_answers each
spent-script = record { answers = refl; waits = refl }

pub words : Words
unfolding start tabulate those run next act line line_touch act_touch touched cause action_of progress turn_move class_moves touches_along each
words = record { hand_off = refl; token_offered = refl; round = refl; refused = (refl, refl) }

pub same_record : SameRecord
unfolding start tabulate those run next act line cause action_of accepted progress turn_move
same_record =
    record {
      legal = (refl, refl);
      state = refl;
      places = (refl, refl);
      next_turn = (refl, refl);
      differ = λ e. let n : ◌≡◌ {A = ℕ} 1 4 = ap (λ (a : Move). a.action) e in omega arith;
    }
