-- The worked pairs, computed from the definitions; and each weaker condition refuted by one of them.
-- Assumes nothing.
use Prim.Native.Nat.{ℕ}
use mathlib.Core.List.{List, [], ◌∷◌, ◌++◌}
use mathlib.Core.Path.{◌≡◌, refl, ap}
use native.Mathlib.Omega.{arith}
use Rattle.reference.specs.Lists.{tabulate, those, each}
use Rattle.reference.specs.State.{Processor, State, row, processor_at}
use Rattle.reference.specs.Start.{config_cause, start}
use Rattle.reference.specs.Step.{Move, move_of, line, act, action_of, next, run}
use Rattle.reference.specs.Cause.{cause, accepted}
use Rattle.reference.specs.Touch.{line_touch, act_touch, apart}
use Rattle.independence.specs.Exchange.{Exchanged, independent, may_exchange}
use Rattle.independence.specs.Worked.{two, go_of, unlocking, May, MayNot, BothWrite, Places, Needed, LooksCount, NotEverywhere}

pub may : May
unfolding start tabulate those each run next act action_of line cause accepted line_touch act_touch apart independent
may =
    record {
      all_accepted = refl;
      there = refl;
      may = refl;
      orders = record { a_first = (refl, refl, refl); then_b = (refl, refl, refl); b_first = (refl, refl); then_a = (refl, refl) };
    }

pub may_not : MayNot
unfolding start tabulate those each run next act action_of line cause accepted line_touch act_touch apart independent
may_not =
    record {
      all_accepted = refl;
      there = refl;
      may_not = refl;
      orders = record { a_first = (refl, refl, refl); then_b = (refl, refl, refl); b_first = (refl, refl); then_a = (refl, refl) };
    }

pub both_write : BothWrite
unfolding start tabulate those each run next act action_of line cause accepted line_touch act_touch apart independent
both_write =
    record {
      all_accepted = refl;
      there = refl;
      may_not = refl;
      orders = record { a_first = (refl, refl, refl); then_b = (refl, refl, refl); b_first = (refl, refl); then_a = (refl, refl) };
    }

pub places : Places
unfolding start tabulate those each run next act action_of line line_touch act_touch apart independent may_exchange
places = refl

pub not_everywhere : NotEverywhere
unfolding next act action_of line each cause line_touch act_touch apart independent
not_everywhere = record { a_first = refl; then_b = refl; may = refl; b_first = refl; a_refused = refl }

-- where processor 1 stands
position : State → ℕ
position s = (row (processor_at s 1).position).number

abbrev hands_on : List Move
hands_on = unlocking ++ go_of 1 ∷ []

abbrev offers : List Move
offers = unlocking ++ go_of 1 ∷ go_of 1 ∷ go_of 1 ∷ []

-- the same with thread 2 in the queue by then
abbrev joined : List Move
joined = offers ++ go_of 2 ∷ []

pub looks-count : LooksCount
unfolding config_cause start tabulate those each run next act action_of line cause accepted line_touch act_touch position
looks-count h =
    let z : ◌≡◌ {A = ℕ} 0 20 = ap (λ (r : Processor). (row r.position).number) (h two offers joined (go_of 1) refl refl refl refl refl (record { registers = refl; word = tt })).registers in
    omega arith

-- L4 of 2 and then H6 of 1: at H8 or at App
offer_ends : Exchanged (run (start two) offers) (go_of 2) (go_of 1) → ⊥
unfolding start tabulate those run next act action_of line position
offer_ends e = let z : ◌≡◌ {A = ℕ} 0 20 = ap position e.same_state in omega arith

-- H2 of 1 and then L4 of 2: at H3 or at H5
hand_on_ends : Exchanged (run (start two) hands_on) (go_of 1) (go_of 2) → ⊥
unfolding start tabulate those run next act action_of line position
hand_on_ends e = let z : ◌≡◌ {A = ℕ} 17 18 = ap position e.same_state in omega arith

-- a call and its first line
call-first : Exchanged (run (start two) []) (move_of 1 1 1) (go_of 1) → ⊥
unfolding start tabulate those run next act action_of line cause
call-first e = let z : ◌≡◌ {A = ℕ} 5 0 = e.b_first in omega arith

pub needed : Needed
unfolding config_cause start tabulate those each run next act action_of line cause accepted line_touch act_touch apart
needed =
    record {
      first = λ h. hand_on_ends (h two hands_on refl refl (go_of 1) (go_of 2) refl refl refl);
      second = λ h. offer_ends (h two offers refl refl (go_of 2) (go_of 1) refl refl refl);
      both = λ h. offer_ends (h two offers refl refl (go_of 2) (go_of 1) refl refl refl);
      processors = λ h. call-first (h two [] refl refl (move_of 1 1 1) (go_of 1) refl refl refl);
    }
