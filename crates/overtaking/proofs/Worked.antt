-- The worked sessions, computed, and the marks that do not do.
-- Assumes nothing.
use Prim.Native.Nat.{ℕ}
use mathlib.Core.List.{[], ◌++◌}
use mathlib.Core.Logic.{◌⊎◌, inl, inr}
use mathlib.Core.Path.{◌≡◌, refl}
use native.Mathlib.Omega.{arith}
use Rattle.reference.specs.Lists.{tabulate, those, sum, find}
use Rattle.reference.specs.Start.{config_cause, start}
use Rattle.reference.specs.Step.{run, next, act, action_of, line}
use Rattle.reference.specs.Cause.{cause, accepted}
use Rattle.reference.specs.History.{gains, drops, owns}
use Rattle.overtaking.specs.Ahead.{before, overtakable}
use Rattle.overtaking.specs.InTurn.{next_owners, next_owner}
use Rattle.overtaking.specs.Worked.{pairs, goes, tries, k7, at_h5, Overtaken, AtH5, InTurn, Needed}

pub overtaken : Overtaken
unfolding start tabulate those sum find run next act action_of line cause accepted gains drops owns before overtakable next_owners
overtaken = record { all_accepted = refl; there = refl; turns = refl; mark = refl; next = refl }

pub at_h5-alone : AtH5
unfolding start tabulate those sum find run next act action_of line cause accepted gains drops owns before overtakable next_owners
at_h5-alone =
    record {
      two = record { all_accepted = refl; there = refl; turns = refl; mark = refl; next = refl };
      three = record { all_accepted = refl; there = refl; turns = refl; mark = refl; next = refl };
    }

pub in_turn : InTurn
unfolding start tabulate those sum find run next act action_of line cause accepted gains drops owns before overtakable next_owners
in_turn =
    record {
      two = record { all_accepted = refl; there = refl; turns = refl; mark = refl; next = refl };
      three = record { all_accepted = refl; there = refl; turns = refl; mark = refl; next = refl };
    }

-- where thread 3 is the next owner, it is not thread 2
not_2 : (n : ℕ) → n ≡ 3 → (n ≡ 0) ⊎ (n ≡ 2) → ⊥
not_2 n e (inl z) = omega arith
not_2 n e (inr z) = omega arith

pub needed : Needed
unfolding config_cause start tabulate those sum find run next act action_of line cause accepted gains drops owns before overtakable next_owners
needed =
    record {
      h5 = λ law. not_2 (next_owner (pairs 3) 1 at_h5 (goes 1 1 ++ tries 3)) refl (law (pairs 3) at_h5 refl refl 1 2 [] (omega arith) refl refl (goes 1 1 ++ tries 3) refl);
      token = λ law. not_2 (next_owner (pairs 3) 1 k7 (tries 3)) refl (law (pairs 3) k7 refl refl 1 2 [] (omega arith) refl refl (tries 3) refl);
    }
