-- The slips: each session computed from the definitions.
-- Assumes nothing.
use Prim.Native.Nat.{ℕ}
use mathlib.Core.Bool.{Bool, ◌&&◌}
use mathlib.Core.List.{List, [], ◌∷◌}
use mathlib.Core.Path.{◌≡◌, refl, ap, ◌∙◌}
use lib.Dec.{eqb}
use Rattle.reference.specs.Lists.{tabulate, those, sum, is, each}
use Rattle.reference.specs.State.{State}
use Rattle.reference.specs.Start.{start, config_cause}
use Rattle.reference.specs.Step.{Action, go, lock, trylock, unlock, yield, exit, create, Move, action_of, act, line, does, next, run}
use Rattle.reference.specs.Cause.{cause, accepted}
use Rattle.reference.specs.Break.{step_breaks}
use Rattle.reference.specs.History.{gains, drops, owns_after, owns}
use Rattle.reference.specs.Slips.{proper, does_by, next_by, run_by, accepted_by, owns_after_by, owns_by, Slips}

-- ---- with its own lines it is the machine

does-proper : (s : State) (p : ℕ) (a : Action) (o : ℕ) → does_by proper s p a o ≡ does s p a o
unfolding act
does-proper s p go o = refl
does-proper s p lock o = refl
does-proper s p trylock o = refl
does-proper s p unlock o = refl
does-proper s p yield o = refl
does-proper s p exit o = refl
does-proper s p create o = refl

next-proper : (s : State) (a : Move) → next_by proper s a ≡ next s a
unfolding next_by next
next-proper s a = does-proper s a.processor (action_of a.action) a.operand

owns_after-proper : (a : Action) (s : State) (p m k : ℕ) (b : Bool) → owns_after_by proper a s p m k b ≡ owns_after a s p m k b
owns_after-proper go s p m k b = refl
owns_after-proper lock s p m k b = refl
owns_after-proper trylock s p m k b = refl
owns_after-proper unlock s p m k b = refl
owns_after-proper yield s p m k b = refl
owns_after-proper exit s p m k b = refl
owns_after-proper create s p m k b = refl

run_proper : (s : State) (ms : List Move) → run_by proper s ms ≡ run s ms
unfolding run_by run
run_proper s [] = refl
run_proper s (a ∷ rest) = ap (λ (e : State). run_by proper e rest) (next-proper s a) ∙ run_proper (next s a) rest

accepted_proper : (s : State) (ms : List Move) → accepted_by proper s ms ≡ accepted s ms
unfolding accepted_by accepted
accepted_proper s [] = refl
accepted_proper s (a ∷ rest) = ap (λ (e : State). eqb (cause s a) 0 && accepted_by proper e rest) (next-proper s a) ∙ ap (λ (b : Bool). eqb (cause s a) 0 && b) (accepted_proper (next s a) rest)

owns_proper : (s : State) (ms : List Move) (m k : ℕ) (b : Bool) → owns_by proper s ms m k b ≡ owns s ms m k b
unfolding owns_by owns
owns_proper s [] m k b = refl
owns_proper s (a ∷ rest) m k b =
    (λ i. owns_by proper (next-proper s a i) rest m k (owns_after-proper (action_of a.action) s a.processor m k b i)) ∙
    owns_proper (next s a) rest m k (owns_after (action_of a.action) s a.processor m k b)

-- ---- the sessions

pub slips : Slips
unfolding config_cause start tabulate those each run next act action_of line cause accepted step_breaks gains drops sum is next_by run_by accepted_by owns_by
slips =
    record {
      run_proper = run_proper;
      accepted_proper = accepted_proper;
      owns_proper = owns_proper;
      started = refl;
      token_made = (refl, refl);
      token_breaks = record { position = refl; queue = refl; cause = refl; breaks = refl };
      l7_made = (refl, refl);
      l7_breaks = record { position = refl; queue = refl; cause = refl; breaks = refl };
      drop_made = (refl, refl);
      drop_breaks = (refl, refl);
      caller_made = (refl, refl);
      caller_breaks = (refl, refl, refl);
    }
