-- Why a move is refused: the first of 2, 3, 8, 4 or 5, 6 or 7 or 21 that is there, else 0. Code and specs take the order from here (`first_cause`).
-- Assumes nothing.
use Rattle.std.specs.Prelude.{ℕ, Bool, true, false, ◌&&◌, not, List, [], ◌∷◌, eqb, leb}
use Rattle.reference.specs.Refusal.{no_processor, bad_operand, full, call_away, go_at_app, not_owner, not_new, still_owner, refuse}
use Rattle.reference.specs.Lists.{in_range, each}
use Rattle.reference.specs.State.{State, App, new, same_line, same_life, processor_at, mutex_at, life_at}
use Rattle.reference.specs.Step.{Action, go, lock, trylock, unlock, yield, exit, create, Move, action_of, next}

-- the operand of a call on a mutex is a mutex, that of create a thread, that of the others 0
abbrev pub operand_fits : State → Action → ℕ → Bool
operand_fits s go o = eqb o 0
operand_fits s lock o = in_range 1 s.M o
operand_fits s trylock o = in_range 1 s.M o
operand_fits s unlock o = in_range 1 s.M o
operand_fits s yield o = eqb o 0
operand_fits s exit o = eqb o 0
operand_fits s create o = in_range 1 s.T o

abbrev pub is_go : Action → Bool
is_go go = true
is_go lock = false
is_go trylock = false
is_go unlock = false
is_go yield = false
is_go exit = false
is_go create = false

abbrev pub is_unlock : Action → Bool
is_unlock go = false
is_unlock lock = false
is_unlock trylock = false
is_unlock unlock = true
is_unlock yield = false
is_unlock exit = false
is_unlock create = false

abbrev pub is_create : Action → Bool
is_create go = false
is_create lock = false
is_create trylock = false
is_create unlock = false
is_create yield = false
is_create exit = false
is_create create = true

abbrev pub is_exit : Action → Bool
is_exit go = false
is_exit lock = false
is_exit trylock = false
is_exit unlock = false
is_exit yield = false
is_exit exit = true
is_exit create = false

abbrev pub at_app : State → ℕ → Bool
at_app s p = same_line (processor_at s p).position App

-- thread k owns no mutex
abbrev pub owns_none : State → ℕ → Bool
owns_none s k = each (λ m. not (eqb (mutex_at s m).owner k)) 1 s.M

-- what decides a move's cause
pub record Facts : Type 0 where
  -- its processor is there; so is its action, whose operand fits; 4,000 moves are applied
  pub there : Bool
  pub fits : Bool
  pub full : Bool
  -- it is a go, and its processor stands at App
  pub goes : Bool
  pub at_app : Bool
  -- it is an unlock, and the current thread is the owner of the mutex that the operand names
  pub unlocks : Bool
  pub owner : Bool
  -- it is a create, and the thread that the operand names is new
  pub creates : Bool
  pub is_new : Bool
  -- it is an exit, and the current thread owns some mutex
  pub exits : Bool
  pub owning : Bool

-- the order of the causes
abbrev pub first_cause : Facts → ℕ
first_cause f =
    refuse (not f.there) no_processor
    (refuse (not f.fits) bad_operand
    (refuse f.full full
    (refuse (not f.goes && not f.at_app) call_away
    (refuse (f.goes && f.at_app) go_at_app
    (refuse (f.unlocks && not f.owner) not_owner
    (refuse (f.creates && not f.is_new) not_new
    (refuse (f.exits && f.owning) still_owner 0)))))))

abbrev pub facts : State → Move → Facts
facts s a =
    record {
      there = in_range 1 s.P a.processor;
      fits = leb a.action 6 && operand_fits s (action_of a.action) a.operand;
      full = leb 4000 s.applied;
      goes = is_go (action_of a.action);
      at_app = at_app s a.processor;
      unlocks = is_unlock (action_of a.action);
      owner = eqb (mutex_at s a.operand).owner (processor_at s a.processor).current;
      creates = is_create (action_of a.action);
      is_new = same_life (life_at s a.operand) new;
      exits = is_exit (action_of a.action);
      owning = not (owns_none s (processor_at s a.processor).current);
    }

unfoldable pub cause : State → Move → ℕ
cause s a = first_cause (facts s a)

-- no move of the list has a cause when it is made
unfoldable pub accepted : State → List Move → Bool
accepted s [] = true
accepted s (a ∷ rest) = eqb (cause s a) 0 && accepted (next s a) rest
