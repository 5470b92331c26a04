-- Sessions in which a waiting thread is marked, by a token and by H5 alone, and overtaken, and one in which it is not and is served in turn; and why the mark has
-- both its parts.
-- Assumes nothing.
use Rattle.std.specs.Prelude.{ℕ, zero, suc, Bool, true, false, List, [], ◌∷◌, ◌++◌, ◌≡◌, ltb}
use Rattle.reference.specs.Lists.{find}
use Rattle.reference.specs.State.{State, Mutex, Token, no_token, mutex_at}
use Rattle.reference.specs.Start.{Config, start}
use Rattle.reference.specs.Step.{Move, move_of}
use Rattle.reference.specs.Cause.{accepted}
use Rattle.reference.specs.Safe.{end}
use Rattle.overtaking.specs.Ahead.{turns_at, at_H5, overtakable}
use Rattle.overtaking.specs.InTurn.{next_owner, NextIsFirstBy}

-- n processors with a thread each, one mutex
abbrev pub pairs : ℕ → Config
pairs n = record { P = n; T = n; M = 1; B = n; stealing = 0 }

abbrev pub lock_of : ℕ → Move
lock_of p = move_of p 1 1

abbrev pub unlock_of : ℕ → Move
unlock_of p = move_of p 3 1

-- so many goes of a processor
abbrev pub goes : ℕ → ℕ → List Move
goes p zero = []
goes p (suc n) = move_of p 0 0 ∷ goes p n

-- a trylock of processor 3 with so many of its lines
abbrev pub tries : ℕ → List Move
tries n = move_of 3 2 1 ∷ goes 3 n

-- a mutex with thread 2 in its queue, nobody's, counted once
abbrev pub left_to_2 : Token → Mutex
left_to_2 t = record { count = 1; queue = 2 ∷ []; owner = 0; token = t }

-- after ms mutex 1 is as said, thread 2 has no turns ahead and this mark; then `later` are accepted, by which k is the next to own it
pub record Then (c : Config) (ms : List Move) (x : Mutex) (marked : Bool) (later : List Move) (k : ℕ) : Type 0 where
  pub all_accepted : accepted (start c) (ms ++ later) ≡ true
  pub there : mutex_at (end c ms) 1 ≡ x
  pub turns : turns_at x 2 ≡ 0
  pub mark : overtakable (end c ms) 1 ≡ marked
  pub next : next_owner c 1 ms later ≡ k

-- ---- by a token

-- document 01, K7: processor 1 has unlocked and gone through H6, thread 2 waits
abbrev pub k7 : List Move
k7 = lock_of 1 ∷ lock_of 2 ∷ goes 1 1 ++ goes 2 1 ++ unlock_of 1 ∷ goes 1 3 ++ goes 2 2 ++ goes 1 1

-- a trylock by TL1, GT1 and GT3 overtakes it
abbrev pub Overtaken : Type 0
Overtaken = Then (pairs 3) k7 (left_to_2 (record { processor = 1; sequence = 1 })) true (tries 3) 3

-- ---- by H5 alone

-- thread 2 comes to the queue when processor 1 has found nobody in it and stands at H5
abbrev pub at_h5 : List Move
at_h5 = lock_of 1 ∷ goes 1 1 ++ unlock_of 1 ∷ lock_of 2 ∷ goes 2 1 ++ goes 1 2 ++ goes 2 2

-- there is no token; of two processors nobody else can take one, of three a trylock after H5 does
pub record AtH5 : Type 0 where
  pub two : Then (pairs 2) at_h5 (left_to_2 no_token) true (goes 1 4) 2
  pub three : Then (pairs 3) at_h5 (left_to_2 no_token) true (goes 1 1 ++ tries 3) 3

-- ---- not marked

-- the same moves, but that thread 2 comes to the queue before H2 looks: it is the next owner, and a trylock before that is in vain
abbrev pub before_h2 : List Move
before_h2 = lock_of 1 ∷ goes 1 1 ++ unlock_of 1 ∷ lock_of 2 ∷ goes 2 1 ++ goes 1 1 ++ goes 2 2

pub record InTurn : Type 0 where
  pub two : Then (pairs 2) before_h2 (left_to_2 no_token) false (goes 1 1) 2
  pub three : Then (pairs 3) before_h2 (left_to_2 no_token) false (tries 2 ++ goes 1 1) 2

-- ---- a mark with one part only does not do

abbrev pub by_token : State → ℕ → Bool
by_token s m = ltb 0 (mutex_at s m).token.processor

abbrev pub by_H5 : State → ℕ → Bool
by_H5 s m = ltb 0 (find (at_H5 m) s.processors)

pub record Needed : Type 0 where
  pub h5 : ¬ (NextIsFirstBy by_token)
  pub token : ¬ (NextIsFirstBy by_H5)
