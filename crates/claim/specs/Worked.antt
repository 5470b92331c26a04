-- Document 02, Nos. 7, 9 and 4, worked on two processors with a thread each and one mutex: a class that goes through a hand-off, one in which a script leaves its
-- thread an owner, the words that moves touch, and two journals with the same record that call for different moves. Actions: 0 go, 1 lock, 3 unlock, 4 yield,
-- 5 exit, 6 create.
-- Assumes nothing.
use Rattle.std.specs.Prelude.{ℕ, true, List, [], ◌∷◌, ◌++◌, ◌≡◌, replicate}
use Rattle.reference.specs.State.{State, Mutex, no_token, mutex_at}
use Rattle.reference.specs.Start.{Config, start}
use Rattle.reference.specs.Step.{Move, move_of, next, run}
use Rattle.reference.specs.Cause.{accepted}
use Rattle.reference.specs.Touch.{count, token, queue, ready, birth, Touch, nothing, looks_at, changes, overwrites, touch, touched}
use Rattle.reference.specs.Picture.{picture}
use Rattle.reference.specs.Script.{progress, turned, class_moves, class_answers}

-- start 2 2 1 2
abbrev pub two : Config
two = record { P = 2; T = 2; M = 1; B = 2; stealing = 0 }

-- ---- the class

-- the scripts of both threads: lock 1, unlock 1
abbrev pub both : List ℕ
both = 2 ∷ 1 ∷ 1 ∷ 3 ∷ 1 ∷ replicate 8 0 ++ 2 ∷ 1 ∷ 1 ∷ 3 ∷ 1 ∷ replicate 8 0

-- both lock; 1 goes L1, so thread 1 owns; 2 goes L1, L3, L4, L6, so thread 2 waits
abbrev pub until_waiting : List ℕ
until_waiting = 1 ∷ 2 ∷ 1 ∷ 2 ∷ 2 ∷ 2 ∷ 2 ∷ []

-- there is no processor 3; thread 1 unlocks, and 1 goes U1, H2, H3
abbrev pub until_handed : List ℕ
until_handed = until_waiting ++ 3 ∷ 1 ∷ 1 ∷ 1 ∷ 1 ∷ []

-- thread 1 exits; 1 goes CI2, 2 idles, 1 goes CI3; thread 2 unlocks on processor 1; 2 idles; thread 2 exits; both idle
abbrev pub turns : List ℕ
turns = until_handed ++ 1 ∷ 1 ∷ 2 ∷ 1 ∷ 1 ∷ 1 ∷ 2 ∷ 1 ∷ 1 ∷ 2 ∷ []

abbrev pub state_after : List ℕ → State
state_after ps = run (start two) (class_moves two both [] ps)

abbrev pub mutex : ℕ → List ℕ → ℕ → Mutex
mutex c q o = record { count = c; queue = q; owner = o; token = no_token }

-- a go of processor p
abbrev pub go : ℕ → Move
go p = move_of p 0 0

pub record HandOff : Type 0 where
  -- each turn's answer: only that of processor 3 is refused
  pub answers : class_answers two both [] turns ≡ replicate 7 0 ++ 2 ∷ replicate 14 0
  -- the moves made
  pub moves : class_moves two both [] turns ≡
      move_of 1 1 1 ∷ move_of 2 1 1 ∷ go 1 ∷ go 2 ∷ go 2 ∷ go 2 ∷ go 2 ∷
      move_of 1 3 1 ∷ go 1 ∷ go 1 ∷ go 1 ∷
      move_of 1 5 0 ∷ go 1 ∷ go 2 ∷ go 1 ∷ move_of 1 3 1 ∷ go 1 ∷ go 2 ∷ move_of 1 5 0 ∷ go 1 ∷ go 2 ∷ []
  -- thread 1 owns and thread 2 waits; then thread 2 owns, taken from the queue and ready
  pub waiting : mutex_at (state_after until_waiting) 1 ≡ mutex 2 (2 ∷ []) 1
  pub handed : (mutex_at (state_after until_handed) 1 ≡ mutex 1 [] 2) × ((state_after until_handed).ready ≡ (2 ∷ []) ∷ [])
  -- at the end: 21 moves stand, both processors are at CI2, the mutex is free, both threads have ended
  pub shown : picture (state_after turns) ≡
      2 ∷ 2 ∷ 1 ∷ 0 ∷ 0 ∷ 21 ∷ 0 ∷ 0 ∷
      1 ∷ 0 ∷ 0 ∷ 0 ∷ 0 ∷ 0 ∷ 0 ∷ 0 ∷ 0 ∷ 0 ∷ 0 ∷ 0 ∷
      1 ∷ 0 ∷ 0 ∷ 0 ∷ 0 ∷ 0 ∷ 0 ∷ 0 ∷ 0 ∷ 0 ∷ 0 ∷ 0 ∷
      0 ∷ 0 ∷ 0 ∷ 0 ∷ 0 ∷ 0 ∷ 0 ∷ 0 ∷
      5 ∷ 0 ∷ 0 ∷ 0 ∷
      5 ∷ 0 ∷ 0 ∷ 0 ∷ []

-- ---- an owner whose script is spent (No. 9)

-- the scripts of both threads: lock 1
abbrev pub lock_only : List ℕ
lock_only = 1 ∷ 1 ∷ 1 ∷ replicate 10 0 ++ 1 ∷ 1 ∷ 1 ∷ replicate 10 0

-- 1 locks and owns; it has no call left; 2 locks and goes to its queue; 1 has a turn again
abbrev pub left_owning : List ℕ
left_owning = 1 ∷ 1 ∷ 1 ∷ 2 ∷ 2 ∷ 2 ∷ 2 ∷ 2 ∷ 1 ∷ []

pub record SpentScript : Type 0 where
  -- 21 at both turns
  pub answers : class_answers two lock_only [] left_owning ≡ 0 ∷ 0 ∷ 21 ∷ replicate 5 0 ++ 21 ∷ []
  -- thread 1 owns the mutex, and thread 2 waits
  pub waits : mutex_at (run (start two) (class_moves two lock_only [] left_owning)) 1 ≡ mutex 2 (2 ∷ []) 1

-- ---- the words (No. 4)

-- what each move of a list touches in the state before it
unfoldable pub touches_along : State → List Move → List Touch
touches_along s [] = []
touches_along s (a ∷ rest) = touch s a ∷ touches_along (next s a) rest

-- two processors with a ready queue each, and one thread, which processor 1 runs
abbrev pub idle_second : Config
idle_second = record { P = 2; T = 1; M = 1; B = 1; stealing = 1 }

-- thread 1 owns and thread 2 is counted; 1 unlocks, and goes U1, H2 on an empty queue, H5, H6
abbrev pub offered : List Move
offered = move_of 1 1 1 ∷ go 1 ∷ move_of 2 1 1 ∷ go 2 ∷ move_of 1 3 1 ∷ go 1 ∷ go 1 ∷ go 1 ∷ go 1 ∷ []

pub record Words : Type 0 where
  -- the class above: both lock; L1, L1, L3, L4, L6; unlock, U1, H2, H3; exit; CI2 takes and CI2 idles, CI3; unlock, U1, CI2; exit, CI2, CI2
  pub hand_off : touches_along (start two) (class_moves two both [] turns) ≡
      nothing ∷ nothing ∷ changes (count 1) ∷ changes (count 1) ∷ nothing ∷ changes (queue 1) ∷ looks_at (token 1) ∷
      nothing ∷ changes (count 1) ∷ changes (queue 1) ∷ changes (ready 1) ∷
      nothing ∷ changes (ready 1) ∷ looks_at (ready 1) ∷ nothing ∷ nothing ∷ changes (count 1) ∷ looks_at (ready 1) ∷ nothing ∷ looks_at (ready 1) ∷ looks_at (ready 1) ∷ []
  -- H2 finds nobody, H5 writes a token that it has not read, H6 looks again
  pub token_offered : touches_along (start two) offered ≡
      nothing ∷ changes (count 1) ∷ nothing ∷ changes (count 1) ∷ nothing ∷ changes (count 1) ∷ looks_at (queue 1) ∷ overwrites (token 1) ∷ looks_at (queue 1) ∷ []
  -- a processor that idles looks at its own queue, at the other's, at its own again
  pub round : touches_along (start idle_second) (go 2 ∷ go 2 ∷ go 2 ∷ []) ≡ looks_at (ready 2) ∷ looks_at (ready 1) ∷ looks_at (ready 2) ∷ []
  -- a create that is refused touches nothing, though the thread's birth decides it
  pub refused : (touch (start two) (move_of 1 6 2) ≡ changes (birth 2)) × (touched (start two) (move_of 1 6 2) ≡ nothing)

-- ---- two journals

-- processor p yields and goes, which leads back to App
abbrev pub yielded : ℕ → List Move
yielded p = move_of p 4 0 ∷ go p ∷ []

-- thread 1: yield, lock 1. thread 2: yield.
abbrev pub yielding : List ℕ
yielding = 2 ∷ 4 ∷ 0 ∷ 1 ∷ 1 ∷ replicate 8 0 ++ 1 ∷ 4 ∷ 0 ∷ replicate 10 0

pub record SameRecord : Type 0 where
  -- both lists are accepted
  pub legal : (accepted (start two) (yielded 1) ≡ true) × (accepted (start two) (yielded 2) ≡ true)
  -- and give the same state,
  pub state : run (start two) (yielded 1) ≡ run (start two) (yielded 2)
  -- but thread 1 has made one call by the first and none by the second,
  pub places : (progress (start two) (yielded 1) 1 ≡ 1) × (progress (start two) (yielded 2) 1 ≡ 0)
  -- so the next turn of processor 1 locks after the first and yields after the second
  pub next_turn : (turned two yielding (yielded 1) 1 ≡ move_of 1 1 1) × (turned two yielding (yielded 2) 1 ≡ move_of 1 4 0)
  pub differ : ¬ (turned two yielding (yielded 1) 1 ≡ turned two yielding (yielded 2) 1)
