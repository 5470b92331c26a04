-- Turns ahead of a thread that waits for a mutex (document 01), and the mark 'may be overtaken' (document 02, No. 1).
-- Assumes nothing.
use Rattle.std.specs.Prelude.{ℕ, suc, ◌+◌, Bool, ◌&&◌, ◌||◌, List, [], ◌∷◌, eqb, ltb}
use Rattle.reference.specs.Lists.{choose, if_zero, find}
use Rattle.reference.specs.State.{State, Processor, Mutex, H5, same_line, mutex_at}
use Rattle.reference.specs.Picture.{stands_in}

-- ---- turns

-- how many stand before k in a queue
unfoldable pub before : ℕ → List ℕ → ℕ
before k [] = 0
before k (x ∷ rest) = choose (eqb x k) 0 (suc (before k rest))

-- the mutex in whose queue k is, 0 for none
abbrev pub waits_for : State → ℕ → ℕ
waits_for s k = find (λ (x : Mutex). stands_in k x.queue) s.mutexes

-- those in front of it, and the owner, if there is one
abbrev pub turns_at : Mutex → ℕ → ℕ
turns_at x k = before k x.queue + if_zero x.owner 0 1

-- ---- the mark

-- a processor stands at H5 on m: it is about to offer m by a token
abbrev pub at_H5 : ℕ → Processor → Bool
at_H5 m r = same_line r.position H5 && eqb r.mutex m

-- may be overtaken, of those that wait for m: m has a token, or a processor stands at H5 on it
unfoldable pub overtakable : State → ℕ → Bool
overtakable s m = ltb 0 (mutex_at s m).token.processor || ltb 0 (find (at_H5 m) s.processors)
