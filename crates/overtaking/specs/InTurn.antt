-- Who comes to own a mutex, by history, and what holds of those that wait for it and are not marked.
-- Assumes nothing.
use Rattle.std.specs.Prelude.{ℕ, Bool, true, false, ◌&&◌, not, List, [], ◌∷◌, ◌++◌, ◌⊎◌, ◌≡◌, length, take}
use Rattle.reference.specs.Lists.{tabulate, those}
use Rattle.reference.specs.State.{State, mutex_at}
use Rattle.reference.specs.Start.{Config, start, itself}
use Rattle.reference.specs.Step.{Move}
use Rattle.reference.specs.Cause.{accepted}
use Rattle.reference.specs.History.{owns}
use Rattle.reference.specs.Safe.{In, Always, end}
use Rattle.reference.specs.Picture.{first}
use Rattle.overtaking.specs.Ahead.{overtakable}

module _ (c : Config) (m : ℕ) where
  -- by history k does not own m after the moves ms, and does after one more
  abbrev pub comes_to_own : List Move → Move → ℕ → Bool
  comes_to_own ms a k = not (owns (start c) ms m k false) && owns (start c) (ms ++ a ∷ []) m k false

  -- the threads that come to own m by the moves `later`, made after ms, one after the other
  unfoldable pub next_owners : List Move → List Move → List ℕ
  next_owners ms [] = []
  next_owners ms (a ∷ later) = those (comes_to_own ms a) (tabulate itself 1 c.T) ++ next_owners (ms ++ a ∷ []) later

  -- the next of them, 0 where nobody comes to own m
  abbrev pub next_owner : List Move → List Move → ℕ
  next_owner ms later = first (next_owners ms later)

-- In every state that a session reaches: where threads wait for m, x first among them, and m has no mark, the next thread to own m, by any accepted moves from
-- there, is x
abbrev pub NextIsFirstBy : (State → ℕ → Bool) → Type 0
NextIsFirstBy mark =
    Always
    (λ c ms.
    (m x : ℕ) (xs : List ℕ) → In c.M m → (mutex_at (end c ms) m).queue ≡ x ∷ xs → mark (end c ms) m ≡ false →
    (later : List Move) → accepted (end c ms) later ≡ true → (next_owner c m ms later ≡ 0) ⊎ (next_owner c m ms later ≡ x))

-- so it is with this mark
abbrev pub NextIsFirst : Type 0
NextIsFirst = NextIsFirstBy overtakable

-- and so on: until all that wait have been served, those that come to own m are the waiting ones in the queue's order. So nobody overtakes a thread that waits
-- and is not marked.
abbrev pub ServedInOrder : Type 0
ServedInOrder =
    Always
    (λ c ms.
    (m : ℕ) → In c.M m → overtakable (end c ms) m ≡ false → (later : List Move) → accepted (end c ms) later ≡ true →
    take (length (mutex_at (end c ms) m).queue) (next_owners c m ms later) ≡ take (length (next_owners c m ms later)) (mutex_at (end c ms) m).queue)
