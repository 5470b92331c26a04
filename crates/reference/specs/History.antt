-- History, read from a list of moves and the state before each: who owns a mutex, which threads were created or have exited. The owner field is never looked at.
-- Assumes nothing.
use Rattle.std.specs.Prelude.{ℕ, Bool, true, false, ◌||◌, List, [], ◌∷◌, eqb}
use Rattle.reference.specs.Lists.{choose, if_zero, if_empty}
use Rattle.reference.specs.State.{State, Line, L1, L9, TL1, GT3, U1, H2, same_line, processor_at}
use Rattle.reference.specs.Step.{View, Move, Action, go, lock, trylock, unlock, yield, exit, create, unchanged, view, action_of, next, created_by, ended_by}

-- the thread that becomes m's owner at this line, 0 for none
unfoldable pub gains : Line → View → ℕ
gains l v =
    choose (same_line l L1) (if_zero v.mutex.count v.proc.current 0)
    (choose (same_line l TL1) (if_zero v.mutex.count v.proc.current 0)
    (choose (same_line l GT3) (choose (unchanged v) v.proc.current 0)
    (choose (same_line l L9) (if_empty v.mutex.queue 0 (λ x rest. x))
    (choose (same_line l H2) (if_empty v.mutex.queue 0 (λ x rest. x)) 0))))

-- the thread that gives m up at this line, 0 for none
unfoldable pub drops : Line → View → ℕ
drops l v = choose (same_line l U1) v.proc.current 0

-- whether k owns m after a go of processor p; `b` says whether it did before
abbrev pub owns_after_go : State → ℕ → ℕ → ℕ → Bool → Bool
owns_after_go s p m k b =
    let l : Line = (processor_at s p).position in
    let v : View = view s p (processor_at s p).mutex in
    choose (eqb m (processor_at s p).mutex) (choose (eqb (gains l v) k) true (choose (eqb (drops l v) k) false b)) b

abbrev pub owns_after : Action → State → ℕ → ℕ → ℕ → Bool → Bool
owns_after go s p m k b = owns_after_go s p m k b
owns_after lock s p m k b = b
owns_after trylock s p m k b = b
owns_after unlock s p m k b = b
owns_after yield s p m k b = b
owns_after exit s p m k b = b
owns_after create s p m k b = b

-- whether k owns m after the moves made from s; `b` says whether it did before them
unfoldable pub owns : State → List Move → ℕ → ℕ → Bool → Bool
owns s [] m k b = b
owns s (a ∷ rest) m k b = owns (next s a) rest m k (owns_after (action_of a.action) s a.processor m k b)

-- a move of the list is a create of k
unfoldable pub created : List Move → ℕ → Bool
created [] k = false
created (a ∷ rest) k = eqb (created_by (action_of a.action) a.operand) k || created rest k

-- a move of the list, made from s, is an exit of k
unfoldable pub exited : State → List Move → ℕ → Bool
exited s [] k = false
exited s (a ∷ rest) k = eqb (ended_by (action_of a.action) (processor_at s a.processor).current) k || exited (next s a) rest k
