-- Scripts of calls (document 02, No. 7): their bytes, a thread's progress in its script, the move that a turn makes, and a class, which is a list of turns.
-- Assumes nothing.
use Rattle.std.specs.Prelude.{ℕ, ◌+◌, ◌-◌, ◌*◌, Bool, ◌&&◌, not, List, [], ◌∷◌, ◌++◌, eqb, leb, ltb, length, get_or}
use Rattle.reference.specs.Refusal.{bad_script, refuse}
use Rattle.reference.specs.Lists.{choose, in_range, each}
use Rattle.reference.specs.State.{State, processor_at}
use Rattle.reference.specs.Start.{Config, start}
use Rattle.reference.specs.Step.{Move, move_of, action_of, next, run}
use Rattle.reference.specs.Cause.{is_go, at_app, cause}
use Rattle.reference.specs.Safe.{one_if}
use Rattle.reference.specs.Picture.{picture}

-- ---- a thread's script: a byte for how many calls it has, then two bytes a call, action and operand, with room for six

-- byte i of thread k's script, 0 where there is none
abbrev pub script_byte : List ℕ → ℕ → ℕ → ℕ
script_byte x k i = get_or x (13 * (k - 1) + i) 0

-- the number of its calls
abbrev pub script_length : List ℕ → ℕ → ℕ
script_length x k = script_byte x k 0

-- call i of thread k, counted from 0
abbrev pub script_action : List ℕ → ℕ → ℕ → ℕ
script_action x k i = script_byte x k (2 * i + 1)

abbrev pub script_operand : List ℕ → ℕ → ℕ → ℕ
script_operand x k i = script_byte x k (2 * i + 2)

-- the calls that it says it has are calls; what stands behind them is not looked at
unfoldable pub script_ok : List ℕ → ℕ → Bool
script_ok x k = leb (script_length x k) 6 && each (λ i. in_range 1 6 (script_action x k i)) 0 (script_length x k)

-- the scripts of t threads: the buffer holds them, and each is in order
unfoldable pub scripts_ok : ℕ → List ℕ → Bool
scripts_ok t x = leb (13 * t) (length x) && each (script_ok x) 1 t

-- the cause that scripts can give
abbrev pub scripts_cause : ℕ → List ℕ → ℕ
scripts_cause t x = refuse (not (scripts_ok t x)) bad_script 0

-- ---- a thread's progress (document 02: its place): how many calls it has made

-- made in s, the move is a call of thread k: that thread is its processor's current one
abbrev pub call_of : State → Move → ℕ → Bool
call_of s a k = not (is_go (action_of a.action)) && eqb (processor_at s a.processor).current k

-- the calls of thread k among the moves made from s
unfoldable pub progress : State → List Move → ℕ → ℕ
progress s [] k = 0
progress s (a ∷ rest) k = one_if (call_of s a k) + progress (next s a) rest k

-- ---- a turn

-- what thread k calls next when it has made i calls: after the last it exits
abbrev pub next_call : List ℕ → ℕ → ℕ → ℕ → Move
next_call x p k i = choose (ltb i (script_length x k)) (move_of p (script_action x k i) (script_operand x k i)) (move_of p 5 0)

-- the move of processor p's turn in state s: a thread outside the library makes its next call. `made` says how many calls a thread has made.
unfoldable pub turn_move : State → (ℕ → ℕ) → List ℕ → ℕ → Move
turn_move s made x p = choose (at_app s p) (next_call x p (processor_at s p).current (made (processor_at s p).current)) (move_of p 0 0)

-- ---- a class (document 02: class session) from the configuration c with the scripts x, where the moves ms stand already

module _ (c : Config) (x : List ℕ) where
  -- the move of a turn, and its cause
  abbrev pub turned : List Move → ℕ → Move
  turned ms p = turn_move (run (start c) ms) (progress (start c) ms) x p

  abbrev pub turn_cause : List Move → ℕ → ℕ
  turn_cause ms p = cause (run (start c) ms) (turned ms p)

  -- an accepted turn adds its move, a refused one nothing
  abbrev pub turn_after : List Move → ℕ → List Move
  turn_after ms p = choose (eqb (turn_cause ms p) 0) (ms ++ turned ms p ∷ []) ms

  -- the moves that stand after the turns of the processors ps
  unfoldable pub class_moves : List Move → List ℕ → List Move
  class_moves ms [] = ms
  class_moves ms (p ∷ ps) = class_moves (turn_after ms p) ps

  -- each turn's answer
  unfoldable pub class_answers : List Move → List ℕ → List ℕ
  class_answers ms [] = []
  class_answers ms (p ∷ ps) = turn_cause ms p ∷ class_answers (turn_after ms p) ps

  -- the pictures after each turn, also after a refused one
  unfoldable pub class_pictures : List Move → List ℕ → List ℕ
  class_pictures ms [] = []
  class_pictures ms (p ∷ ps) = picture (run (start c) (turn_after ms p)) ++ class_pictures (turn_after ms p) ps
