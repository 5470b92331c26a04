-- A class drops no standing move; where it makes none, moves and journal are the same.
-- Assumes nothing.
use Prim.Native.Nat.{ℕ, ◌≤◌}
use mathlib.Core.Bool.{Bool, true, false}
use mathlib.Core.List.{List, [], ◌∷◌, ◌++◌}
use mathlib.Core.Path.{◌≡◌, refl, sym, ap, ◌∙◌}
use native.Mathlib.Omega.{arith}
use lib.Dec.{eqb}
use lib.ListN.{length, take, drop, length-append, take-append-drop}
use Rattle.reference.specs.Lists.{choose, with_front}
use Rattle.reference.specs.Start.{Config}
use Rattle.reference.specs.Step.{Move}
use Rattle.reference.specs.Script.{turned, turn_cause, turn_after, class_moves}

module _ (c : Config) (x : List ℕ) where
  -- the moves after a turn, accepted or not
  abbrev turn_by : Bool → List Move → ℕ → List Move
  turn_by b ms p = choose b (ms ++ turned c x ms p ∷ []) ms

  longer : (b : Bool) (ms : List Move) (p : ℕ) → length ms ≤ length (turn_by b ms p)
  longer true ms p = omega (arith, length-append ms (turned c x ms p ∷ []))
  longer false ms p = omega arith

  pub class_grows : (ps : List ℕ) (ms : List Move) → length ms ≤ length (class_moves c x ms ps)
  unfolding class_moves
  class_grows [] ms = omega arith
  class_grows (p ∷ ps) ms = omega (arith, class_grows ps (turn_after c x ms p), longer (eqb (turn_cause c x ms p) 0) ms p)

  none-longer : (b : Bool) (ms : List Move) (p : ℕ) (ps : List ℕ) → ((ns : List Move) → length (class_moves c x ns ps) ≡ length ns → class_moves c x ns ps ≡ ns) →
      length (class_moves c x (turn_by b ms p) ps) ≡ length ms → class_moves c x (turn_by b ms p) ps ≡ ms
  none-longer true ms p ps on e = absurd (omega (arith, class_grows ps (ms ++ turned c x ms p ∷ []), length-append ms (turned c x ms p ∷ [])))
  none-longer false ms p ps on e = on ms e

  pub class_same : (ps : List ℕ) (ms : List Move) → length (class_moves c x ms ps) ≡ length ms → class_moves c x ms ps ≡ ms
  unfolding class_moves
  class_same [] ms e = refl
  class_same (p ∷ ps) ms e = none-longer (eqb (turn_cause c x ms p) 0) ms p ps (class_same ps) e

-- a buffer with its own front
pub with_front-own : (b front : List ℕ) → take (length front) b ≡ front → with_front b front ≡ b
with_front-own b front e = ap (λ (l : List ℕ). l ++ drop (length front) b) (sym e) ∙ take-append-drop (length front) b
