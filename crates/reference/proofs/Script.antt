-- A thread's progress and a class, one move or one turn more.
-- Assumes nothing.
use Prim.Native.Nat.{ℕ, suc, ◌+◌, ◌≤◌}
use mathlib.Core.Bool.{Bool, true, false}
use mathlib.Core.List.{List, [], ◌∷◌, ◌++◌, append_assoc, append-nil}
use mathlib.Core.Path.{◌≡◌, refl, sym, ap, ◌∙◌}
use native.Mathlib.Omega.{arith}
use lib.Dec.{eqb}
use lib.ListN.{length}
use borrow.Author.Tests.{eqb-true}
use Rattle.reference.specs.State.{State}
use Rattle.reference.specs.Start.{Config, start}
use Rattle.reference.specs.Step.{Move, next, run}
use Rattle.reference.specs.Cause.{accepted}
use Rattle.reference.specs.Safe.{one_if}
use Rattle.reference.specs.Script.{call_of, progress, turn_cause, turn_after, turned, class_moves, class_answers, class_pictures}
use Rattle.reference.specs.Picture.{picture}
use Rattle.reference.proofs.Sums.{choose-by}
use Rattle.reference.proofs.Moves.{accepted_snoc}

-- ---- progress

one_most : (b : Bool) → one_if b ≤ 1
one_most true = omega arith
one_most false = omega arith

-- no more calls than moves
pub progress-most : (ms : List Move) (s : State) (k : ℕ) → progress s ms k ≤ length ms
unfolding progress
progress-most [] s k = omega arith
progress-most (a ∷ rest) s k = omega (arith, one_most (call_of s a k), progress-most rest (next s a) k)

-- one move more
pub progress_snoc : (ms : List Move) (s : State) (a : Move) (k : ℕ) → progress s (ms ++ a ∷ []) k ≡ progress s ms k + one_if (call_of (run s ms) a k)
unfolding progress run
progress_snoc [] s a k = omega arith
progress_snoc (b ∷ rest) s a k = omega (arith, progress_snoc rest (next s b) a k)

-- ---- a class

module _ (c : Config) (x : List ℕ) where
  pub accepted-turn : (ms : List Move) (p : ℕ) → accepted (start c) ms ≡ true → accepted (start c) (turn_after c x ms p) ≡ true
  accepted-turn ms p h =
      choose-by (λ (l : List Move). accepted (start c) l ≡ true) (eqb (turn_cause c x ms p) 0)
      (λ e. accepted_snoc ms (start c) (turned c x ms p) h (eqb-true (turn_cause c x ms p) 0 e)) (λ e. h)

  pub accepted-class : (ps : List ℕ) (ms : List Move) → accepted (start c) ms ≡ true → accepted (start c) (class_moves c x ms ps) ≡ true
  unfolding class_moves
  accepted-class [] ms h = h
  accepted-class (p ∷ ps) ms h = accepted-class ps (turn_after c x ms p) (accepted-turn ms p h)

  -- one turn more
  pub moves_more : (ps : List ℕ) (ms : List Move) (p : ℕ) → class_moves c x ms (ps ++ p ∷ []) ≡ turn_after c x (class_moves c x ms ps) p
  unfolding class_moves
  moves_more [] ms p = refl
  moves_more (q ∷ ps) ms p = moves_more ps (turn_after c x ms q) p

  pub answers_more : (ps : List ℕ) (ms : List Move) (p : ℕ) →
      class_answers c x ms (ps ++ p ∷ []) ≡ class_answers c x ms ps ++ turn_cause c x (class_moves c x ms ps) p ∷ []
  unfolding class_moves class_answers
  answers_more [] ms p = refl
  answers_more (q ∷ ps) ms p = ap (λ (l : List ℕ). turn_cause c x ms q ∷ l) (answers_more ps (turn_after c x ms q) p)

  pub pictures_more : (ps : List ℕ) (ms : List Move) (p : ℕ) →
      class_pictures c x ms (ps ++ p ∷ []) ≡ class_pictures c x ms ps ++ picture (run (start c) (turn_after c x (class_moves c x ms ps) p))
  unfolding class_moves class_pictures
  pictures_more [] ms p = append-nil _
  pictures_more (q ∷ ps) ms p =
      let one : List ℕ = picture (run (start c) (turn_after c x ms q)) in
      ap (λ (l : List ℕ). one ++ l) (pictures_more ps (turn_after c x ms q) p) ∙ sym (append_assoc one _ _)

  pub answers-length : (ps : List ℕ) (ms : List Move) → length (class_answers c x ms ps) ≡ length ps
  unfolding class_answers
  answers-length [] ms = refl
  answers-length (p ∷ ps) ms = ap suc (answers-length ps (turn_after c x ms p))
