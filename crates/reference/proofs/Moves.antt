-- Lists of moves: one after another, one more, the first of a list.
-- Assumes nothing.
use Prim.Native.Nat.{ℕ, ◌+◌, ◌≤◌}
use mathlib.Core.Bool.{true}
use mathlib.Core.List.{List, [], ◌∷◌, ◌++◌}
use mathlib.Core.Path.{◌≡◌, refl, ap, ◌∙◌}
use native.Mathlib.Omega.{arith}
use lib.ListN.{length, take, drop, take-append-drop}
use borrow.Author.Tests.{eq-eqb}
use Rattle.reference.specs.State.{State}
use Rattle.reference.specs.Step.{Move, next, run}
use Rattle.reference.specs.Cause.{cause, accepted}
use Rattle.reference.specs.Touch.{touch, last_touch}
use Rattle.reference.proofs.Tests.{both}
use Rattle.reference.proofs.Legal.{legal, accepted_cons}

-- ---- two lists, one after the other

pub run_append : (ms ns : List Move) (s : State) → run s (ms ++ ns) ≡ run (run s ms) ns
unfolding run
run_append [] ns s = refl
run_append (a ∷ ms) ns s = run_append ms ns (next s a)

pub accepted_more : (s : State) (a : Move) (rest : List Move) → cause s a ≡ 0 → accepted (next s a) rest ≡ true → accepted s (a ∷ rest) ≡ true
unfolding accepted
accepted_more s a rest e h = both (eq-eqb (cause s a) 0 e) h

pub accepted_append : (ms ns : List Move) (s : State) → accepted s ms ≡ true → accepted (run s ms) ns ≡ true → accepted s (ms ++ ns) ≡ true
unfolding run accepted
accepted_append [] ns s h k = k
accepted_append (a ∷ ms) ns s h k = let e = accepted_cons s a ms h in accepted_more s a (ms ++ ns) e.0 (accepted_append ms ns (next s a) e.1 k)

pub accepted-split : (ms ns : List Move) (s : State) → accepted s (ms ++ ns) ≡ true → (accepted s ms ≡ true) × (accepted (run s ms) ns ≡ true)
unfolding run accepted
accepted-split [] ns s h = (refl, h)
accepted-split (a ∷ ms) ns s h =
    let e = accepted_cons s a (ms ++ ns) h in
    let r = accepted-split ms ns (next s a) e.1 in
    (accepted_more s a ms e.0 r.0, r.1)

-- ---- a list and its last

pub run_snoc : (ms : List Move) (s : State) (a : Move) → run s (ms ++ a ∷ []) ≡ next (run s ms) a
unfolding run
run_snoc ms s a = run_append ms (a ∷ []) s

-- what the last one touches
pub last_snoc : (ms : List Move) (s : State) (a : Move) → last_touch s (ms ++ a ∷ []) ≡ touch (run s ms) a
unfolding run last_touch
last_snoc [] s a = refl
last_snoc (b ∷ []) s a = refl
last_snoc (b ∷ d ∷ rest) s a = last_snoc (d ∷ rest) (next s b) a

pub accepted_snoc : (ms : List Move) (s : State) (a : Move) → accepted s ms ≡ true → cause (run s ms) a ≡ 0 → accepted s (ms ++ a ∷ []) ≡ true
unfolding accepted
accepted_snoc ms s a h k = accepted_append ms (a ∷ []) s h (accepted_more (run s ms) a [] k refl)

pub accepted-last : (ms : List Move) (s : State) (a : Move) → accepted s (ms ++ a ∷ []) ≡ true → (accepted s ms ≡ true) × (cause (run s ms) a ≡ 0)
accepted-last ms s a h = let r = accepted-split ms (a ∷ []) s h in (r.0, (accepted_cons (run s ms) a [] r.1).0)

-- ---- the first of a list

pub accepted-take : (n : ℕ) (ms : List Move) (s : State) → accepted s ms ≡ true → accepted s (take n ms) ≡ true
accepted-take n ms s h = (accepted-split (take n ms) (drop n ms) s (ap (accepted s) (take-append-drop n ms) ∙ h)).0

-- no more than 4,000 moves stand
pub accepted-length : (ms : List Move) (s : State) → s.applied ≤ 4000 → accepted s ms ≡ true → s.applied + length ms ≤ 4000
unfolding next
accepted-length [] s h ok = omega arith
accepted-length (a ∷ rest) s h ok =
    let e = accepted_cons s a rest ok in
    let r = (legal s a e.0).room in
    omega (arith, accepted-length rest (next s a) r e.1)
