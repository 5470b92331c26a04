-- What it means that a move has no cause.
-- Assumes nothing.
use Prim.Native.Nat.{ℕ, ◌≤◌, ◌<◌}
use mathlib.Core.Bool.{Bool, true, false, ◌&&◌, not, true≢false}
use mathlib.Core.List.{List, ◌∷◌}
use mathlib.Core.Logic.{◌⊎◌, inl, inr}
use mathlib.Core.Path.{◌≡◌, refl, ap, sym}
use native.Mathlib.Omega.{arith}
use lib.Dec.{leb}
use borrow.Author.Tests.{leb-true, leb-false, le-leb, lt-leb, eqb-true, eq-eqb, not-true, not-false}
use Rattle.reference.specs.Refusal.{still_owner, refuse}
use Rattle.reference.specs.State.{State, Line, Life, App, new, same_line, same_life, processor_at, mutex_at, life_at}
use Rattle.reference.specs.Step.{Action, Move, action_of, next}
use Rattle.reference.specs.Cause.{operand_fits, is_go, is_unlock, is_create, is_exit, at_app, owns_none, Facts, first_cause, facts, cause, accepted}
use Rattle.reference.specs.Safe.{In}
use Rattle.reference.proofs.Tests.{both, both_left, both_right, ◌and◌, range_true, true_range, passed}
use Rattle.reference.proofs.Same.{same_line_exact, same_life_exact}

-- where the processor, the action and its operand are in order and there is room
pub record Here (s : State) (p : ℕ) (a : Action) (o : ℕ) : Type 0 where
  pub call : is_go a ≡ false → (processor_at s p).position ≡ App
  pub away : is_go a ≡ true → at_app s p ≡ false
  pub owner : is_unlock a ≡ true → (mutex_at s o).owner ≡ (processor_at s p).current
  pub unborn : is_create a ≡ true → life_at s o ≡ new
  pub owns_none : is_exit a ≡ true → owns_none s (processor_at s p).current ≡ true

pub record Legal (s : State) (a : Move) : Type 0 where
  pub processor : In s.P a.processor
  pub action : a.action ≤ 6
  pub operand : operand_fits s (action_of a.action) a.operand ≡ true
  pub room : s.applied < 4000
  pub here : Here s a.processor (action_of a.action) a.operand

-- of two tests that are not both passed, the second is not where the first is
other : (a b : Bool) → a && b ≡ false → a ≡ true → b ≡ false
other true b e h = e
other false b e h = absurd (true≢false (sym h))

pub legal : (s : State) (a : Move) → cause s a ≡ 0 → Legal s a
unfolding cause
legal s a e =
    let f : Facts = facts s a in
    let h = passed (not f.there) _ _ e in
    let i = passed (not f.fits) _ _ h.1 in
    let j = passed f.full _ _ i.1 in
    let k = passed (not f.goes && not f.at_app) _ _ j.1 in
    let l = passed (f.goes && f.at_app) _ _ k.1 in
    let m = passed (f.unlocks && not f.owner) _ _ l.1 in
    let n = passed (f.creates && not f.is_new) _ _ m.1 in
    let q = passed (f.exits && f.owning) _ _ n.1 in
    let fits = not-false _ i.0 in
    record {
      processor = range_true 1 s.P a.processor (not-false _ h.0);
      action = leb-true a.action 6 (both_left (leb a.action 6) _ fits);
      operand = both_right (leb a.action 6) _ fits;
      room = leb-false 4000 s.applied j.0;
      here = record {
        call = λ x. same_line_exact.only (processor_at s a.processor).position App (not-false _ (other (not f.goes) _ k.0 (ap not x)));
        away = other f.goes _ l.0;
        owner = λ x. eqb-true (mutex_at s a.operand).owner (processor_at s a.processor).current (not-false _ (other f.unlocks _ m.0 x));
        unborn = λ x. same_life_exact.only (life_at s a.operand) new (not-false _ (other f.creates _ n.0 x));
        owns_none = λ x. not-false _ (other f.exits _ q.0 x);
      };
    }

-- ---- and back: where all of that holds there is no cause

pass : (b : Bool) (n x : ℕ) → b ≡ false → x ≡ 0 → refuse b n x ≡ 0
pass true n x e h = absurd (true≢false e)
pass false n x e h = h

not-both : (a b : Bool) → (a ≡ true → b ≡ false) → a && b ≡ false
not-both true b h = h refl
not-both false b h = refl

pub no_cause : (s : State) (a : Move) → Legal s a → cause s a ≡ 0
unfolding cause
no_cause s a h =
    let f : Facts = facts s a in
    let x = h.here in
    pass _ _ _ (ap not (true_range 1 s.P a.processor h.processor.0 h.processor.1))
    (pass _ _ _ (ap not (both (le-leb a.action 6 h.action) h.operand))
    (pass _ _ _ (lt-leb 4000 s.applied h.room)
    (pass _ _ _ (not-both (not f.goes) _ (λ e. ap (λ (l : Line). not (same_line l App)) (x.call (not-true _ e))))
    (pass _ _ _ (not-both f.goes _ x.away)
    (pass _ _ _ (not-both f.unlocks _ (λ e. ap not (eq-eqb _ _ (x.owner e))))
    (pass _ _ _ (not-both f.creates _ (λ e. ap (λ (l : Life). not (same_life l new)) (x.unborn e)))
    (pass _ _ _ (not-both f.exits _ (λ e. ap not (x.owns_none e))) refl)))))))

-- ---- the numbers of causes

abbrev OfCause : ℕ → Type 0
OfCause n = (n ≤ 8) ⊎ (n ≡ still_owner)

first : (b : Bool) (n later : ℕ) → OfCause n → OfCause later → OfCause (refuse b n later)
first true n later h k = h
first false n later h k = k

first_of_cause : (f : Facts) → OfCause (first_cause f)
first_of_cause f =
    first (not f.there) 2 _
    (inl (omega arith))
    (first (not f.fits) 3 _
    (inl (omega arith))
    (first f.full 8 _
    (inl (omega arith))
    (first (not f.goes && not f.at_app) 4 _
    (inl (omega arith))
    (first (f.goes && f.at_app) 5 _
    (inl (omega arith))
    (first (f.unlocks && not f.owner) 6 _
    (inl (omega arith))
    (first (f.creates && not f.is_new) 7 _ (inl (omega arith)) (first (f.exits && f.owning) still_owner 0 (inr refl) (inl (omega arith)))))))))

pub cause-number : (s : State) (a : Move) → OfCause (cause s a)
unfolding cause
cause-number s a = first_of_cause (facts s a)

pub accepted_cons : (s : State) (a : Move) (rest : List Move) → accepted s (a ∷ rest) ≡ true → (cause s a ≡ 0) × (accepted (next s a) rest ≡ true)
unfolding accepted
accepted_cons s a rest = eqb-true (cause s a) 0 and (λ e. e)
