-- A move of the code on the record of a reached state is the reference machine's.
-- Assumes nothing.
use Prim.Native.Nat.{ℕ, zero, suc}
use mathlib.Core.Bool.{Bool, true, false}
use mathlib.Core.List.{List}
use mathlib.Core.Path.{◌≡◌, refl, ap, ◌∙◌}
use lib.Dec.{eqb}
use borrow.Author.Tests.{eqb-true}
use Rattle.state.specs.Association.{encode}
use Rattle.step.specs.Model.Moves.{Moved, moved_of}
use Rattle.reference.specs.Refusal.{bad_record, refuse}
use Rattle.reference.specs.Lists.{choose}
use Rattle.reference.specs.State.{State}
use Rattle.reference.specs.Start.{Config, config_cause, start}
use Rattle.reference.specs.Step.{Move, next, run}
use Rattle.reference.specs.Cause.{cause, accepted}
use Rattle.reference.specs.Break.{step_breaks}
use Rattle.reference.specs.Touch.{Touch, nothing, touched}
use Rattle.reference.proofs.Laws.{good}
use Rattle.reference.proofs.Break.{never_breaks}
use Rattle.shown.proofs.Reached.{reached-allowed}
use Rattle.agreement.proofs.Moved.{taken_if, moved-shows}
use Rattle.touch.specs.Association.{touch_record}
use Rattle.touch.specs.Model.Made.{Made, touch_of, made_of}
use Rattle.touch.proofs.Agrees.{touch-shows}
use Rattle.session.specs.Contract.{or_later}

abbrev pub moved_in : State → Move → Moved
moved_in s a = record { refusal = cause s a; state = choose (eqb (cause s a) 0) (encode (next s a)) (encode s) }

abbrev pub made_in : State → Move → Made
made_in s a = record { refusal = cause s a; state = choose (eqb (cause s a) 0) (encode (next s a)) (encode s); touch = touch_record (touched s a) }

-- 15 is never there at a step
pub never_broken : (c : Config) (ms : List Move) → config_cause c ≡ 0 → accepted (start c) ms ≡ true → (a : Move) →
    or_later (cause (run (start c) ms) a) (refuse (step_breaks (run (start c) ms) a) bad_record 0) ≡ cause (run (start c) ms) a
never_broken c ms e ok a = only (cause (run (start c) ms) a) (λ z. never_breaks (run (start c) ms) a (good c e ms ok) z)
  where
    only : (n : ℕ) {b : Bool} → (n ≡ 0 → b ≡ false) → or_later n (refuse b bad_record 0) ≡ n
    only zero h = rw (h refl)
    only (suc n) h = refl

pub moved-reached : (c : Config) (ms : List Move) → config_cause c ≡ 0 → accepted (start c) ms ≡ true → (a : Move) →
    moved_of (encode (run (start c) ms)) a.processor a.action a.operand ≡ moved_in (run (start c) ms) a
moved-reached c ms e ok a =
    let s : State = run (start c) ms in
    moved-shows s (reached-allowed c e ms ok) a ∙
    ap (λ (n : ℕ). record { refusal = n; state = choose (eqb n 0) (encode (next s a)) (encode s) }) (never_broken c ms e ok a)

-- the same of a move with its words
pub touched-reached : (c : Config) (ms : List Move) → config_cause c ≡ 0 → accepted (start c) ms ≡ true → (a : Move) →
    made_of (encode (run (start c) ms)) a.processor a.action a.operand ≡ made_in (run (start c) ms) a
unfolding made_of touched
touched-reached c ms e ok a =
    let s : State = run (start c) ms in
    let t : Touch = touch_of (encode s) a.processor a.action a.operand in
    ap (λ (m : Moved). record { refusal = m.refusal; state = m.state; touch = touch_record (choose (eqb m.refusal 0) t nothing) }) (moved-reached c ms e ok a) ∙
    ap (λ (t : Touch). record { refusal = cause s a; state = choose (eqb (cause s a) 0) (encode (next s a)) (encode s); touch = touch_record t })
    (taken_if (eqb (cause s a) 0) nothing (λ z. touch-shows s (reached-allowed c e ms ok) a (eqb-true (cause s a) 0 z)))
