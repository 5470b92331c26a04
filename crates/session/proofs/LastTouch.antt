-- What the last standing move touched, by the state before it.
-- Assumes nothing.
use Prim.Native.Nat.{ℕ, ◌+◌, ◌-◌, ◌*◌, ◌≤◌}
use mathlib.Core.Bool.{Bool, true, false}
use mathlib.Core.List.{List, [], ◌∷◌, ◌++◌}
use mathlib.Core.Path.{◌≡◌, refl, sym, ap, ◌∙◌}
use native.Mathlib.Omega.{arith}
use lib.Dec.{eqb}
use lib.ListN.{length, get_or}
use borrow.Author.Tests.{eqb-true, eq-eqb, le-ltb}
use Rattle.state.specs.declared.Session.{Session}
use Rattle.state.specs.declared.State.{State as Record}
use Rattle.state.specs.Association.{encode, decode}
use Rattle.reference.specs.Start.{Config, start}
use Rattle.reference.specs.Step.{Move, run}
use Rattle.reference.specs.Cause.{cause, accepted}
use Rattle.reference.specs.Lists.{choose}
use Rattle.reference.specs.Touch.{nothing, last_touch}
use Rattle.reference.specs.Session.{moves}
use Rattle.reference.proofs.Moves.{last_snoc, accepted-last}
use Rattle.touch.specs.Association.{touch_record}
use Rattle.touch.specs.declared.Touch.{Touch}
use Rattle.touch.specs.Model.Made.{touch_of}
use Rattle.touch.proofs.Agrees.{touch-shows}
use Rattle.shown.proofs.Reached.{reached-allowed}
use Rattle.session.specs.Contract.{config_of, standing, test_refusal, goto_refusal, went, last_touched}
use Rattle.session.proofs.Answers.{lent_passed, test_passed}
use Rattle.session.proofs.Found.{kept_range}
use Rattle.session.proofs.Holding.{Agree, goto_passed, goto-agrees}
use Rattle.session.proofs.Replayed.{move_at, moves_more}

module _ (r : Session) (j : List ℕ) where
  -- how many stand before the last, which is `a`
  abbrev n : ℕ
  n = r.state.applied - 1

  abbrev a : Move
  a = move_at j n

  pub last_none : r.state.applied ≡ 0 → touch_record nothing ≡ last_touched r j
  unfolding last_touched last_touch moves decode
  last_none e = sym (ap touch_record (by (eqb (test_refusal r j) 0)))
    where
      by : (b : Bool) → choose b (last_touch (start (config_of r)) (moves r.state.applied j)) nothing ≡ nothing
      by true = ap (λ (k : ℕ). last_touch (start (config_of r)) (moves k j)) e
      by false = refl

  -- going to the step before it is refused: the journal's test refuses
  pub last_refused : (goto_refusal r j n ≡ 0 → ⊥) → touch_record nothing ≡ last_touched r j
  unfolding last_touched goto_refusal
  last_refused h = by (eqb (test_refusal r j) 0) refl
    where
      by : (b : Bool) → eqb (test_refusal r j) 0 ≡ b → touch_record nothing ≡ last_touched r j
      by false e = rw e
      by true e =
          let t = test_passed r j (eqb-true (test_refusal r j) 0 e) in
          let within : n ≤ r.kept = omega (arith, (kept_range r (lent_passed r (length j) t.0).1).0) in
          absurd (h (rw (t.0, le-ltb r.kept n within, t.1)))

  -- it is accepted and gives s: the journal's next move is the last standing one
  module _ (some : r.state.applied ≡ 0 → ⊥) (e : goto_refusal r j n ≡ 0) (s : Record) (s-is : s ≡ (went r j n).session.state) where
    abbrev c : Config
    c = config_of r

    t : Agree r j
    t = goto-agrees r j n e

    tested : test_refusal r j ≡ 0
    unfolding test_refusal
    tested = let p = goto_passed r j n e in rw (p.0, p.2)

    all-is : standing r j ≡ moves n j ++ a ∷ []
    unfolding decode
    all-is = ap (λ (k : ℕ). moves k j) (omega arith) ∙ moves_more n j

    legal : (accepted (start c) (moves n j) ≡ true) × (cause (run (start c) (moves n j)) a ≡ 0)
    legal = accepted-last (moves n j) (start c) a (ap (accepted (start c)) (sym all-is) ∙ t.legal)

    state-is : s ≡ encode (run (start c) (moves n j))
    unfolding went
    state-is = s-is ∙ rw (eq-eqb (goto_refusal r j n) 0 e)

    pub last_some : (w : Touch) → w ≡ touch_record (touch_of s (get_or j (3 * n) 0) (get_or j (3 * n + 1) 0) (get_or j (3 * n + 2) 0)) → w ≡ last_touched r j
    unfolding last_touched
    last_some w w-is =
        w-is ∙
        ap touch_record
        (ap (λ (x : Record). touch_of x a.processor a.action a.operand) state-is ∙
        touch-shows (run (start c) (moves n j)) (reached-allowed c t.config (moves n j) legal.0) a legal.1 ∙
        sym (ap (last_touch (start c)) all-is ∙ last_snoc (moves n j) (start c) a)) ∙
        rw (eq-eqb (test_refusal r j) 0 tested)
