-- What an accepted call leaves: a record and a journal of the moves that the reference session then holds.
-- Assumes nothing.
use Prim.Native.Nat.{ℕ, ◌*◌, ◌≤◌}
use mathlib.Core.Bool.{Bool, true, false, not}
use mathlib.Core.List.{List, [], ◌∷◌, ◌++◌}
use mathlib.Core.Path.{◌≡◌, refl, sym, ap, ◌∙◌, subst}
use native.Mathlib.Omega.{arith}
use lib.Dec.{eqb}
use lib.ListN.{length, take, drop}
use lib.Seq.{take_at}
use borrow.Author.Tests.{eq-eqb, eqb-true, not-false}
use Rattle.state.specs.declared.Session.{Session}
use Rattle.state.specs.Association.{session_record}
use Rattle.reference.specs.Lists.{choose, with_front}
use Rattle.reference.specs.Start.{Config, start}
use Rattle.reference.specs.Step.{Move}
use Rattle.reference.specs.Cause.{accepted}
use Rattle.reference.specs.Script.{scripts_cause, progress, turn_move, class_moves}
use Rattle.reference.specs.State.{State}
use Rattle.reference.specs.Touch.{Touch, nothing, touch}
use Rattle.touch.specs.Association.{touch_shown, touch_record}
use Rattle.touch.proofs.Agrees.{touch-back}
use Rattle.reference.specs.Session.{own, Request, move, turn, class, goto, bytes, Listed, standing as standing-of, all_standing, joined, grown, turn_with, accept, touches, state_of, state_in, lacks_room}
use Rattle.reference.proofs.Tests.{passed}
use Rattle.reference.proofs.Fronts.{with_front-length, with_front_rest}
use Rattle.reference.proofs.Moves.{accepted-length}
use Rattle.reference.proofs.Script.{accepted-class}
use Rattle.reference.proofs.Sums.{choose-by}
use Rattle.session.specs.Contract.{shown, config_of, lent_refusal, standing, matches, test_refusal, move_refusal, moved, journal_after, went}
use Rattle.session.specs.Held.{listed_in}
use Rattle.session.proofs.Answers.{or_passed}
use Rattle.session.proofs.Standing.{length-bytes}
use Rattle.session.proofs.Holding.{Agree, agrees, move-agrees, goto-agrees, Leaves, holds_all, whole_is, listed-standing, listed_holds, move_leaves, goto_leaves}
use Rattle.session.proofs.Replayed.{length-moves}
use Rattle.turns.specs.Contract.{turn_made, turn_refusal, turned, turn_journal, class_refusal, classed, class_journal}
use Rattle.claim.specs.Implementation.{calls}
use Rattle.claim.proofs.Grown.{class_same, with_front-own}

-- ---- an accepted turn is its move

module _ (r : Session) (j x : List ℕ) (p : ℕ) (e : turn_refusal r j x p ≡ 0) where
  pub turn_passed : move_refusal r j (turn_made r j x p) ≡ 0
  unfolding turn_refusal
  turn_passed = (or_passed (scripts_cause r.state.t x) _ (or_passed (test_refusal r j) _ e).1).1

  pub turn-session : (turned r j x p).session ≡ (moved r j (turn_made r j x p)).session
  unfolding turned
  turn-session = rw (eq-eqb (turn_refusal r j x p) 0 e)

  pub turn-writes : turn_journal r j x p ≡ journal_after r j (turn_made r j x p)
  unfolding turn_journal
  turn-writes = rw (eq-eqb (turn_refusal r j x p) 0 e)

-- ---- a record and a journal agree where anything is accepted: each call tests that

module _ (r : Session) (j : List ℕ) where
  class-agrees : (x ps a b : List ℕ) → class_refusal r j x ps a b ≡ 0 → Agree r j
  unfolding class_refusal
  class-agrees x ps a b e =
      let first = or_passed (lent_refusal r (length j)) _ e in
      let room = passed (lacks_room (config_of r) (length ps) a b) _ _ first.1 in
      agrees r j first.0 (not-false _ (passed (not (matches r j)) _ _ room.1).0)

  pub calls_agree : (q : Request) → (calls r j q).refusal ≡ 0 → Agree r j
  unfolding moved turned classed went
  calls_agree (move a) e = move-agrees r j a e
  calls_agree (turn x p) e = move-agrees r j (turn_made r j x p) (turn_passed r j x p e)
  calls_agree (class x ps a b) e = class-agrees x ps a b e
  calls_agree (goto k) e = goto-agrees r j k e

module _ (r : Session) (j : List ℕ) (t : Agree r j) where
  abbrev c : Config
  c = config_of r

  abbrev l : Listed
  l = listed_in r j

  abbrev ms : List Move
  ms = standing r j

  -- the moves that stand are the listed ones
  stands : standing-of l ≡ ms
  stands = listed-standing r j t

  pub state-is : shown r ≡ state_in c l
  state-is = t.state ∙ ap (state_of c) (sym stands)

  made-is : (x : List ℕ) (p : ℕ) → turn_made r j x p ≡ turn_with c l own x p
  made-is x p = λ i. turn_move (state-is i) (progress (start c) (sym stands i)) x p

  joined_leaves : (a : Move) → move_refusal r j a ≡ 0 → Leaves c (joined l a) j (moved r j a).session (journal_after r j a)
  joined_leaves a e =
      subst (λ (ns : List Move). Leaves c (all_standing (ns ++ a ∷ [])) j (moved r j a).session (journal_after r j a)) (sym stands) (move_leaves r j t a e)

  turn_leaves : (x : List ℕ) (p : ℕ) → turn_refusal r j x p ≡ 0 → Leaves c (joined l (turn_with c l own x p)) j (turned r j x p).session (turn_journal r j x p)
  turn_leaves x p e =
      subst (λ (a : Move). Leaves c (joined l a) j (turned r j x p).session (turn_journal r j x p)) (made-is x p)
      (rw (turn-session r j x p e, turn-writes r j x p e) (joined_leaves (turn_made r j x p) (turn_passed r j x p e)))

  module _ (x ps a b : List ℕ) (e : class_refusal r j x ps a b ≡ 0) where
    abbrev made : List Move
    made = class_moves c x ms ps

    legal : accepted (start c) made ≡ true
    legal = accepted-class c x ps ms t.legal

    few : length made ≤ 4000
    unfolding start
    few = omega (arith, accepted-length made (start c) (omega arith) legal)

    fits : length (bytes made) ≤ length j
    fits = omega (arith, length-bytes made, few, t.size)

    wrote : class_journal r j x ps a b ≡ with_front j (bytes made)
    unfolding class_journal
    wrote = rw (eq-eqb (class_refusal r j x ps a b) 0 e)

    gave : (classed r j x ps a b).session ≡ session_record (state_of c made) c.B (choose (eqb (length made) (shown r).applied) r.kept (length made))
    unfolding classed
    gave = rw (eq-eqb (class_refusal r j x ps a b) 0 e)

    -- some turn is accepted: the moves made stand, and no other is kept
    some-made : eqb (length made) (shown r).applied ≡ false → Leaves c (all_standing made) j (classed r j x ps a b).session (class_journal r j x ps a b)
    some-made f = (
      holds_all c made (classed r j x ps a b).session (class_journal r j x ps a b)
          (gave ∙ ap (λ (t : Bool). session_record (state_of c made) c.B (choose t r.kept (length made))) f) legal
          (ap (take (3 * length made)) wrote ∙ take_at (bytes made) (drop (length (bytes made)) j) (3 * length made) (length-bytes made)),
      record {
        size = ap length wrote ∙ with_front-length j (bytes made) fits;
        rest = λ m h. ap (drop (3 * m)) wrote ∙ with_front_rest j (bytes made) (3 * m) (omega (arith, length-bytes made));
      },
    )

    -- none is: everything stays
    none_made : eqb (length made) (shown r).applied ≡ true → Leaves c l j (classed r j x ps a b).session (class_journal r j x ps a b)
    none_made f =
        let long : length ms ≡ (shown r).applied = length-moves (shown r).applied j in
        let same : made ≡ ms = class_same c x ps ms (eqb-true (length made) (shown r).applied f ∙ sym long) in
        let kept : with_front j (bytes made) ≡ j =
        ap (λ (ns : List Move). with_front j (bytes ns)) same ∙ with_front-own j (bytes ms) (ap (λ (n : ℕ). take n j) (length-bytes ms) ∙ whole_is r j t) in
        subst (λ (k : List ℕ). Leaves c l j (classed r j x ps a b).session k) (sym (wrote ∙ kept))
        (listed_holds r j t (shown r).applied t.within (classed r j x ps a b).session
        (gave ∙ (λ i. session_record (state_of c (same i)) c.B (choose (f i) r.kept (length made)))))

    class_leaves : Leaves c (grown l (class_moves c x (standing-of l) ps)) j (classed r j x ps a b).session (class_journal r j x ps a b)
    class_leaves =
        subst (λ (ns : List Move). Leaves c (grown l (class_moves c x ns ps)) j (classed r j x ps a b).session (class_journal r j x ps a b)) (sym stands)
        (choose-by (λ (k : Listed). Leaves c k j (classed r j x ps a b).session (class_journal r j x ps a b)) (eqb (length made) (shown r).applied)
        none_made some-made)

  asked_leaves : (q : Request) → (calls r j q).refusal ≡ 0 → Leaves c (accept c l q own) j (calls r j q).session (calls r j q).journal
  unfolding moved turned classed went
  asked_leaves (move a) e = joined_leaves a e
  asked_leaves (turn x p) e = turn_leaves x p e
  asked_leaves (class x ps a b) e = class_leaves x ps a b e
  asked_leaves (goto k) e = goto_leaves r j t k e

-- any record and journal, anything that is asked and accepted
pub leaves : (r : Session) (j : List ℕ) (q : Request) → (calls r j q).refusal ≡ 0 →
    Leaves (config_of r) (accept (config_of r) (listed_in r j) q own) j (calls r j q).session (calls r j q).journal
leaves r j q e = asked_leaves r j (calls_agree r j q e) q e

-- and says the words that it touched
module _ (r : Session) (j : List ℕ) where
  -- accepted, a move or a turn says its own
  accepted_words : (n : ℕ) (t : Touch) → n ≡ 0 → touch_shown (touch_record (choose (eqb n 0) t nothing)) ≡ t
  accepted_words n t e = rw (eq-eqb n 0 e) (touch-back t)

  calls-touch : Agree r j → (q : Request) → (calls r j q).refusal ≡ 0 → (calls r j q).touch ≡ touches (config_of r) (listed_in r j) q own
  unfolding moved turned
  calls-touch t (move a) e = accepted_words (move_refusal r j a) (touch (shown r) a) e ∙ ap (λ (s : State). touch s a) (state-is r j t)
  calls-touch t (turn x p) e =
      accepted_words (turn_refusal r j x p) (touch (shown r) (turn_made r j x p)) e ∙ (λ i. touch (state-is r j t i) (made-is r j t x p i))
  calls-touch t (class x ps a b) e = refl
  calls-touch t (goto k) e = refl

  pub said : (q : Request) → (calls r j q).refusal ≡ 0 → (calls r j q).touch ≡ touches (config_of r) (listed_in r j) q own
  said q e = calls-touch (calls_agree r j q e) q e
