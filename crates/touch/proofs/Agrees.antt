-- What the code says that a move touches is what the reference machine's move touches.
-- Assumes nothing.
use Prim.Native.Nat.{ℕ, ◌+◌}
use mathlib.Core.Bool.{true, not}
use mathlib.Core.List.{List, [], ◌∷◌}
use mathlib.Core.Path.{◌≡◌, refl, ap, subst, ◌∙◌}
use native.Mathlib.Decide.{ℕ_discrete}
use native.Mathlib.Omega.{arith}
use lib.Dec.{eqb}
use borrow.Author.Tests.{eqb-true, ne_eqb}
use Rattle.touch.specs.declared.Sight.{Sight}
use Rattle.touch.specs.Association.{word_shown, touch_shown, word_record, touch_record}
use Rattle.touch.specs.Model.Made.{Made, ready_number, sight_of, some_queue, view_shown, act_seen, touch_of, made_of}
use Rattle.state.specs.declared.State as declared
use Rattle.state.specs.Record.{Sized}
use Rattle.state.specs.Association.{encode, decode, queue_at}
use Rattle.state.specs.Rules.{state_ok}
use Rattle.state.specs.Allowed.{Allowed}
use Rattle.state.proofs.Branch.{if_none, if_some}
use Rattle.state.proofs.Numbers.{queue-mutex}
use Rattle.step.specs.declared.View as code
use Rattle.step.specs.Model.Moves.{Moved, nothing_there, view_of}
use Rattle.reference.specs.Lists.{choose, if_empty}
use Rattle.reference.specs.State.{State, Processor, Line, App, CI2, CI3, L1, L3, L4, L6, L7, L8, L9, L10, TL1, GT1, GT3, TL3, U1, H2, H3, H5, H6, H8, Y1, Y2, Y3, C2, processor_at, mutex_at}
use Rattle.reference.specs.State as reference
use Rattle.reference.specs.Step.{view, works_on, Action, go, lock, trylock, unlock, yield, exit, create, action_of, Move, next}
use Rattle.reference.specs.Cause.{cause}
use Rattle.reference.specs.Safe.{In}
use Rattle.reference.specs.Touch.{Word, none, count, token, queue, ready, birth, Touch, nothing, looks_at, changes, line_touch, act_touch, touch}
use Rattle.reference.proofs.Same.{line-number}
use Rattle.reference.proofs.Legal.{legal}
use Rattle.association.proofs.Transfers.{number, works_there}
use Rattle.shown.proofs.Regular.{Regular, Registers, regular_fits, allowed_regular}
use Rattle.shown.proofs.Encode.{encode-decode, decode-allowed}
use Rattle.agreement.proofs.View.{found, seen}
use Rattle.agreement.proofs.Causes.{mutex-shows, view-shows}
use Rattle.agreement.proofs.Moved.{refusal, not-refused, taken_if, moved-valid}

-- a line asks of a queue only whether it is empty
same_branch : (a b : Touch) (l o : List ℕ) → o ≡ l → if_empty (some_queue (not (nothing_there (found o)))) a (λ x rest. b) ≡ if_empty l a (λ x rest. b)
same_branch a b [] o e = rw e
same_branch a b (x ∷ l) o e = rw e

module _ (s : State) (g : Regular s) (p : ℕ) (rp : In s.P p) where
  abbrev r : Processor
  r = processor_at s p

  abbrev m : ℕ
  m = r.mutex

  abbrev c : Sight
  c = sight_of (seen s p m)

  -- the ready queue by its number
  ready-is : ready_number (number s p) ≡ works_on s p
  ready-is =
      let w = works_there s p (regular_fits s g) rp in
      elim (ℕ_discrete s.stealing 0) [
        | yes e ↦ ap ready_number (if_none s.stealing 0 (8 + works_on s p) e) ∙ omega (arith, w, if_none s.stealing 1 s.P e)
        | no e ↦ ap ready_number (if_some s.stealing 0 (8 + works_on s p) e) ∙ rw (ne_eqb (8 + works_on s p) 0 (omega arith)) (omega arith)
      ]

  module _ (q : ℕ) where
    line_same : (l : Line) → Registers s.P s.T s.M l r → line_touch l m q (view_shown c) ≡ line_touch l m q (view s p m)
    unfolding line_touch
    line_same App h = refl
    line_same CI2 h = same_branch (looks_at (ready q)) (changes (ready q)) (reference.queue_at s (works_on s p)) _ refl
    line_same CI3 h = refl
    line_same L1 h = refl
    line_same L3 h = refl
    line_same L4 h = refl
    line_same L6 h = refl
    line_same L7 h = refl
    line_same L8 h = refl
    line_same L9 h = same_branch (looks_at (queue m)) (changes (queue m)) (mutex_at s m).queue (queue_at s m) (queue-mutex s m (omega (arith, g.m_range)))
    line_same L10 h = refl
    line_same TL1 h = refl
    line_same GT1 h = refl
    line_same GT3 h = refl
    line_same TL3 h = refl
    line_same U1 h = refl
    line_same H2 h = same_branch (looks_at (queue m)) (changes (queue m)) (mutex_at s m).queue (queue_at s m) (queue-mutex s m (omega (arith, g.m_range)))
    line_same H3 h = refl
    line_same H5 h = refl
    line_same H6 h = refl
    line_same H8 h = refl
    line_same Y1 h = refl
    line_same Y2 h = refl
    line_same Y3 h = refl
    line_same C2 h = refl

    act-same : (a : Action) (o : ℕ) → act_touch a o m q (view_shown c) ≡ act_touch a o m q (view s p m)
    unfolding act_touch
    act-same go o = ap (λ (l : Line). line_touch l m q (view_shown c)) (line-number r.position) ∙ line_same r.position (g.registers p rp)
    act-same lock o = refl
    act-same trylock o = refl
    act-same unlock o = refl
    act-same yield o = refl
    act-same exit o = refl
    act-same create o = refl

module _ (s : State) (h : Allowed s) (a : Move) where
  g : Regular s
  g = allowed_regular s h

  pub touch-shows : cause s a ≡ 0 → touch_of (encode s) a.processor a.action a.operand ≡ touch s a
  unfolding act_seen
  touch-shows e =
      let p : ℕ = a.processor in
      let rp : In s.P p = (legal s a e).processor in
      ap (λ (k : ℕ). act_seen a.action a.operand (sight_of (view_of (encode s) p k))) (mutex-shows s (regular_fits s g) p) ∙
      ap (λ (v : code.View). act_seen a.action a.operand (sight_of v)) (view-shows s g p (processor_at s p).mutex rp) ∙
      ap (λ (q : ℕ). act_touch (action_of a.action) a.operand (processor_at s p).mutex q (view_shown (sight_of (seen s p (processor_at s p).mutex)))) (ready-is s g p rp) ∙
      act-same s g p rp (works_on s p) (action_of a.action) a.operand

abbrev made : ℕ → declared.State → Touch → Made
made n s t = record { refusal = n; state = s; touch = touch_record t }

-- the same of a record that keeps the rules
module _ (r : declared.State) (z : Sized r) (k : state_ok r ≡ true) (a : Move) where
  pub touch-valid : cause (decode r) a ≡ 0 → touch_of r a.processor a.action a.operand ≡ touch (decode r) a
  touch-valid e =
      subst (λ (q : declared.State). touch_of q a.processor a.action a.operand ≡ touch (decode r) a) (encode-decode r z k)
      (touch-shows (decode r) (decode-allowed r z k) a e)

  -- a move with its words
  pub made-valid : made_of r a.processor a.action a.operand ≡
      record {
        refusal = refusal (decode r) a;
        state = choose (eqb (refusal (decode r) a) 0) (encode (next (decode r) a)) r;
        touch = touch_record (choose (eqb (refusal (decode r) a) 0) (touch (decode r) a) nothing);
      }
  unfolding made_of
  made-valid =
      let n : ℕ = refusal (decode r) a in
      ap (λ (m : Moved). made m.refusal m.state (choose (eqb m.refusal 0) (touch_of r a.processor a.action a.operand) nothing)) (moved-valid r z k a) ∙
      ap (made n (choose (eqb n 0) (encode (next (decode r) a)) r))
      (taken_if (eqb n 0) nothing (λ e. touch-valid (not-refused (decode r) a (eqb-true n 0 e)).0))

-- the words that the code's answer means
word_back : (w : Word) → word_shown (word_record w) ≡ w
word_back none = refl
word_back (count m) = refl
word_back (token m) = refl
word_back (queue m) = refl
word_back (ready q) = refl
word_back (birth k) = refl

pub touch-back : (t : Touch) → touch_shown (touch_record t) ≡ t
touch-back t = λ i. record { reads = word_back t.reads i; writes = word_back t.writes i }
