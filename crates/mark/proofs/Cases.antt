-- What a mark answers, case by case: the shape in which its code arrives at it.
-- Assumes nothing.
use Prim.Native.Nat.{ℕ, zero, suc, ◌+◌}
use mathlib.Core.Bool.{not}
use mathlib.Core.List.{List}
use mathlib.Core.Logic.{inl}
use mathlib.Core.Path.{◌≡◌, refl, sym, ap, ◌∙◌}
use native.Mathlib.Omega.{arith}
use lib.Dec.{eqb, ltb}
use lib.ListN.{length, take}
use borrow.Author.Tests.{eqb-true, not-false, eq-eqb, ne_eqb}
use Rattle.std.proofs.Common.{Result, Ok, Err}
use Rattle.state.specs.declared.refusal.Refusal.{Refusal}
use Rattle.state.specs.declared.refusal.Refusal.TheVariants.{BadLength}
use Rattle.state.specs.Refusal.{number, outcome}
use Rattle.state.proofs.Refused.{not_none}
use Rattle.reference.specs.Refusal.{bad_length, refuse}
use Rattle.picture.specs.Picture.{read, read_shown, byte, picture_length, write_refusal, written, fields, read_refusal}
use Rattle.picture.proofs.Numbers.{outcome_read, Numbered, refuse_numbered, read_numbered}
use Rattle.picture.proofs.Written.{written-front}
use Rattle.state.proofs.Branch.{if_some}
use Rattle.state.specs.declared.State.{State}
use Rattle.state.specs.Association.{decode}
use Rattle.state.specs.Rules.{sizes_ok}
use Rattle.reference.specs.Lists.{if_zero}
use Rattle.reference.specs.Picture.{picture}
use Rattle.reference.proofs.Sums.{if_zero-by}
use Rattle.reference.proofs.Tests.{◌and◌, range_true, passed}
use Rattle.mark.specs.Mark.{Marked, marked_of, mark, mark_refusal, marked, answer, state_marked}
use Rattle.mark.specs.Model.Comparable.{Comparable}

-- ---- the refusals

none_of_two : (n later : ℕ) → if_zero n later n ≡ 0 → (n ≡ 0) × (later ≡ 0)
none_of_two zero later e = (refl, e)
none_of_two (suc n) later e = absurd (omega arith)

pub mark_numbered : (b c : List ℕ) → Numbered (mark_refusal b c)
unfolding mark_refusal
mark_numbered b c =
    if_zero-by Numbered (read_refusal b) (λ e. refuse_numbered (not (eqb (length c) (length b))) _ _ (omega arith) (omega arith) (inl refl))
    (λ k e. read_numbered b)

-- ---- two pictures that are marked

pub comparable : (b c : List ℕ) → read_refusal b ≡ 0 → length c ≡ length b → Comparable b c
unfolding read_refusal fields
comparable b c e l =
    let f = passed (ltb (length b) 8) _ _ e in
    let g = passed (not (sizes_ok (fields b))) _ _ f.1 in
    let h = passed (not (eqb (length b) (picture_length (fields b)))) _ _ g.1 in
    let s = (range_true 1 8 (byte b 0) and range_true 1 32 (byte b 1) and range_true 1 8 (byte b 2)) (not-false _ g.0) in
    record {
      p_least = s.0.0.0;
      p_most = s.0.0.1;
      t_most = s.0.1.1;
      m_most = s.1.1;
      length_is = eqb-true _ _ (not-false _ h.0);
      same_length = l;
    }

pub accepted : (b c : List ℕ) → mark_refusal b c ≡ 0 → Comparable b c
unfolding mark_refusal
accepted b c e =
    let f = none_of_two (read_refusal b) _ e in
    comparable b c f.0 (eqb-true _ _ (not-false _ (passed (not (eqb (length c) (length b))) _ _ f.1).0))

-- ---- what is answered

module _ (b c : List ℕ) (r : Result State Refusal) (shown : read_shown r ≡ read b) where
  number-read : (e : Refusal) → r ≡ Err e → number e ≡ read_refusal b
  unfolding outcome
  number-read e was = ap outcome (sym was) ∙ outcome_read b r shown

  none-read : (s : State) → r ≡ Ok s → read_refusal b ≡ 0
  unfolding outcome
  none-read s was = sym (outcome_read b r shown) ∙ ap outcome was

  pub marked-unread : (e : Refusal) → r ≡ Err e → marked_of (Err e) ≡ marked b c
  unfolding marked marked_of mark_refusal
  marked-unread e was =
      let h : number e ≡ read_refusal b = number-read e was in
      rw (← h, if_some (number e) (refuse (not (eqb (length c) (length b))) bad_length 0) (number e) (not_none e), if_some (number e) (mark b c) 0 (not_none e))

  pub marked-length : (s : State) → r ≡ Ok s → (length c ≡ length b → ⊥) → marked_of (Err BadLength) ≡ marked b c
  unfolding marked marked_of mark_refusal number
  marked-length s was h = rw (none-read s was, ne_eqb (length c) (length b) h)

  pub passed-both : (s : State) → r ≡ Ok s → length c ≡ length b → mark_refusal b c ≡ 0
  unfolding mark_refusal
  passed-both s was h = rw (none-read s was, eq-eqb (length c) (length b) h)

pub marked-none : (b c : List ℕ) → mark_refusal b c ≡ 0 → (k : ℕ) → k ≡ mark b c → marked_of (Ok k) ≡ marked b c
unfolding marked marked_of
marked-none b c e k f = rw (f, e)

-- as one number
module _ (b c : List ℕ) (r : Marked) (e : r ≡ marked b c) where
  own-number : r.refusal ≡ mark_refusal b c
  unfolding marked
  own-number = ap (λ (x : Marked). x.refusal) e

  pub answer-refused : (r.refusal ≡ 0 → ⊥) → 20000 + r.refusal ≡ answer b c
  unfolding answer
  answer-refused h = rw (← own-number) (sym (if_some r.refusal (mark b c) _ h))

  pub answer-accepted : r.refusal ≡ 0 → r.mark ≡ answer b c
  unfolding marked answer
  answer-accepted h = ap (λ (x : Marked). x.mark) e ∙ rw (sym own-number ∙ h)

-- ---- against the picture of a record

module _ (r : State) where
  pub state-refused : (e : Refusal) → number e ≡ write_refusal r 296 → (c : List ℕ) → marked_of (Err e) ≡ state_marked r c
  unfolding state_marked marked_of
  state-refused e h c = rw (← h) (sym (if_some (number e) (marked (picture (decode r)) c) _ (not_none e)))

  -- the front of what is written is the picture
  pub state-accepted : write_refusal r 296 ≡ 0 → (b v : List ℕ) (k : ℕ) → length b ≡ 296 → v ≡ written r b → k ≡ picture_length r → (c : List ℕ) → marked (take k v) c ≡ state_marked r c
  unfolding state_marked
  state-accepted q b v k l w h c = rw (h, w, q, written-front r b (ap (write_refusal r) l ∙ q))
