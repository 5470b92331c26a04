-- What each entry point answers, case by case: the shape in which its code arrives at it.
-- Assumes nothing.
use Prim.Native.Nat.{ℕ, zero, suc, ◌*◌, ◌≤◌, ◌<◌}
use mathlib.Core.Bool.{Bool, true, false, ◌&&◌, not}
use mathlib.Core.List.{List, []}
use mathlib.Core.Path.{◌≡◌, refl, sym, ap, ◌∙◌}
use native.Mathlib.Omega.{arith}
use lib.Dec.{eqb, leb}
use lib.ListN.{length, take}
use borrow.Author.Tests.{lt-ltb, le-ltb, ltb-false, eqb-true, eq-eqb, ne_eqb, not-false}
use Rattle.state.specs.declared.State.{State as Record}
use Rattle.state.specs.declared.Session.{Session}
use Rattle.state.specs.declared.refusal.Refusal.{Refusal}
use Rattle.state.specs.declared.refusal.Refusal.TheVariants.{BadConfig}
use Rattle.state.specs.Refusal.{number}
use Rattle.state.proofs.Refused.{numbered, not_none}
use Rattle.session.specs.declared.Moved.{Moved}
use Rattle.std.specs.Prelude.{Ok, Err}
use Rattle.state.specs.Record.{zero_session, Sized}
use Rattle.state.specs.Association.{encode, decode, session_record}
use Rattle.state.specs.Rules.{session_ok}
use Rattle.state.specs.Model.Access.{start_record}
use Rattle.state.proofs.Started.{start-shown}
use Rattle.reference.specs.Lists.{in_range, choose}
use Rattle.reference.specs.Start.{Config, config_cause}
use Rattle.reference.specs.Step.{Move, next}
use Rattle.reference.specs.Touch.{Touch, nothing, touch}
use Rattle.reference.specs.Session.{short}
use Rattle.reference.proofs.Tests.{passed}
use Rattle.reference.proofs.Legal.{legal}
use Rattle.shown.proofs.Kept.{state-kept, fields_say}
use Rattle.shown.proofs.Unique.{session-held}
use Rattle.agreement.proofs.Moved.{refusal, not-refused}
use Rattle.touch.specs.Association.{touch_record}
use Rattle.touch.specs.declared.Made as code
use Rattle.touch.specs.Model.Made.{Made, made_of, made_shown}
use Rattle.touch.proofs.Agrees.{made-valid}
use Rattle.session.specs.Contract.{MoveAnswer, answer_of, move_answer_of, shown, started, or_later, lent_refusal, matches, test_refusal, move_refusal, moved, written_at, journal_after, front}
use Rattle.session.specs.Model.Replay.{stored, continued}
use Rattle.session.proofs.Standing.{sets-written}

-- ---- start

abbrev ranges_ok : Config → Bool
ranges_ok c = in_range 1 8 c.P && in_range 1 32 c.T && in_range 1 8 c.M && in_range 1 c.T c.B && leb c.stealing 1

pub started_taken : (c : Config) → ranges_ok c ≡ true → (s : Record) → s ≡ start_record c.P c.T c.M c.B c.stealing →
    answer_of zero_session (Ok (record { state = s; initial = c.B; kept = 0 })) ≡ started c
unfolding started config_cause answer_of
started_taken c e s is =
    let n : config_cause c ≡ 0 = rw e in
    rw (e, is, start-shown c n)

pub started_refused : (c : Config) → ranges_ok c ≡ false → answer_of zero_session (Err BadConfig) ≡ started c
unfolding started config_cause answer_of number
started_refused c e = rw e

-- no number is given: neither cause is there
pub or_passed : (x y : ℕ) → or_later x y ≡ 0 → (x ≡ 0) × (y ≡ 0)
or_passed zero y e = (refl, e)
or_passed (suc x) y e = absurd (omega arith)

-- a cause that is there hides the later ones
pub or_first : (n m k : ℕ) → n ≡ m → (n ≡ 0 → ⊥) → n ≡ or_later m k
or_first zero m k e h = absurd (h refl)
or_first (suc n) m k e h = rw (← e)

-- ---- the number kept: a move made drops what is kept beyond it, a refused one nothing

pub continued_same : (r : Session) → continued r r.state ≡ r
continued_same r = rw (eq-eqb r.state.applied r.state.applied refl)

pub continued_more : (r : Session) (s : Record) → r.state.applied < s.applied → continued r s ≡ record { state = s; initial = r.initial; kept = s.applied }
continued_more r s h = rw (ne_eqb s.applied r.state.applied (λ e. absurd (omega arith)))

continued_next : (r : Session) (a : Move) → continued r (encode (next (shown r) a)) ≡ session_record (next (shown r) a) r.initial (suc (shown r).applied)
unfolding encode decode next
continued_next r a = continued_more r (encode (next (shown r) a)) (omega arith)

-- ---- the first causes of a call that is lent a journal

module _ (r : Session) (n : ℕ) where
  pub lent_short : n < 12000 → 10 ≡ lent_refusal r n
  unfolding lent_refusal
  lent_short h = rw (lt-ltb n 12000 h)

  pub lent_ok : 12000 ≤ n → session_ok r ≡ true → 0 ≡ lent_refusal r n
  unfolding lent_refusal
  lent_ok h e = rw (le-ltb n 12000 h, e)

  pub lent_bad : 12000 ≤ n → session_ok r ≡ false → 15 ≡ lent_refusal r n
  unfolding lent_refusal
  lent_bad h e = rw (le-ltb n 12000 h, e)

  pub lent_passed : lent_refusal r n ≡ 0 → (12000 ≤ n) × (session_ok r ≡ true)
  unfolding lent_refusal
  lent_passed e =
      let h = passed (short n) _ _ e in
      (ltb-false n 12000 h.0, not-false _ (passed (not (session_ok r)) _ _ h.1).0)

-- the journal's test is passed
pub test_passed : (r : Session) (j : List ℕ) → test_refusal r j ≡ 0 → (lent_refusal r (length j) ≡ 0) × (matches r j ≡ true)
unfolding test_refusal
test_passed r j e =
    let h = or_passed (lent_refusal r (length j)) _ e in
    (h.0, not-false _ (passed (not (matches r j)) _ _ h.1).0)

-- ---- move

module _ (r : Session) (j : List ℕ) (a : Move) where
  -- 10, 15 or 16: the record handed in, nothing touched, and the journal as it was
  pub move_untested : (e : Refusal) → number e ≡ test_refusal r j → (move_answer_of r (Err e) ≡ moved r j a) × (j ≡ journal_after r j a)
  unfolding move_answer_of move_refusal moved journal_after
  move_untested e is =
      let m : number e ≡ move_refusal r j a = or_first (number e) (test_refusal r j) _ is (not_none e) in
      (rw (← m, numbered e), rw (← m, numbered e))

  module _ (size : Sized r.state) (free : test_refusal r j ≡ 0) (made : Made)
      (e : made ≡ made_of r.state a.processor a.action a.operand) where
    lent : (12000 ≤ length j) × (session_ok r ≡ true)
    lent = lent_passed r (length j) (test_passed r j free).0

    made-is : made ≡
        record {
          refusal = refusal (shown r) a;
          state = choose (eqb (refusal (shown r) a) 0) (encode (next (shown r) a)) r.state;
          touch = touch_record (choose (eqb (refusal (shown r) a) 0) (touch (shown r) a) nothing);
        }
    made-is = e ∙ made-valid r.state size (session-held r size lent.1).state a

    number_is : made.refusal ≡ refusal (shown r) a
    number_is = ap (λ (x : Made). x.refusal) made-is

    number_of : refusal (shown r) a ≡ move_refusal r j a
    unfolding move_refusal
    number_of = rw free

    -- 2, 3, 8, 4 or 5, 6, 7 or 21, 15, or none
    pub made_answer : record { refusal = made.refusal; session = continued r made.state; touch = made.touch } ≡ moved r j a
    unfolding moved
    made_answer =
        ap (λ (x : Made). record { refusal = x.refusal; session = continued r x.state; touch = x.touch }) made-is ∙
        rw (← number_of) (by (refusal (shown r) a) (eqb (refusal (shown r) a) 0) (touch (shown r) a))
      where
        by : (n : ℕ) (b : Bool) (t : Touch) →
            ◌≡◌ {A = MoveAnswer}
            (record { refusal = n; session = continued r (choose b (encode (next (shown r) a)) r.state); touch = touch_record (choose b t nothing) })
            (record { refusal = n; session = choose b (session_record (next (shown r) a) r.initial (suc (shown r).applied)) r; touch = touch_record (choose b t nothing) })
        by n true t = ap (λ (s : Session). record { refusal = n; session = s; touch = touch_record t }) (continued_next r a)
        by n false t = ap (λ (s : Session). record { refusal = n; session = s; touch = touch_record nothing }) (continued_same r)

    pub made_journal : choose (eqb made.refusal 0) (stored j r.state.applied a) j ≡ journal_after r j a
    unfolding journal_after decode
    made_journal = rw (number_is, ← number_of) (by (eqb (refusal (shown r) a) 0) refl)
      where
        by : (b : Bool) → eqb (refusal (shown r) a) 0 ≡ b → choose b (stored j r.state.applied a) j ≡ choose b (written_at r.state.applied a j) j
        by true e =
            let free = not-refused (shown r) a (eqb-true (refusal (shown r) a) 0 e) in
            sets-written j r.state.applied a (omega (arith, lent.0, (legal (shown r) a free.0).room))
        by false e = refl

    -- the code's answer
    abbrev by_made : Made → MoveAnswer
    by_made y = record { refusal = y.refusal; session = continued r y.state; touch = y.touch }

    pub made_accepted : (m : code.Made) → made_shown r.state (Ok m) ≡ made → (x : Moved) → x ≡ record { session = continued r m.state; touch = m.touch } →
        (move_answer_of r (Ok x) ≡ moved r j a) × (stored j r.state.applied a ≡ journal_after r j a)
    unfolding made_shown move_answer_of
    made_accepted m is x x-is =
        (rw x-is (ap by_made is ∙ made_answer), ap (λ (y : Made). choose (eqb y.refusal 0) (stored j r.state.applied a) j) is ∙ made_journal)

    pub made_refused : (e : Refusal) → made_shown r.state (Err e) ≡ made → (move_answer_of r (Err e) ≡ moved r j a) × (j ≡ journal_after r j a)
    unfolding made_shown move_answer_of
    made_refused e is =
        let answer : Session → MoveAnswer = λ (s : Session). record { refusal = number e; session = s; touch = touch_record nothing } in (
          ap answer (sym (continued_same r)) ∙
              ap by_made is ∙ made_answer,
          sym (ap (λ (b : Bool). choose b (stored j r.state.applied a) j) (numbered e)) ∙
              ap (λ (y : Made). choose (eqb y.refusal 0) (stored j r.state.applied a) j) is ∙ made_journal,
        )

-- ---- the journal's front

module _ (r : Session) (j : List ℕ) where
  pub front_none : (e : Refusal) → number e ≡ lent_refusal r (length j) → [] ≡ front r j
  unfolding front
  front_none e is = rw (← is, numbered e)

  pub front_some : lent_refusal r (length j) ≡ 0 → take (3 * r.state.applied) j ≡ front r j
  unfolding front decode
  front_some e = rw e

  pub front_room : Sized r.state → lent_refusal r (length j) ≡ 0 → 3 * r.state.applied ≤ length j
  front_room size e =
      let k = state-kept r.state (session-held r size (lent_passed r (length j) e).1).state in
      omega (arith, (lent_passed r (length j) e).0, (fields_say r.state k.fields).applied)
