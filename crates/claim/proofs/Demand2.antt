-- Demand 2 holds of the contracts.
-- Assumes nothing.
use Prim.Native.Nat.{ℕ, zero, suc, ◌≤◌}
use mathlib.Core.Bool.{Bool, true, false, not}
use mathlib.Core.List.{List}
use mathlib.Core.Path.{◌≡◌, refl, sym, ◌∙◌, subst}
use native.Mathlib.Omega.{arith}
use lib.Dec.{ltb}
use lib.ListN.{length, take}
use borrow.Author.Tests.{eq-eqb, le-ltb}
use Rattle.state.specs.declared.State.{State as Record}
use Rattle.state.specs.declared.Session.{Session}
use Rattle.state.specs.Association.{encode, decode}
use Rattle.state.specs.Rules.{state_ok, session_ok}
use Rattle.state.specs.Allowed.{Allowed}
use Rattle.state.specs.Record.{Sized}
use Rattle.reference.specs.Refusal.{too_short, bad_record, bad_journal, refuse}
use Rattle.reference.specs.Lists.{with_front}
use Rattle.reference.specs.State.{State}
use Rattle.reference.specs.Step.{Move, next}
use Rattle.reference.specs.Cause.{cause}
use Rattle.reference.specs.Break.{step_breaks}
use Rattle.reference.specs.Safe.{In}
use Rattle.reference.specs.Session.{short}
use Rattle.reference.specs.Picture.{picture}
use Rattle.reference.proofs.Legal.{legal}
use Rattle.shown.proofs.Decode.{decode-encode, encode-ok}
use Rattle.shown.proofs.Unique.{encode_sized, one_to_one, session-held, session_record-ok}
use Rattle.agreement.proofs.Moved.{not-refused}
use Rattle.agreement.proofs.Fields.{next-allowed}
use Rattle.picture.specs.Picture.{picture_length, write_refusal, written, read}
use Rattle.picture.proofs.Formula.{meaning-ahead}
use Rattle.picture.proofs.RoundTrip.{picture-reads, fields_sized, read_keeps, read-pictures, written-reads, read-writes}
use Rattle.picture.proofs.Written.{picture_size}
use Rattle.session.specs.Contract.{shown, config_of, or_later, lent_refusal, standing, matches, test_refusal, move_refusal, moved, journal_after}
use Rattle.session.proofs.Answers.{or_passed, lent_passed, test_passed}
use Rattle.session.proofs.Reached.{never_broken}
use Rattle.session.proofs.Holding.{test_agrees}
use Rattle.claim.specs.Implementation.{contract}
use Rattle.claim.specs.Demand2.{MoveIs, Pictures, Demand2}
use Rattle.claim.proofs.Refusals.{refusals}

-- ---- a move

module _ (r : Session) (j : List ℕ) (a : Move) where
  -- past the test the state is reached, and no step from it breaks a rule
  never_there : test_refusal r j ≡ 0 → or_later (cause (shown r) a) (refuse (step_breaks (shown r) a) bad_record 0) ≡ cause (shown r) a
  never_there e =
      let t = test_agrees r j e in
      subst (λ (s : State). or_later (cause s a) (refuse (step_breaks s a) bad_record 0) ≡ cause s a) (sym t.state)
      (never_broken (config_of r) (standing r j) t.config t.legal a)

  behind_test : (n : ℕ) → or_later (test_refusal r j) n ≡ refuse (short (length j)) too_short (refuse (not (session_ok r)) bad_record (refuse (not (matches r j)) bad_journal n))
  unfolding test_refusal lent_refusal
  behind_test n = by (short (length j)) (session_ok r) (matches r j)
    where
      by : (b ok m : Bool) →
          or_later (or_later (refuse b too_short (refuse (not ok) bad_record 0)) (refuse (not m) bad_journal 0)) n ≡
          refuse b too_short (refuse (not ok) bad_record (refuse (not m) bad_journal n))
      by true ok m = refl
      by false false m = refl
      by false true true = refl
      by false true false = refl

  number_is : (moved r j a).refusal ≡
      refuse (short (length j)) too_short (refuse (not (session_ok r)) bad_record (refuse (not (matches r j)) bad_journal (cause (shown r) a)))
  unfolding moved move_refusal
  number_is = by (test_refusal r j) never_there ∙ behind_test (cause (shown r) a)
    where
      by : (n : ℕ) {x y : ℕ} → (n ≡ 0 → x ≡ y) → or_later n x ≡ or_later n y
      by zero h = h refl
      by (suc n) h = refl

  module _ (z : Sized r.state) (e : move_refusal r j a ≡ 0) where
    allowed-next : Allowed (next (shown r) a) × In (next (shown r) a).T r.initial
    unfolding move_refusal next decode
    allowed-next =
        let first = or_passed (test_refusal r j) _ e in
        let h = session-held r z (lent_passed r (length j) (test_passed r j first.0).0).1 in
        let free = not-refused (shown r) a first.1 in
        (next-allowed (shown r) a free.0 free.1 h.allowed, h.initial)

  -- it stands, and there was room for it
  below : move_refusal r j a ≡ 0 → (next (shown r) a).applied ≤ suc (shown r).applied
  unfolding next
  below e = omega arith

  room : move_refusal r j a ≡ 0 → suc (shown r).applied ≤ 4000
  unfolding move_refusal
  room e = omega (arith, (legal (shown r) a (or_passed (cause (shown r) a) _ (or_passed (test_refusal r j) _ e).1).0).room)

  move-is : MoveIs contract r j a
  unfolding moved journal_after
  move-is =
      record {
        number = number_is;
        session = λ e. rw (eq-eqb (move_refusal r j a) 0 e);
        journal = λ e. rw (eq-eqb (move_refusal r j a) 0 e);
        valid = λ z e.
            let n = allowed-next z e in
            rw (eq-eqb (move_refusal r j a) 0 e) (encode_sized (next (shown r) a), session_record-ok (next (shown r) a) r.initial (suc (shown r).applied) n.0 n.1 (below e) (room e));
        next_shown = λ z e. rw (eq-eqb (move_refusal r j a) 0 e) (decode-encode (next (shown r) a) (allowed-next z e).0);
      }

-- ---- pictures

module _ (r : Record) (z : Sized r) where
  writes : state_ok r ≡ true → (b : List ℕ) → length (picture (decode r)) ≤ length b →
      contract.write r b ≡ record { refusal = 0; buffer = with_front b (picture (decode r)) }
  unfolding written
  writes e b h =
      let l = picture_size r in
      let g : write_refusal r (length b) ≡ 0 = rw (e, le-ltb (length b) (picture_length r) (omega arith)) in
      let w : written r b ≡ with_front b (picture (decode r)) = rw (g, l) in
      λ i. record { refusal = g i; buffer = w i }

  write-number : (b : List ℕ) →
      write_refusal r (length b) ≡ refuse (not (state_ok r)) bad_record (refuse (ltb (length b) (length (picture (decode r)))) too_short 0)
  write-number b = rw (picture_size r)

  reads_back : (b : List ℕ) → write_refusal r (length b) ≡ 0 → read (take (length (picture (decode r))) (written r b)) ≡ record { refusal = 0; state = r }
  reads_back b e = rw (picture_size r) (written-reads r z b e)

read_sized : (b : List ℕ) → (read b).refusal ≡ 0 → Sized (read b).state
unfolding read
read_sized b e = rw e (fields_sized b)

pictures : Pictures contract
pictures =
    record {
      writes = λ r v b h. writes r v.0 v.1 b h;
      number = λ r z b. write-number r z b;
      reads = λ s h.
          subst (λ (x : State). read (picture x) ≡ record { refusal = 0; state = encode s }) (decode-encode s h)
          (picture-reads (encode s) (encode_sized s) (encode-ok s h));
      reads_back = λ r z b e. reads_back r z b e;
      reads_valid = λ b w e. ((read_sized b e, read_keeps b w e), read-pictures b w e);
      writes_back = λ b w e buffer h. let x = read-writes b w e buffer h in λ i. record { refusal = x.0 i; buffer = x.1 i };
    }

pub demand2 : Demand2 contract
demand2 = record { states = one_to_one; moves = move-is; pictures = pictures; turns = meaning-ahead; refusals = refusals }
