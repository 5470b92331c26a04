-- A picture that was written reads back to its state, and bytes that read at all are written back as the same bytes.
-- Assumes nothing.
use Prim.Native.Nat.{ℕ, ◌+◌, ◌≤◌, ◌<◌}
use mathlib.Core.Bool.{Bool, true, false, not}
use mathlib.Core.List.{List, ◌++◌}
use mathlib.Core.Path.{◌≡◌, refl, ap, sym, subst, ◌∙◌}
use native.Mathlib.Omega.{arith}
use lib.Dec.{eqb, ltb}
use lib.ListN.{length, get_or, take, drop}
use borrow.Author.Tests.{eqb-true, eq-eqb, le-ltb, not-false}
use Rattle.state.specs.declared.State.{State}
use Rattle.state.specs.Record.{zero_thread, zero_processor, zero_mutex, Sized}
use Rattle.state.specs.Association.{decode}
use Rattle.state.specs.Rules.{sizes_ok, broken_rule, zero_processor?, zero_mutex?, zero_thread?, within_or, zero_past, state_ok}
use Rattle.reference.specs.Lists.{tabulate, in_range}
use Rattle.reference.specs.Picture.{picture}
use Rattle.reference.proofs.Tests.{both, both_left, ◌and◌, range_true, true_range, passed}
use Rattle.reference.proofs.Sums.{length-tabulate, tabulate_getD}
use Rattle.reference.proofs.Each.{each_all}
use Rattle.shown.proofs.Kept.{Facts, facts, state-kept}
use Rattle.picture.specs.Picture.{Bytes, byte, one_of, processor_read, mutex_read, thread_read, first_read, processors_part, mutexes_part, threads_part, picture_length, write_refusal, written, fields, zero_bytes_ok, read_refusal, read}
use Rattle.picture.specs.Model.Parts.{record_bytes}
use Rattle.picture.proofs.Records.{record_length, record_picture}
use Rattle.picture.proofs.ReadBack.{fields_back, zeros-back}
use Rattle.picture.proofs.WriteBack.{Whole, bytes_back}
use Rattle.picture.proofs.Written.{picture_size, written-front}

-- ---- a record that keeps the rules

module _ (r : State) (z : Sized r) (e : state_ok r ≡ true) where
  known : Facts r
  known = facts r z (state-kept r e)

  unbroken : broken_rule r ≡ 0
  unfolding state_ok
  unbroken = eqb-true (broken_rule r) 0 (both_left (eqb (broken_rule r) 0) (zero_past r) e)

  sizes : sizes_ok r ≡ true
  sizes =
      let f = known.fields in
      both (both (true_range 1 8 r.p f.p_range.0 f.p_range.1) (true_range 1 32 r.t f.t_range.0 f.t_range.1))
      (true_range 1 8 r.m f.m_range.0 f.m_range.1)

  accepted : read_refusal (record_bytes r) ≡ 0
  unfolding read_refusal
  accepted =
      let l = record_length r in
      rw (
        fields_back r z known,
        le-ltb (length (record_bytes r)) 8 (omega arith),
        sizes,
        eq-eqb (length (record_bytes r)) (picture_length r) l,
        zeros-back r z known,
        unbroken,
      )

  record_reads : read (record_bytes r) ≡ record { refusal = 0; state = r }
  unfolding read
  record_reads = rw (accepted, fields_back r z known)

  -- its picture reads back to it
  pub picture-reads : read (picture (decode r)) ≡ record { refusal = 0; state = r }
  picture-reads = subst (λ (b : List ℕ). read b ≡ record { refusal = 0; state = r }) (record_picture r z e) record_reads

-- ---- the record of bytes that read

-- past the n-th what was read is zero
past_zero : {A : Type 0} (zero? : A → Bool) (z : A) → zero? z ≡ true → (g : ℕ → A) (n size j : ℕ) → j < size → within_or n j (zero? (get_or (tabulate (λ i. one_of n i (g i) z) 0 size) j z)) ≡ true
past_zero {A} zero? z e g n size j l = go (in_range 1 n j) refl
  where
    go : (b : Bool) → in_range 1 n j ≡ b → within_or n j (zero? (get_or (tabulate (λ i. one_of n i (g i) z) 0 size) j z)) ≡ true
    go true h = rw h
    go false h =
        let x : get_or (tabulate (λ i. one_of n i (g i) z) 0 size) j z ≡ z =
        tabulate_getD (λ i. one_of n i (g i) z) 0 size j z l ∙ (let y : 0 + j ≡ j = omega arith in rw (y, h))
        in
        rw (h, x) e

module _ (b : List ℕ) where
  pub fields_sized : Sized (fields b)
  unfolding fields
  fields_sized =
      record {
        processors = length-tabulate (processor_read (processors_part b) (byte b 0)) 0 9;
        mutexes = length-tabulate (mutex_read (mutexes_part b) (byte b 2)) 0 9;
        firsts = length-tabulate (first_read (byte b 3) (processors_part b) (byte b 0) (mutexes_part b) (byte b 2)) 0 17;
        threads = length-tabulate (thread_read (threads_part b) (byte b 1)) 0 33;
      }

  read_sized : (read b).refusal ≡ 0 → Sized (read b).state
  unfolding read
  read_sized e = rw e fields_sized

  fields_past : zero_past (fields b) ≡ true
  unfolding fields zero_past
  fields_past =
      both
      (both
      (each_all _ 0 9 (λ j x l. past_zero zero_processor? zero_processor refl _ (byte b 0) 9 j (omega arith)))
      (each_all _ 0 9 (λ j x l. past_zero zero_mutex? zero_mutex refl _ (byte b 2) 9 j (omega arith))))
      (each_all _ 0 33 (λ j x l. past_zero zero_thread? zero_thread refl _ (byte b 1) 33 j (omega arith)))

  module _ (w : Bytes b) (e : (read b).refusal ≡ 0) where
    whole : Whole b × (broken_rule (fields b) ≡ 0)
    unfolding read read_refusal fields
    whole =
        let a = passed (ltb (length b) 8) _ _ e in
        let c = passed (not (sizes_ok (fields b))) _ _ a.1 in
        let d = passed (not (eqb (length b) (picture_length (fields b)))) _ _ c.1 in
        let f = passed (not (zero_bytes_ok b)) _ _ d.1 in
        let s = (range_true 1 8 (byte b 0) and range_true 1 32 (byte b 1) and range_true 1 8 (byte b 2)) (not-false _ c.0) in (
          record {
            bytes = w;
            p_most = s.0.0.1;
            t_most = s.0.1.1;
            m_most = s.1.1;
            size = eqb-true _ _ (not-false _ d.0);
            zeros = not-false _ f.0;
          },
          f.1,
        )

    -- what was read keeps the rules
    pub read_keeps : state_ok (read b).state ≡ true
    unfolding read state_ok
    read_keeps = rw (e, whole.1, fields_past)

    -- and its picture is the bytes
    pub read-pictures : picture (decode (read b).state) ≡ b
    unfolding read
    read-pictures = rw e (sym (record_picture (fields b) fields_sized (rw e at read_keeps)) ∙ bytes_back b whole.0)

-- ---- over the functions that the contracts name

-- a picture that was written into a buffer reads back to the state that was written
pub written-reads : (r : State) → Sized r → (buffer : List ℕ) → write_refusal r (length buffer) ≡ 0 → read (take (picture_length r) (written r buffer)) ≡ record { refusal = 0; state = r }
written-reads r z buffer e = rw (written-front r buffer e) (picture-reads r z (not-false (state_ok r) (passed (not (state_ok r)) _ _ e).0))

-- bytes that read are written back, in front of the buffer's later bytes
pub read-writes : (b : List ℕ) → Bytes b → (read b).refusal ≡ 0 → (buffer : List ℕ) → length b ≤ length buffer →
    (write_refusal (read b).state (length buffer) ≡ 0) × (written (read b).state buffer ≡ b ++ drop (length b) buffer)
unfolding written
read-writes b w e buffer h =
    let k = read_keeps b w e in
    let p = read-pictures b w e in
    let l : length b ≡ picture_length (read b).state = ap length (sym p) ∙ picture_size (read b).state in
    let g : write_refusal (read b).state (length buffer) ≡ 0 = rw (k, le-ltb (length buffer) (picture_length (read b).state) (omega arith)) in
    (g, rw (g, p, ← l))
