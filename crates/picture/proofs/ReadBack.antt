-- The fields of the bytes that are written of a record are the record.
-- Assumes nothing.
use Prim.Native.Nat.{ℕ, zero, suc, ◌+◌, ◌*◌, ◌-◌, ◌/◌, ◌%◌, ◌≤◌, ◌<◌}
use mathlib.Core.Bool.{Bool, true, false, true≢false}
use mathlib.Core.List.{List, [], ◌++◌, append_assoc, append-nil}
use mathlib.Core.Path.{◌≡◌, refl, ap, sym, ◌∙◌}
use native.Mathlib.Omega.{arith}
use native.Mathlib.Decide.{ℕ_discrete, dec_le, dec_lt}
use lib.Dec.{eqb}
use borrow.Author.Tests.{ne_eqb, le-leb, lt-leb}
use lib.ListN.{length, drop}
use lib.Seq.{drop_at, drop-drop}
use Rattle.state.specs.declared.Processor.{Processor}
use Rattle.state.specs.declared.Mutex.{Mutex}
use Rattle.state.specs.declared.State.{State}
use Rattle.state.specs.Record.{zero_thread, zero_processor, zero_mutex, thread_of, processor_of, mutex_of, first_of, Sized}
use Rattle.state.specs.Rules.{is_queue}
use Rattle.reference.proofs.Each.{each_all}
use Rattle.reference.specs.Lists.{if_zero, tabulate, in_range, each}
use Rattle.reference.specs.Safe.{In}
use Rattle.reference.proofs.Tests.{both, range_true, true_range}
use Rattle.association.proofs.Tables.{tabulate_of}
use Rattle.shown.proofs.Kept.{Facts}
use Rattle.picture.specs.Picture.{byte, two_at, from_record, one_of, processor_field, mutex_field, thread_field, processor_read, mutex_read, thread_read, first_read, processors_part, mutexes_part, threads_part, fields, zero_at, mutex_zeros, thread_zeros, zero_bytes_ok}
use Rattle.reference.specs.Picture.{threads_at}
use Rattle.picture.specs.Model.Parts.{rows, processor_bytes, mutex_bytes, thread_bytes, header_bytes, processors_bytes, mutexes_bytes, threads_bytes, record_bytes}
use Rattle.picture.proofs.Rows.{rows-from}
use Rattle.picture.proofs.Parts.{first-single, first_mutex, first-each}
use Rattle.picture.proofs.Records.{processors-length, mutexes-length}

two_back : (n : ℕ) → 256 * (n / 256) + n % 256 ≡ n
two_back n = omega arith

processor-back : (first : ℕ) (x : Processor) (tail : List ℕ) → processor_field (processor_bytes first x ++ tail) ≡ x
processor-back first x tail =
    λ i. record {
      position = x.position;
      current = x.current;
      transit = x.transit;
      mutex = x.mutex;
      observed = record { processor = x.observed.processor; sequence = two_back x.observed.sequence i };
      sequence = two_back x.sequence i;
      answer = x.answer;
      probe = x.probe;
    }

mutex-back : (first : ℕ) (x : Mutex) (tail : List ℕ) → mutex_field (mutex_bytes first x ++ tail) ≡ x
mutex-back first x tail =
    λ i. record { count = x.count; owner = x.owner; token = record { processor = x.token.processor; sequence = two_back x.token.sequence i } }

-- what the i-th of n rows shows, and what is read where there is none
module _ {A : Type 0} (f : ℕ → List ℕ) (w : ℕ) (wide : (i : ℕ) → length (f i) ≡ w) (n : ℕ) (rest : List ℕ) (field : List ℕ → A) (z : A) (g : ℕ → A)
    (back : (i : ℕ) (tail : List ℕ) → field (f i ++ tail) ≡ g i) where
  row_field : (i : ℕ) → In n i → field (from_record w (rows f 1 n ++ rest) i) ≡ g i
  row_field i h =
      let t = rows-from f w wide rest 1 n (i - 1) (omega arith) in
      let e : 1 + (i - 1) ≡ i = omega arith in
      ap field t.1 ∙ back (1 + (i - 1)) t.0 ∙ ap g e

  row_read : (i : ℕ) → (in_range 1 n i ≡ false → g i ≡ z) → g i ≡ one_of n i (field (from_record w (rows f 1 n ++ rest) i)) z
  row_read i past = go (in_range 1 n i) refl
    where
      go : (b : Bool) → in_range 1 n i ≡ b → g i ≡ one_of n i (field (from_record w (rows f 1 n ++ rest) i)) z
      go true e = rw e (sym (row_field i (range_true 1 n i e)))
      go false e = rw e (past e)

-- a queue of a mutex, or of a processor, that is not there
not-mutex : (p m stealing q : ℕ) → 1 ≤ q → q ≤ 8 → in_range 1 m q ≡ false → is_queue p m stealing q ≡ false
not-mutex p m zero q a b e = rw (e, ne_eqb q 0 (omega arith))
not-mutex p m (suc c) q a b e = rw (e, lt-leb 9 q (omega arith))

not_own : (p m stealing i : ℕ) → 1 ≤ i → m ≤ 8 → in_range 1 p i ≡ false → is_queue p m stealing (8 + i) ≡ false
not_own p m stealing i a b e = rw (le-leb 1 (8 + i) (omega arith), lt-leb (8 + i) m (omega arith)) (by stealing)
  where
    past : p < i
    past = elim (dec_lt p i) [ yes h ↦ h | no h ↦ absurd (true≢false (sym (true_range 1 p i a (omega arith)) ∙ e)) ]

    by : (stealing : ℕ) → if_zero stealing (eqb (8 + i) 0) (in_range 9 (8 + p) (8 + i)) ≡ false
    by zero = ne_eqb (8 + i) 0 (omega arith)
    by (suc c) = rw (le-leb 9 (8 + i) (omega arith)) (lt-leb (8 + i) (8 + p) (omega (arith, past)))

-- what holds of each row holds of each that is read
rows-zero : (test : List ℕ → Bool) (w : ℕ) (f : ℕ → List ℕ) → ((i : ℕ) → length (f i) ≡ w) → (n : ℕ) (rest : List ℕ) → ((i : ℕ) (tail : List ℕ) → test (f i ++ tail) ≡ true)
    → each (λ i. test (from_record w (rows f 1 n ++ rest) i)) 1 n ≡ true
rows-zero test w f wide n rest h =
    each_all (λ i. test (from_record w (rows f 1 n ++ rest) i)) 1 n (λ i x y. row_field f w wide n rest test true (λ i. true) h i (omega arith))

module _ (r : State) where
  -- the parts of the bytes
  abbrev pub header : List ℕ
  header = header_bytes r.p r.t r.m (first_of r 0) r.applied r.stealing

  pub parts : record_bytes r ≡ header ++ (processors_bytes r ++ (mutexes_bytes r ++ threads_bytes r))
  unfolding record_bytes
  parts =
      append_assoc (header ++ processors_bytes r) (mutexes_bytes r) (threads_bytes r) ∙
      append_assoc header (processors_bytes r) (mutexes_bytes r ++ threads_bytes r)

  part_one : drop 8 (record_bytes r) ≡ processors_bytes r ++ (mutexes_bytes r ++ threads_bytes r)
  part_one = ap (drop 8) parts

  part-two : drop (8 + 12 * r.p) (record_bytes r) ≡ mutexes_bytes r ++ threads_bytes r
  part-two =
      sym (drop-drop (12 * r.p) 8 (record_bytes r)) ∙ ap (drop (12 * r.p)) part_one ∙
      drop_at (processors_bytes r) (mutexes_bytes r ++ threads_bytes r) (12 * r.p) (processors-length r ∙ omega arith)

  part-three : drop (threads_at r.p r.m) (record_bytes r) ≡ threads_bytes r
  part-three =
      sym (drop-drop (8 * r.m) (8 + 12 * r.p) (record_bytes r)) ∙ ap (drop (8 * r.m)) part-two ∙
      drop_at (mutexes_bytes r) (threads_bytes r) (8 * r.m) (mutexes-length r ∙ omega arith)

  -- what is read of each part
  module _ (z : Sized r) (f : Facts r) where
    processors-back : tabulate (processor_read (processors_part (record_bytes r)) r.p) 0 9 ≡ r.processors
    processors-back =
        rw part_one
        (sym
        (tabulate_of _ 9 zero_processor r.processors z.processors
        (λ i l.
        row_read (λ p. processor_bytes (first_of r (8 + p)) (processor_of r p)) 12 (λ i. refl) r.p (mutexes_bytes r ++ threads_bytes r) processor_field zero_processor (processor_of r)
        (λ i. processor-back (first_of r (8 + i)) (processor_of r i)) i (f.no_processor i))))

    mutexes-back : tabulate (mutex_read (drop (8 + 12 * r.p) (record_bytes r)) r.m) 0 9 ≡ r.mutexes
    mutexes-back =
        rw part-two
        (sym
        (tabulate_of _ 9 zero_mutex r.mutexes z.mutexes
        (λ i l.
        row_read (λ m. mutex_bytes (first_of r m) (mutex_of r m)) 8 (λ i. refl) r.m (threads_bytes r) mutex_field zero_mutex (mutex_of r)
        (λ i. mutex-back (first_of r i) (mutex_of r i)) i (f.no_mutex i))))

    threads-back : tabulate (thread_read (drop (threads_at r.p r.m) (record_bytes r)) r.t) 0 33 ≡ r.chains.threads
    threads-back =
        rw (part-three ∙ sym (append-nil (threads_bytes r)))
        (sym
        (tabulate_of _ 33 zero_thread r.chains.threads z.threads
        (λ i l.
        row_read (λ k. thread_bytes (thread_of r k)) 4 (λ i. refl) r.t [] thread_field zero_thread (thread_of r) (λ i tail. refl) i (f.no_thread i))))

    firsts-back : tabulate (first_read (first_of r 0) (drop 8 (record_bytes r)) r.p (drop (8 + 12 * r.p) (record_bytes r)) r.m) 0 17 ≡ r.chains.firsts
    firsts-back = rw (part_one, part-two) (sym (tabulate_of _ 17 0 r.chains.firsts z.firsts here))
      where
        ps : List ℕ
        ps = processors_bytes r ++ (mutexes_bytes r ++ threads_bytes r)

        ms : List ℕ
        ms = mutexes_bytes r ++ threads_bytes r

        here : (i : ℕ) → i < 17 → first_of r i ≡ first_read (first_of r 0) ps r.p ms r.m i
        here i l =
            elim (ℕ_discrete i 0) [
              | yes e ↦ ap (first_of r) e ∙ sym (first-single (first_of r 0) ps r.p ms r.m i e)
              | no e ↦
                  elim (dec_le i 8) [
                    | yes h ↦
                        row_read (λ m. mutex_bytes (first_of r m) (mutex_of r m)) 8 (λ i. refl) r.m (threads_bytes r) (λ b. byte b 1) 0 (first_of r) (λ i tail. refl) i
                        (λ c. f.no_first i (omega arith) (not-mutex r.p r.m r.stealing i (omega arith) h c)) ∙
                        sym (first_mutex (first_of r 0) ps r.p ms r.m i e h)
                    | no h ↦
                        let o : 8 + (i - 8) ≡ i = omega arith in
                        ap (first_of r) (sym o) ∙
                        row_read (λ p. processor_bytes (first_of r (8 + p)) (processor_of r p)) 12 (λ i. refl) r.p ms (λ b. byte b 11) 0 (λ p. first_of r (8 + p)) (λ i tail. refl) (i - 8)
                        (λ c. f.no_first (8 + (i - 8)) (omega arith) (not_own r.p r.m r.stealing (i - 8) (omega arith) f.fields.m_range.1 c)) ∙
                        sym (first-each (first_of r 0) ps r.p ms r.m i (omega arith))
                  ]
            ]

    pub fields_back : fields (record_bytes r) ≡ r
    unfolding fields
    fields_back =
        let b = record_bytes r in
        let p : byte b 0 ≡ r.p = ap (λ (l : List ℕ). byte l 0) parts in
        let t : byte b 1 ≡ r.t = ap (λ (l : List ℕ). byte l 1) parts in
        let m : byte b 2 ≡ r.m = ap (λ (l : List ℕ). byte l 2) parts in
        let ready : byte b 3 ≡ first_of r 0 = ap (λ (l : List ℕ). byte l 3) parts in
        let applied : two_at b 4 ≡ r.applied = ap (λ (l : List ℕ). two_at l 4) parts ∙ two_back r.applied in
        let stealing : byte b 7 ≡ r.stealing = ap (λ (l : List ℕ). byte l 7) parts in
        let firsts : tabulate (first_read (byte b 3) (processors_part b) (byte b 0) (mutexes_part b) (byte b 2)) 0 17 ≡ r.chains.firsts = rw (p, m, ready) firsts-back in
        let threads : tabulate (thread_read (threads_part b) (byte b 1)) 0 33 ≡ r.chains.threads = rw (p, t, m) threads-back in
        let processors : tabulate (processor_read (processors_part b) (byte b 0)) 0 9 ≡ r.processors = rw p processors-back in
        let mutexes : tabulate (mutex_read (mutexes_part b) (byte b 2)) 0 9 ≡ r.mutexes = rw (p, m) mutexes-back in
        (λ i. record {
          p = p i;
          t = t i;
          m = m i;
          stealing = stealing i;
          applied = applied i;
          chains = record { firsts = firsts i; threads = threads i };
          processors = processors i;
          mutexes = mutexes i;
        })

    pub zeros-back : zero_bytes_ok (record_bytes r) ≡ true
    unfolding zero_bytes_ok
    zeros-back =
        let b = record_bytes r in
        let p : byte b 0 ≡ r.p = ap (λ (l : List ℕ). byte l 0) parts in
        let t : byte b 1 ≡ r.t = ap (λ (l : List ℕ). byte l 1) parts in
        let m : byte b 2 ≡ r.m = ap (λ (l : List ℕ). byte l 2) parts in
        let six : zero_at b 6 ≡ true = ap (λ (l : List ℕ). zero_at l 6) parts in
        let ms = rows-zero mutex_zeros 8 (λ m. mutex_bytes (first_of r m) (mutex_of r m)) (λ i. refl) r.m (threads_bytes r) (λ i tail. refl) in
        let ts = rows-zero thread_zeros 4 (λ k. thread_bytes (thread_of r k)) (λ i. refl) r.t [] (λ i tail. refl) in
        rw (p, t, m) (both (both six (rw part-two ms)) (rw (part-three ∙ sym (append-nil (threads_bytes r))) ts))
