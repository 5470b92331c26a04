-- The bytes that are written of the record that bytes make are these bytes.
-- Assumes nothing.
use Prim.Native.Nat.{ℕ, zero, suc, ◌+◌, ◌*◌, ◌-◌, ◌/◌, ◌%◌, ◌≤◌, ◌<◌}
use mathlib.Core.Bool.{Bool, true}
use mathlib.Core.List.{List, [], ◌∷◌, ◌++◌}
use mathlib.Core.Path.{◌≡◌, ap, ap₂, sym, ◌∙◌}
use native.Mathlib.Nat.{mul-le-mul_left}
use native.Mathlib.Omega.{arith}
use lib.ListN.{length, get_or, take, drop, length-drop, take-append-drop}
use lib.Seq.{length-take-le, take_all, take-add, drop-drop, get_or-take, get_or-drop}
use borrow.Author.Tests.{eqb-true}
use Rattle.state.specs.Record.{zero_thread, zero_processor, zero_mutex, thread_of, processor_of, mutex_of, first_of}
use Rattle.reference.specs.Lists.{tabulate}
use Rattle.reference.specs.Safe.{In}
use Rattle.reference.proofs.Tests.{◌and◌, true_range}
use Rattle.reference.proofs.Sums.{tabulate_getD}
use Rattle.association.proofs.Tables.{tabulate_of}
use Rattle.reference.proofs.Each.{each_at}
use Rattle.picture.specs.Picture.{Bytes, byte, two_at, from_record, one_of, processor_field, mutex_field, thread_field, first_read, processors_part, mutexes_part, threads_part, fields, zero_at, mutex_zeros, thread_zeros, zero_bytes_ok}
use Rattle.reference.specs.Picture.{threads_at}
use Rattle.picture.specs.Model.Parts.{rows, header_bytes, processor_bytes, mutex_bytes, thread_bytes, processors_bytes, mutexes_bytes, threads_bytes, record_bytes}
use Rattle.picture.proofs.Parts.{first_mutex, first-each, one_there}
use Rattle.picture.proofs.ReadBack.{parts}

high : (h l : ℕ) → l < 256 → (256 * h + l) / 256 ≡ h
high h l e = omega arith

low : (h l : ℕ) → l < 256 → (256 * h + l) % 256 ≡ l
low h l e = omega arith

zero-says : (b : List ℕ) (i : ℕ) → zero_at b i ≡ true → 0 ≡ byte b i
zero-says b i e = sym (eqb-true (byte b i) 0 e)

-- the first n bytes
front : (b : List ℕ) (n : ℕ) → n ≤ length b → tabulate (byte b) 0 n ≡ take n b
front b n h = sym (tabulate_of (byte b) n 0 (take n b) (length-take-le n b h) (λ i l. get_or-take n b i 0 l))

module _ (b : List ℕ) (w : Bytes b) where
  header-front : 8 ≤ length b → zero_at b 6 ≡ true → header_bytes (byte b 0) (byte b 1) (byte b 2) (byte b 3) (two_at b 4) (byte b 7) ≡ take 8 b
  unfolding tabulate
  header-front h six =
      (λ i. byte b 0 ∷ byte b 1 ∷ byte b 2 ∷ byte b 3 ∷ high (byte b 4) (byte b 5) (w 5) i ∷ low (byte b 4) (byte b 5) (w 5) i ∷ zero-says b 6 six i ∷ byte b 7 ∷ [])
      ∙ front b 8 h

  processor-front : 12 ≤ length b → processor_bytes (byte b 11) (processor_field b) ≡ take 12 b
  unfolding tabulate
  processor-front h =
      (λ i. byte b 0 ∷ byte b 1 ∷ byte b 2 ∷ byte b 3 ∷ byte b 4 ∷ byte b 5 ∷ high (byte b 6) (byte b 7) (w 7) i ∷ low (byte b 6) (byte b 7) (w 7) i ∷ high (byte b 8) (byte b 9) (w 9) i ∷ low (byte b 8) (byte b 9) (w 9) i ∷ byte b 10 ∷ byte b 11 ∷ [])
      ∙ front b 12 h

  mutex-front : 8 ≤ length b → mutex_zeros b ≡ true → mutex_bytes (byte b 1) (mutex_field b) ≡ take 8 b
  unfolding tabulate
  mutex-front h e =
      let z = (zero-says b 6 and zero-says b 7) e in
      (λ i. byte b 0 ∷ byte b 1 ∷ byte b 2 ∷ byte b 3 ∷ high (byte b 4) (byte b 5) (w 5) i ∷ low (byte b 4) (byte b 5) (w 5) i ∷ z.0 i ∷ z.1 i ∷ [])
      ∙ front b 8 h

  thread-front : 4 ≤ length b → thread_zeros b ≡ true → thread_bytes (thread_field b) ≡ take 4 b
  unfolding tabulate
  thread-front h e = (λ i. byte b 0 ∷ byte b 1 ∷ byte b 2 ∷ zero-says b 3 e i ∷ []) ∙ front b 4 h

-- rows that are the bytes of a part, one after the other
rows-front : (f : ℕ → List ℕ) (w : ℕ) (b : List ℕ) (k n : ℕ) → ((i : ℕ) → i < n → f (k + i) ≡ take w (drop (w * i) b)) → rows f k n ≡ take (w * n) b
unfolding rows
rows-front f w b k zero h = let e : w * 0 ≡ 0 = omega arith in rw e
rows-front f w b k (suc n) h =
    let a : k + 0 ≡ k = omega arith in
    let c : w * 0 ≡ 0 = omega arith in
    let d : w * suc n ≡ w + w * n = omega arith in
    let x : f k ≡ take w b = ap f (sym a) ∙ h 0 (omega arith) ∙ ap (λ (j : ℕ). take w (drop j b)) c in
    let y : rows f (suc k) n ≡ take (w * n) (drop w b) = rows-front f w (drop w b) (suc k) n (later h) in
    rw (x, y, d) (sym (take-add w (w * n) b))
  where
    later : ((i : ℕ) → i < suc n → f (k + i) ≡ take w (drop (w * i) b)) → (i : ℕ) → i < n → f (suc k + i) ≡ take w (drop (w * i) (drop w b))
    later h i l =
        let a : suc k + i ≡ k + suc i = omega arith in
        let d : w * suc i ≡ w + w * i = omega arith in
        ap f a ∙ h (suc i) (omega arith) ∙ ap (λ (j : ℕ). take w (drop j b)) d ∙ ap (take w) (sym (drop-drop (w * i) w b))

part-rows : (f : ℕ → List ℕ) (w : ℕ) (part : List ℕ) (n : ℕ) → ((j : ℕ) → In n j → f j ≡ take w (from_record w part j)) → rows f 1 n ≡ take (w * n) part
part-rows f w part n h =
    rows-front f w part 1 n (λ i l. let e : 1 + i - 1 ≡ i = omega arith in h (1 + i) (omega arith) ∙ ap (λ (k : ℕ). take w (drop (w * k) part)) e)

-- the j-th that was read
read-row : {A : Type 0} (g : ℕ → A) (z : A) (n size j : ℕ) → In n j → j < size → get_or (tabulate (λ i. one_of n i (g i) z) 0 size) j z ≡ g j
read-row g z n size j h l = tabulate_getD (λ i. one_of n i (g i) z) 0 size j z l ∙ (let e : 0 + j ≡ j = omega arith in rw (e, true_range 1 n j h.0 h.1))

drop-bytes : (b : List ℕ) (n : ℕ) → Bytes b → Bytes (drop n b)
drop-bytes b n w i = omega (arith, get_or-drop n b i 0, w (n + i))

pub record Whole (b : List ℕ) : Type 0 where
  pub bytes : Bytes b
  pub p_most : byte b 0 ≤ 8
  pub t_most : byte b 1 ≤ 32
  pub m_most : byte b 2 ≤ 8
  pub size : length b ≡ threads_at (byte b 0) (byte b 2) + 4 * byte b 1
  pub zeros : zero_bytes_ok b ≡ true

module _ (b : List ℕ) (h : Whole b) where
  record Zeros : Type 0 where
    pub six : zero_at b 6 ≡ true
    pub mutexes : (j : ℕ) → In (byte b 2) j → mutex_zeros (from_record 8 (mutexes_part b) j) ≡ true
    pub threads : (j : ℕ) → In (byte b 1) j → thread_zeros (from_record 4 (threads_part b) j) ≡ true

  zeros_say : Zeros
  unfolding zero_bytes_ok
  zeros_say =
      let same : (x : Bool) → x ≡ true → x ≡ true = λ x e. e in
      let z = (
      same (zero_at b 6) and
      each_at (λ i. mutex_zeros (from_record 8 (mutexes_part b) i)) 1 (byte b 2) and each_at (λ i. thread_zeros (from_record 4 (threads_part b) i)) 1 (byte b 1)
      ) h.zeros in
      record {
        six = z.0.0;
        mutexes = λ j i. z.0.1 j i.0 (omega (arith, i.1));
        threads = λ j i. z.1 j i.0 (omega (arith, i.1));
      }

  -- the j-th record's bytes, within a part
  record_fits : (at w n j : ℕ) → at + w * n ≤ length b → In n j → w ≤ length (from_record w (drop at b) j)
  record_fits at w n j l i =
      let s : suc (j - 1) ≤ n = omega arith in
      omega (arith, mul-le-mul_left w s, length-drop (w * (j - 1)) (drop at b), length-drop at b)

  processors-front : processors_bytes (fields b) ≡ take (12 * byte b 0) (processors_part b)
  unfolding fields
  processors-front =
      part-rows (λ p. processor_bytes (first_of (fields b) (8 + p)) (processor_of (fields b) p)) 12 (processors_part b) (byte b 0)
      (λ j i.
      ap₂ processor_bytes (first_here j i) (read-row (λ j. processor_field (from_record 12 (processors_part b) j)) zero_processor (byte b 0) 9 j i (omega (arith, i.1, h.p_most))) ∙
      processor-front (from_record 12 (processors_part b) j) (drop-bytes (processors_part b) (12 * (j - 1)) (drop-bytes b 8 h.bytes))
      (record_fits 8 12 (byte b 0) j (omega (arith, h.size)) i))
    where
      first_here : (j : ℕ) → In (byte b 0) j → get_or (tabulate (first_read (byte b 3) (processors_part b) (byte b 0) (mutexes_part b) (byte b 2)) 0 17) (8 + j) 0 ≡ byte (from_record 12 (processors_part b) j) 11
      first_here j i =
          let e : 0 + (8 + j) ≡ 8 + j = omega arith in
          let o : 8 + j - 8 ≡ j = omega arith in
          tabulate_getD (first_read (byte b 3) (processors_part b) (byte b 0) (mutexes_part b) (byte b 2)) 0 17 (8 + j) 0 (omega (arith, i.1, h.p_most)) ∙
          ap (first_read (byte b 3) (processors_part b) (byte b 0) (mutexes_part b) (byte b 2)) e ∙
          first-each (byte b 3) (processors_part b) (byte b 0) (mutexes_part b) (byte b 2) (8 + j) (omega arith) ∙
          ap (λ (k : ℕ). one_of (byte b 0) k (byte (from_record 12 (processors_part b) k) 11) 0) o ∙
          one_there (byte b 0) j (byte (from_record 12 (processors_part b) j) 11) 0 i.0 i.1

  mutexes-front : mutexes_bytes (fields b) ≡ take (8 * byte b 2) (mutexes_part b)
  unfolding fields
  mutexes-front =
      part-rows (λ m. mutex_bytes (first_of (fields b) m) (mutex_of (fields b) m)) 8 (mutexes_part b) (byte b 2)
      (λ j i.
      ap₂ mutex_bytes (first_here j i) (read-row (λ j. mutex_field (from_record 8 (mutexes_part b) j)) zero_mutex (byte b 2) 9 j i (omega (arith, i.1, h.m_most))) ∙
      mutex-front (from_record 8 (mutexes_part b) j) (drop-bytes (mutexes_part b) (8 * (j - 1)) (drop-bytes b (8 + 12 * byte b 0) h.bytes))
      (record_fits (8 + 12 * byte b 0) 8 (byte b 2) j (omega (arith, h.size)) i) (zeros_say.mutexes j i))
    where
      first_here : (j : ℕ) → In (byte b 2) j → get_or (tabulate (first_read (byte b 3) (processors_part b) (byte b 0) (mutexes_part b) (byte b 2)) 0 17) j 0 ≡ byte (from_record 8 (mutexes_part b) j) 1
      first_here j i =
          let e : 0 + j ≡ j = omega arith in
          tabulate_getD (first_read (byte b 3) (processors_part b) (byte b 0) (mutexes_part b) (byte b 2)) 0 17 j 0 (omega (arith, i.1, h.m_most)) ∙
          ap (first_read (byte b 3) (processors_part b) (byte b 0) (mutexes_part b) (byte b 2)) e ∙
          first_mutex (byte b 3) (processors_part b) (byte b 0) (mutexes_part b) (byte b 2) j (omega (arith, i.0)) (omega (arith, i.1, h.m_most)) ∙
          one_there (byte b 2) j (byte (from_record 8 (mutexes_part b) j) 1) 0 i.0 i.1

  threads-front : threads_bytes (fields b) ≡ take (4 * byte b 1) (threads_part b)
  unfolding fields
  threads-front =
      part-rows (λ k. thread_bytes (thread_of (fields b) k)) 4 (threads_part b) (byte b 1)
      (λ j i.
      ap thread_bytes (read-row (λ j. thread_field (from_record 4 (threads_part b) j)) zero_thread (byte b 1) 33 j i (omega (arith, i.1, h.t_most))) ∙
      thread-front (from_record 4 (threads_part b) j) (drop-bytes (threads_part b) (4 * (j - 1)) (drop-bytes b (threads_at (byte b 0) (byte b 2)) h.bytes))
      (record_fits (threads_at (byte b 0) (byte b 2)) 4 (byte b 1) j (omega (arith, h.size)) i) (zeros_say.threads j i))

  head_front : header_bytes (fields b).p (fields b).t (fields b).m (first_of (fields b) 0) (fields b).applied (fields b).stealing ≡ take 8 b
  unfolding fields tabulate
  head_front = header-front b h.bytes (omega (arith, h.size)) zeros_say.six

  -- a part is its first n bytes and what comes after
  split : (at n : ℕ) → drop at b ≡ take n (drop at b) ++ drop (at + n) b
  split at n = sym (take-append-drop n (drop at b)) ∙ ap (λ (l : List ℕ). take n (drop at b) ++ l) (drop-drop n at b)

  pub bytes_back : record_bytes (fields b) ≡ b
  bytes_back =
      let last : take (4 * byte b 1) (threads_part b) ≡ threads_part b =
      take_all (4 * byte b 1) (threads_part b) (omega (arith, h.size, length-drop (threads_at (byte b 0) (byte b 2)) b))
      in
      let mutexes : mutexes_bytes (fields b) ++ threads_bytes (fields b) ≡ mutexes_part b =
      ap₂ ◌++◌ mutexes-front (threads-front ∙ last) ∙ sym (split (8 + 12 * byte b 0) (8 * byte b 2))
      in
      let processors : processors_bytes (fields b) ++ (mutexes_bytes (fields b) ++ threads_bytes (fields b)) ≡ processors_part b =
      ap₂ ◌++◌ processors-front mutexes ∙ sym (split 8 (12 * byte b 0))
      in
      parts (fields b) ∙ ap₂ ◌++◌ head_front processors ∙ take-append-drop 8 b
