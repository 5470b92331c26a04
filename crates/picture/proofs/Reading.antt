-- The threads in a picture's part are those of the record made of it, and rule 13 has one answer over both.
-- Assumes nothing.
use Prim.Native.Nat.{ℕ, ◌+◌, ◌-◌, ◌*◌, ◌≤◌, ◌<◌}
use mathlib.Core.Bool.{Bool, true, false, not, true≢false}
use mathlib.Core.List.{List}
use mathlib.Core.Path.{◌≡◌, refl, ap, sym, ◌∙◌}
use native.Mathlib.Omega.{arith}
use native.Mathlib.Decide.{dec_le}
use lib.Dec.{eqb, ltb}
use lib.ListN.{length, get_or, length-drop, get_or-eq_default}
use lib.Seq.{get_or-drop}
use borrow.Author.Tests.{eqb-true, le-leb, lt-leb, not-false}
use Rattle.state.specs.declared.State.{State}
use Rattle.state.specs.Record.{zero_thread, thread_of, first_of}
use Rattle.state.specs.Rules.{sizes_ok, chains_in, chains_ok}
use Rattle.rules.specs.Model.Bytes.{thread_in_bytes}
use Rattle.rules.proofs.Agree.{chains_agree}
use Rattle.reference.specs.Lists.{in_range}
use Rattle.reference.specs.Picture.{threads_at}
use Rattle.reference.proofs.Tests.{◌and◌, passed, range_true, true_range}
use Rattle.association.proofs.Tables.{tabulate-read}
use Rattle.picture.specs.Picture.{byte, thread_read, threads_part, picture_length, fields}
use Rattle.picture.specs.Model.Parts.{shape_refusal}

-- ---- a thread of the bytes and of their record

module _ (part : List ℕ) (t : ℕ) (size : length part ≤ 4 * t) (most : t ≤ 32) where
  bytes-thread : (k : ℕ) → thread_in_bytes part k ≡ thread_read part t k
  unfolding thread_in_bytes
  bytes-thread k = go (in_range 1 t k) refl
    where
      past : (i : ℕ) → 4 * t ≤ i → get_or part i 0 ≡ 0
      past i h = get_or-eq_default part 0 (omega arith)

      go : (x : Bool) → in_range 1 t k ≡ x → thread_in_bytes part k ≡ thread_read part t k
      go true e =
          let r = range_true 1 t k e in
          let o : 4 * (k - 1) + 0 ≡ 4 * (k - 1) = omega arith in
          rw (e, true_range 1 32 k r.0 (omega (arith, r.1)))
          (λ i. record {
            status = (ap (λ (n : ℕ). get_or part n 0) (sym o) ∙ sym (get_or-drop (4 * (k - 1)) part 0 0)) i;
            holder = sym (get_or-drop (4 * (k - 1)) part 1 0) i;
            next = sym (get_or-drop (4 * (k - 1)) part 2 0) i;
          })
      go false e = rw e (none (in_range 1 32 k) refl)
        where
          none : (x : Bool) → in_range 1 32 k ≡ x → thread_in_bytes part k ≡ zero_thread
          none false h = rw h
          none true h =
              let r = range_true 1 32 k h in
              let l : t < k = elim (dec_le k t) [ yes y ↦ absurd (true≢false (sym (true_range 1 t k r.0 y) ∙ e)) | no y ↦ omega arith ] in
              rw h
              (λ i. record {
                status = past (4 * (k - 1)) (omega arith) i;
                holder = past (4 * (k - 1) + 1) (omega arith) i;
                next = past (4 * (k - 1) + 2) (omega arith) i;
              })

-- ---- a picture of the right length and sizes

module _ (b : List ℕ) (e : shape_refusal b ≡ 0) where
  record Shape : Type 0 where
    pub sizes : not (sizes_ok (fields b)) ≡ false
    pub whole : not (eqb (length b) (picture_length (fields b))) ≡ false

  shape : Shape
  unfolding shape_refusal
  shape =
      let x = passed (ltb (length b) 8) _ _ e in
      let y = passed (not (sizes_ok (fields b))) _ _ x.1 in
      let z = passed (not (eqb (length b) (picture_length (fields b)))) _ _ y.1 in
      record { sizes = y.0; whole = z.0 }

  size : length b ≡ threads_at (byte b 0) (byte b 2) + 4 * byte b 1
  unfolding fields
  size = eqb-true _ _ (not-false _ shape.whole)

  most : byte b 1 ≤ 32
  unfolding fields
  most = ((range_true 1 8 (byte b 0) and range_true 1 32 (byte b 1) and range_true 1 8 (byte b 2)) (not-false _ shape.sizes)).0.1.1

  -- a thread of the picture's part is the record's
  pub part_thread : (k : ℕ) → thread_in_bytes (threads_part b) k ≡ thread_of (fields b) k
  unfolding fields
  part_thread k =
      bytes-thread (threads_part b) (byte b 1) (omega (arith, size, length-drop (threads_at (byte b 0) (byte b 2)) b)) most k ∙
      sym (tabulate-read (thread_read (threads_part b) (byte b 1)) 33 k zero_thread (λ l. rw (le-leb 1 k (omega arith), lt-leb k (byte b 1) (omega (arith, most)))))

-- and rule 13 has one answer over both
pub part_chains : (b part : List ℕ) (s : State) → shape_refusal b ≡ 0 → part ≡ threads_part b → s ≡ fields b → chains_in (thread_in_bytes part) (first_of s) s.t ≡ chains_ok s
unfolding chains_ok
part_chains b part s e p r = rw (p, r) (chains_agree (thread_in_bytes (threads_part b)) (thread_of (fields b)) (λ k h. part_thread b e k) (first_of (fields b)) (fields b).t)
