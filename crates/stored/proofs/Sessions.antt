-- Which bytes are a session, and that all others are refused.
-- Assumes nothing.
use Prim.Native.Nat.{ℕ, ◌+◌, ◌*◌, ◌≤◌}
use mathlib.Core.Bool.{Bool, true, false, ◌&&◌}
use mathlib.Core.List.{List}
use mathlib.Core.Path.{◌≡◌, refl, sym, ap, ◌∙◌}
use native.Mathlib.Omega.{arith}
use lib.ListN.{length}
use lib.Seq.{get_or-take}
use Rattle.state.specs.declared.Session.{Session}
use Rattle.state.specs.Rules.{state_ok, session_ok}
use Rattle.reference.specs.Lists.{in_range}
use Rattle.reference.proofs.Tests.{both, both_left, both_right}
use Rattle.picture.specs.Picture.{Bytes, byte, two_at, fields, read, read_refusal}
use Rattle.picture.proofs.RoundTrip.{read_keeps}
use Rattle.session.specs.Contract.{lent_refusal, test_refusal, move_refusal, moved, goto_refusal, went}
use Rattle.session.proofs.Answers.{lent_bad}
use Rattle.turns.specs.Contract.{turn_refusal, turned}
use Rattle.stored.specs.Stored.{picture_end, picture_in, session_in}
use Rattle.stored.specs.Calls.{front_number}
use Rattle.stored.specs.Laws.{IsSession, Begins, Refused}
use Rattle.stored.proofs.RoundTrip.{Fronted, fronted_by, fronted, take-bytes}

-- what the state that is read has of the bytes
module _ (b : List ℕ) (reads : read_refusal (picture_in b) ≡ 0) where
  byte_of : (i : ℕ) → i ≤ 5 → byte (picture_in b) i ≡ byte b i
  byte_of i h = get_or-take (picture_end b) b i 0 (omega arith)

  pub threads-read : (read (picture_in b)).state.t ≡ byte b 1
  unfolding read fields
  threads-read = rw reads (byte_of 1 (omega arith))

  pub applied-read : (read (picture_in b)).state.applied ≡ two_at b 4
  unfolding read fields
  applied-read = rw reads (λ i. 256 * byte_of 4 (omega arith) i + byte_of 5 (omega arith) i)

-- the tests of B and of the number kept, on the record and on the bytes
module _ (b : List ℕ) (f : Fronted b) where
  abbrev r : Session
  r = session_in b

  initial-is : in_range 1 r.state.t r.initial ≡ in_range 1 (byte b 1) (byte b (picture_end b))
  initial-is =
      let t : r.state.t ≡ byte b 1 = ap (λ (x : Session). x.state.t) f.is ∙ threads-read b f.reads in
      let i : r.initial ≡ byte b (picture_end b) = ap (λ (x : Session). x.initial) f.is in
      (λ z. in_range 1 (t z) (i z))

  kept-is : in_range r.state.applied 4000 r.kept ≡ in_range (two_at b 4) 4000 (two_at b (picture_end b + 1))
  kept-is =
      let n : r.state.applied ≡ two_at b 4 = ap (λ (x : Session). x.state.applied) f.is ∙ applied-read b f.reads in
      let k : r.kept ≡ two_at b (picture_end b + 1) = ap (λ (x : Session). x.kept) f.is in
      (λ z. in_range (n z) 4000 (k z))

module _ (b : List ℕ) where
  pub begins : IsSession b → Begins b
  unfolding session_ok
  begins e =
      let f = fronted b e in
      let first = both_left (state_ok (session_in b).state && in_range 1 (session_in b).state.t (session_in b).initial) _ e in
      record {
        fits = f.fits;
        reads = f.reads;
        initial = sym (initial-is b f) ∙ both_right (state_ok (session_in b).state) _ first;
        kept = sym (kept-is b f) ∙ both_right (state_ok (session_in b).state && in_range 1 (session_in b).state.t (session_in b).initial) _ e;
      }

  pub is_session : Bytes b → Begins b → IsSession b
  unfolding session_ok read
  is_session w h =
      let f = fronted_by b h.fits h.reads in
      let state : state_ok (session_in b).state ≡ true =
      ap (λ (x : Session). state_ok x.state) f.is ∙ read_keeps (picture_in b) (take-bytes b (picture_end b) w) f.reads
      in
      both (both state (initial-is b f ∙ h.initial)) (kept-is b f ∙ h.kept)

-- 15, the first cause that looks at the record
pub refused : (b : List ℕ) → (IsSession b → ⊥) → Refused b
unfolding moved move_refusal turned turn_refusal went goto_refusal test_refusal front_number
refused b h =
    let no : session_ok (session_in b) ≡ false = go (session_ok (session_in b)) h in
    let bad : (j : List ℕ) → 12000 ≤ length j → lent_refusal (session_in b) (length j) ≡ 15 = λ j l. sym (lent_bad (session_in b) (length j) l no) in
    record {
      move = λ j l a. rw (bad j l);
      turn = λ j l x p. rw (bad j l);
      goto = λ j l k. rw (bad j l);
      picture = λ n. rw no;
      front = λ j l. rw (bad j l);
    }
  where
    go : (t : Bool) → (t ≡ true → ⊥) → t ≡ false
    go true n = absurd (n refl)
    go false n = refl
