-- A session's bytes read back to its record, and bytes that are a session are written back as they were.
-- Assumes nothing.
use Prim.Native.Nat.{ℕ, suc, ◌+◌, ◌*◌, ◌/◌, ◌%◌, ◌≤◌}
use mathlib.Core.Bool.{Bool, true, false, true≢false}
use mathlib.Core.List.{List, [], ◌∷◌, ◌++◌, append_assoc}
use mathlib.Core.Path.{◌≡◌, refl, sym, ap, ◌∙◌}
use native.Mathlib.Decide.{dec_lt}
use native.Mathlib.Omega.{arith}
use lib.Dec.{leb}
use Rattle.std.proofs.Common.{Ok}
use lib.ListN.{length, take, drop, length-append, length-take, take-append-drop, get_or-eq_default}
use lib.Seq.{take_at, length-take-le, get_or-append-add, get_or-take, drop-cons}
use borrow.Author.Tests.{le-leb, leb-true, eqb-true}
use Rattle.state.specs.declared.Session.{Session}
use Rattle.state.specs.Record.{Sized, zero_state, zero_session}
use Rattle.state.specs.Association.{decode}
use Rattle.state.specs.Rules.{broken_rule, fields_ok, state_ok, session_ok}
use Rattle.reference.specs.Lists.{with_front}
use Rattle.reference.specs.Picture.{picture, two}
use Rattle.reference.proofs.Tests.{both_left, both_right}
use Rattle.picture.specs.Picture.{Bytes, byte, two_at, picture_length, read_shown, read, read_refusal}
use Rattle.picture.proofs.Records.{record_picture}
use Rattle.picture.proofs.ReadBack.{parts}
use Rattle.picture.proofs.Written.{picture_size}
use Rattle.picture.proofs.RoundTrip.{picture-reads, read-pictures}
use Rattle.stored.specs.Stored.{session_bytes, picture_end, picture_in, is_there, session_in}
use Rattle.stored.proofs.Reading.{in_read}
use Rattle.stored.proofs.Writing.{state-valid}

-- ---- what is written reads back, whatever stands behind it

module _ (r : Session) (z : Sized r.state) (e : session_ok r ≡ true) (rest : List ℕ) where
  abbrev n : ℕ
  n = picture_length r.state

  abbrev x : List ℕ
  x = picture (decode r.state)

  abbrev l : List ℕ
  l = r.initial ∷ two r.kept

  abbrev w : List ℕ
  w = x ++ (l ++ rest)

  ok : state_ok r.state ≡ true
  ok = state-valid r e

  long : length x ≡ n
  long = picture_size r.state

  -- the picture begins with its sizes
  ends : n ≡ picture_end w
  ends = ap (λ (y : List ℕ). picture_end (y ++ (l ++ rest))) (sym (parts r.state) ∙ record_picture r.state z ok)

  -- the bytes behind it
  behind : (i : ℕ) → byte w (n + i) ≡ byte (l ++ rest) i
  behind i = ap (λ (k : ℕ). byte w (k + i)) (sym long) ∙ get_or-append-add x (l ++ rest) i 0

  pub reads_back : session_in (session_bytes r ++ rest) ≡ r
  unfolding session_bytes read_shown
  reads_back =
      let room : n + 3 ≤ length w = omega (arith, length-append x (l ++ rest), long) in
      let found : read_shown (Ok r.state) ≡ read (take n w) = sym (picture-reads r.state z ok) ∙ ap read (sym (take_at x (l ++ rest) n long)) in
      let at : n + 0 ≡ n = omega arith in
      let initial : byte w n ≡ r.initial = ap (byte w) (sym at) ∙ behind 0 in
      let kept : 256 * byte w (n + 1) + byte w (n + 2) ≡ r.kept = (λ i. 256 * behind 1 i + behind 2 i) ∙ omega arith in
      ap session_in (append_assoc x l rest) ∙ sym (in_read w n ends room r.state found) ∙
      (λ i. record { state = r.state; initial = initial i; kept = kept i })

-- ---- bytes that are a session

no_session : session_ok zero_session ≡ false
unfolding session_ok state_ok broken_rule fields_ok zero_state
no_session = refl

-- a session's record stands at the front
there : (b : List ℕ) → session_ok (session_in b) ≡ true → is_there b ≡ true
unfolding session_in
there b e = go (is_there b) refl
  where
    go : (t : Bool) → is_there b ≡ t → is_there b ≡ true
    go true h = h
    go false h = absurd (true≢false (sym e ∙ rw h no_session))

-- with its picture and three bytes more
pub record Fronted (b : List ℕ) : Type 0 where
  pub fits : picture_end b + 3 ≤ length b
  pub reads : read_refusal (picture_in b) ≡ 0
  pub is : session_in b ≡ record { state = (read (picture_in b)).state; initial = byte b (picture_end b); kept = two_at b (picture_end b + 1) }

pub fronted_by : (b : List ℕ) → picture_end b + 3 ≤ length b → read_refusal (picture_in b) ≡ 0 → Fronted b
unfolding session_in is_there
fronted_by b fits reads = record { fits = fits; reads = reads; is = rw (le-leb (picture_end b + 3) (length b) fits, reads) }

pub fronted : (b : List ℕ) → session_ok (session_in b) ≡ true → Fronted b
unfolding is_there
fronted b e =
    let h = there b e in
    fronted_by b (leb-true (picture_end b + 3) (length b) (both_left (leb (picture_end b + 3) (length b)) _ h))
    (eqb-true _ 0 (both_right (leb (picture_end b + 3) (length b)) _ h))

three : (b : List ℕ) (k : ℕ) → k + 3 ≤ length b → drop k b ≡ byte b k ∷ byte b (k + 1) ∷ byte b (k + 1 + 1) ∷ drop (k + 3) b
three b k h =
    let one : k + 1 ≡ suc k = omega arith in
    let more : k + 1 + 1 ≡ suc (suc k) = omega arith in
    let all : k + 3 ≡ suc (suc (suc k)) = omega arith in
    drop-cons b k 0 (omega arith) ∙ ap (λ (t : List ℕ). byte b k ∷ t) (drop-cons b (suc k) 0 (omega arith)) ∙
    ap (λ (t : List ℕ). byte b k ∷ byte b (suc k) ∷ t) (drop-cons b (suc (suc k)) 0 (omega arith)) ∙
    sym (λ i. byte b k ∷ byte b (one i) ∷ byte b (more i) ∷ drop (all i) b)

pub take-bytes : (b : List ℕ) (k : ℕ) → Bytes b → Bytes (take k b)
take-bytes b k f i = elim (dec_lt i k) [ yes h ↦ omega (arith, get_or-take k b i 0 h, f i) | no h ↦ omega (arith, get_or-eq_default (take k b) 0 {n = i} (omega (arith, length-take k b))) ]

pub writes_back : (b : List ℕ) → Bytes b → session_ok (session_in b) ≡ true → with_front b (session_bytes (session_in b)) ≡ b
unfolding session_bytes read
writes_back b bytes e =
    let f = fronted b e in
    let k : ℕ = picture_end b in
    let shown : picture (decode (read (picture_in b)).state) ≡ picture_in b = read-pictures (picture_in b) (take-bytes b k bytes) f.reads in
    let l : List ℕ = byte b k ∷ byte b (k + 1) ∷ byte b (k + 1 + 1) ∷ [] in
    let high : two_at b (k + 1) / 256 ≡ byte b (k + 1) = omega (arith, bytes (k + 1 + 1)) in
    let low : two_at b (k + 1) % 256 ≡ byte b (k + 1 + 1) = omega (arith, bytes (k + 1 + 1)) in
    let is : session_bytes (session_in b) ≡ picture_in b ++ l = ap session_bytes f.is ∙ (λ i. shown i ++ (byte b k ∷ high i ∷ low i ∷ [])) in
    let long : length (picture_in b ++ l) ≡ k + 3 = length-append (picture_in b) l ∙ omega (arith, length-take-le k b (omega (arith, f.fits))) in
    ap (with_front b) is ∙ ap (λ (m : ℕ). picture_in b ++ l ++ drop m b) long ∙ append_assoc (picture_in b) l (drop (k + 3) b) ∙
    ap (λ (t : List ℕ). picture_in b ++ t) (sym (three b k f.fits)) ∙ take-append-drop k b
