-- What is written at the front of bytes: what the code's stores make, and that it reads back.
-- Assumes nothing.
use Prim.Native.Nat.{ℕ, suc, ◌+◌, ◌/◌, ◌%◌, ◌≤◌, ◌<◌}
use mathlib.Core.Bool.{true}
use mathlib.Core.List.{List, ◌∷◌, ◌++◌}
use mathlib.Core.Path.{◌≡◌, sym, ap, ◌∙◌}
use native.Mathlib.Omega.{arith}
use Rattle.std.specs.Int.{w16, to_be_bytes}
use lib.ListN.{length, get_or, set, drop, length-append, length-drop}
use lib.Seq.{sets-eq, take_at, drop_at, drop-drop}
use borrow.Author.Tests.{le-ltb}
use Rattle.state.specs.declared.Session.{Session}
use Rattle.state.specs.Record.{Sized}
use Rattle.state.specs.Association.{decode}
use Rattle.state.specs.Rules.{state_ok, session_ok}
use Rattle.reference.specs.Lists.{with_front, in_range}
use Rattle.reference.specs.Picture.{picture, two}
use Rattle.reference.proofs.Tests.{both_left}
use Rattle.picture.specs.Picture.{picture_length, written}
use Rattle.picture.specs.Model.Parts.{over, record_bytes}
use Rattle.picture.proofs.Written.{over-written, picture_size}
use Rattle.stored.specs.Stored.{session_bytes}
use Rattle.stored.specs.Model.Writable.{Writable}

-- a session's state keeps the rules
pub state-valid : (r : Session) → session_ok r ≡ true → state_ok r.state ≡ true
unfolding session_ok
state-valid r e = both_left (state_ok r.state) (in_range 1 r.state.t r.initial) (both_left _ (in_range r.state.applied 4000 r.kept) e)

-- the two bytes of a number
pub high_byte : (n : ℕ) → n < 65536 → get_or (to_be_bytes w16 n) 0 0 ≡ n / 256
high_byte n h = omega arith

pub low_byte : (n : ℕ) → get_or (to_be_bytes w16 n) 1 0 ≡ n % 256
low_byte n = omega arith

-- three stores behind the picture
module _ (r : Session) (b : List ℕ) (z : Sized r.state) (h : Writable r b) where
  abbrev n : ℕ
  n = picture_length r.state

  abbrev x : List ℕ
  x = picture (decode r.state)

  put_written : over b (record_bytes r.state) ≡ x ++ drop n b
  unfolding written
  put_written =
      let e = state-valid r h.valid in
      over-written r.state b z e ∙ rw (e, le-ltb (length b) n (omega (arith, h.fits)))

  pub all-written : (k : ℕ) → k ≡ n →
      set (set (set (over b (record_bytes r.state)) k r.initial) (k + 1) (r.kept / 256)) (k + 2) (r.kept % 256) ≡ with_front b (session_bytes r)
  unfolding session_bytes
  all-written k e =
      let l : List ℕ = r.initial ∷ two r.kept in
      let w : List ℕ = x ++ drop n b in
      let long : length x ≡ n = picture_size r.state in
      let room : n + 3 ≤ length w = simp (length-append, length-drop) (omega (arith, h.fits, long)) in
      let one : k + 1 ≡ suc n = omega arith in
      let more : k + 2 ≡ suc (suc n) = omega arith in
      let all : length (x ++ l) ≡ n + 3 = length-append x l ∙ omega (arith, long) in
      (λ i. set (set (set (put_written i) (e i) r.initial) (one i) (r.kept / 256)) (more i) (r.kept % 256)) ∙ sets-eq l w n room ∙
      ap (λ (t : List ℕ). t ++ l ++ drop (n + 3) w) (take_at x (drop n b) n long) ∙
      ap (λ (t : List ℕ). x ++ l ++ t) (sym (drop-drop 3 n w) ∙ ap (drop 3) (drop_at x (drop n b) n long) ∙ drop-drop 3 n b) ∙
      ap (λ (m : ℕ). x ++ l ++ drop m b) (sym all)
