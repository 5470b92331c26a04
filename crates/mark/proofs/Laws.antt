-- What holds of every mark.
-- Assumes nothing.
use Prim.Native.Nat.{ℕ, ◌+◌, ◌*◌, ◌/◌, ◌≤◌, ◌<◌}
use mathlib.Core.Bool.{Bool, true, false}
use mathlib.Core.List.{List, [], ◌∷◌}
use mathlib.Core.Logic.{⊎_elim}
use mathlib.Core.Path.{◌≡◌, refl, ap, sym, ◌∙◌}
use native.Mathlib.Nat.{div-mul-le_self, lt-div-mul-add, le-div_iff_mul-le, mul-div_cancel}
use native.Mathlib.Omega.{arith}
use lib.Dec.{eqb}
use lib.ListN.{length, drop}
use borrow.Author.Tests.{eq-eqb, ne_eqb, le-ltb}
use Rattle.picture.specs.Picture.{Read, byte, picture_length, write_refusal, read_refusal, read}
use Rattle.picture.proofs.RoundTrip.{picture-reads}
use Rattle.picture.proofs.Written.{picture_size}
use Rattle.state.specs.declared.State.{State}
use Rattle.state.specs.Record.{Sized}
use Rattle.state.specs.Association.{decode}
use Rattle.state.specs.Rules.{state_ok}
use Rattle.reference.specs.Lists.{choose, sum}
use Rattle.reference.specs.Refusal.{bad_length}
use Rattle.reference.specs.Picture.{picture}
use Rattle.reference.proofs.Each.{each_agree}
use Rattle.mark.specs.Mark.{Row, rows_of, agrees, earned, possible, mark, mark_refusal, marked, answer, state_marked}
use Rattle.mark.specs.Laws.{Every, Accepted, AllAgree, AgreesMore, Laws}
use Rattle.mark.proofs.Rows.{same_byte, earned-most, possible-all, share_most}
use Rattle.mark.proofs.Cases.{mark_numbered, comparable, accepted, answer-refused}
use Rattle.mark.proofs.Behind.{every_map, Placed, all_placed, Agrees, all_same, same-all, dropped_same, same_dropped}

-- ---- points of records that agree

-- who misses no points missed none of the first record's
won : (t : Bool) (n x y : ℕ) → 0 < n → x ≤ y → choose t n 0 + x ≡ n + y → (t ≡ true) × (x ≡ y)
won true n x y h l e = (refl, omega arith)
won false n x y h l e = absurd (omega arith)

no_less : (t u : Bool) (n : ℕ) → (t ≡ true → u ≡ true) → choose t n 0 ≤ choose u n 0
no_less true u n h = rw (h refl) (omega arith)
no_less false u n h = omega arith

all-earned : (b c : List ℕ) (l : List Row) → Every Placed l → earned b c l ≡ possible l → Every (Agrees b c) l
unfolding Every earned possible sum
all-earned b c [] p e = tt
all-earned b c (r ∷ l) p e = let h = won (agrees b c r) r.points _ _ p.0.0 (earned-most b c l) e in (h.0, all-earned b c l p.1 h.1)

earned_all_of : (b c : List ℕ) (l : List Row) → Every (Agrees b c) l → earned b c l ≡ possible l
unfolding Every earned possible sum
earned_all_of b c [] e = refl
earned_all_of b c (r ∷ l) e = rw (e.0, earned_all_of b c l e.1)

earned_more : (b c d : List ℕ) (l : List Row) → Every (λ r. Agrees b c r → Agrees b d r) l → earned b c l ≤ earned b d l
unfolding Every earned sum
earned_more b c d [] e = omega arith
earned_more b c d (r ∷ l) e = omega (arith, no_less (agrees b c r) (agrees b d r) r.points e.0, earned_more b c d l e.1)

share_more : (x y q : ℕ) → 0 < q → x ≤ y → 10000 * x / q ≤ 10000 * y / q
share_more x y q h l = (le-div_iff_mul-le {k = q} {x = 10000 * x / q} {y = 10000 * y} h).1 (omega (arith, div-mul-le_self (10000 * x) q))

-- ---- a mark

module _ (b c : List ℕ) (e : Accepted b c) where
  some-points : 0 < possible (rows_of b)
  unfolding rows_of
  some-points = let k = accepted b c e in omega (arith, possible-all (byte b 0) (byte b 1) (byte b 2))

  answered : answer b c ≡ 10000 * earned b c (rows_of b) / possible (rows_of b)
  unfolding answer mark
  answered = rw e

  rounded : (answer b c * possible (rows_of b) ≤ 10000 * earned b c (rows_of b)) × (10000 * earned b c (rows_of b) < (answer b c + 1) * possible (rows_of b))
  rounded =
      let q = possible (rows_of b) in
      let x = 10000 * earned b c (rows_of b) in
      rw answered (div-mul-le_self x q, omega (arith, lt-div-mul-add {a = x} {b = q} some-points))

  at_most : answer b c ≤ 10000
  at_most = share_most (answer b c) (earned b c (rows_of b)) (possible (rows_of b)) answered (earned-most b c (rows_of b))

  full-agrees : answer b c ≡ 10000 → AllAgree b c
  unfolding rows_of
  full-agrees h =
      let f = rw h at rounded.0 in
      all-earned b c (rows_of b) (all_placed (byte b 0) (byte b 1) (byte b 2)) (omega (arith, earned-most b c (rows_of b)))

  agrees-full : AllAgree b c → answer b c ≡ 10000
  agrees-full a = answered ∙ rw (earned_all_of b c (rows_of b) a) (mul-div_cancel 10000 some-points)

  agrees_bytes : AllAgree b c → drop 8 c ≡ drop 8 b
  unfolding rows_of
  agrees_bytes a =
      let k = accepted b c e in
      sym (same_dropped b c k.same_length (λ i x y. all_same b c (byte b 0) (byte b 1) (byte b 2) a i x (omega arith)))

bytes_agree : (b c : List ℕ) → drop 8 c ≡ drop 8 b → AllAgree b c
unfolding rows_of
bytes_agree b c d = same-all b c (byte b 0) (byte b 1) (byte b 2) (λ i x y. dropped_same b c (sym d) i x)

-- ---- two candidates

more : (b c d : List ℕ) → Accepted b c → Accepted b d → AgreesMore b c d → answer b c ≤ answer b d
more b c d e f a =
    rw (answered b c e, answered b d f) (share_more (earned b c (rows_of b)) (earned b d (rows_of b)) (possible (rows_of b)) (some-points b c e) (earned_more b c d (rows_of b) a))

module _ (b : List ℕ) where
  header_more : (c d : List ℕ) → drop 8 c ≡ drop 8 d → AgreesMore b c d
  unfolding rows_of agrees
  header_more c d e =
      every_map Placed (λ r. Agrees b c r → Agrees b d r)
      (λ r p h. sym (each_agree (same_byte b c) (same_byte b d) r.at r.width (λ k x. ap (λ (v : ℕ). eqb (byte b k) v) (dropped_same c d e k (omega arith)))) ∙ h) (rows_of b)
      (all_placed (byte b 0) (byte b 1) (byte b 2))

  header_free : (c d : List ℕ) → length c ≡ length d → drop 8 c ≡ drop 8 d → answer b c ≡ answer b d
  unfolding answer mark mark_refusal
  header_free c d l e =
      let h : earned b c (rows_of b) ≡ earned b d (rows_of b) =
      omega (arith, earned_more b c d (rows_of b) (header_more c d e), earned_more b d c (rows_of b) (header_more d c (sym e)))
      in
      rw (l, h)

-- ---- the picture of a valid record

module _ (r : State) (z : Sized r) (ok : state_ok r ≡ true) where
  abbrev own-picture : List ℕ
  own-picture = picture (decode r)

  own-reads : read_refusal own-picture ≡ 0
  unfolding read
  own-reads = ap (λ (x : Read). x.refusal) (picture-reads r z ok)

  own-written : write_refusal r 296 ≡ 0
  own-written = let k = comparable own-picture own-picture own-reads refl in rw (ok, le-ltb 296 (picture_length r) (omega (arith, picture_size r)))

  own-marked : (c : List ℕ) → state_marked r c ≡ marked own-picture c
  unfolding state_marked
  own-marked c = rw own-written

  own-accepted : (c : List ℕ) → length c ≡ length own-picture → Accepted own-picture c
  unfolding mark_refusal
  own-accepted c l = rw (own-reads, eq-eqb (length c) (length own-picture) l)

  own-refused : (c : List ℕ) → (length c ≡ length own-picture → ⊥) → mark_refusal own-picture c ≡ bad_length
  unfolding mark_refusal
  own-refused c l = rw (own-reads, ne_eqb (length c) (length own-picture) l)

-- ---- all of them

refusal_added : (b c : List ℕ) → (Accepted b c → ⊥) → answer b c ≡ 20000 + mark_refusal b c
unfolding marked
refusal_added b c h = sym (answer-refused b c (marked b c) refl h)

pub laws : Laws
laws =
    record {
      some = some-points;
      rounded_down = rounded;
      most = at_most;
      refused = λ b c h. (refusal_added b c h, ⊎_elim (λ e. absurd (h e)) (λ n. n.0) (mark_numbered b c), ⊎_elim (λ e. absurd (h e)) (λ n. n.1) (mark_numbered b c));
      full = λ b c e. (full-agrees b c e, agrees-full b c e);
      full_bytes = λ b c e. (λ h. agrees_bytes b c e (full-agrees b c e h), λ d. agrees-full b c e (bytes_agree b c d));
      monotone = more;
      header = header_free;
      own = λ r c z ok. (own-marked r z ok c, own-accepted r z ok c, own-refused r z ok c);
    }
