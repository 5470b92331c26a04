-- Laws of a script's bytes.
-- Assumes nothing.
use Prim.Native.Nat.{ℕ, zero, suc, ◌+◌, ◌-◌, ◌*◌, ◌/◌, ◌%◌, ◌≤◌}
use native.Mathlib.Numerals.{add-one}
use native.Mathlib.Omega.{arith}
use mathlib.Core.Bool.{true, ◌&&◌}
use mathlib.Core.Path.{◌≡◌, refl, ap, ◌∙◌}
use mathlib.Core.List.{List, [], ◌∷◌, ◌++◌, append_assoc}
use lib.Dec.{eqb, leb}
use lib.ListN.{length, get_or, set, take, drop, replicate, length-append, length-drop, length-replicate, length-set}
use lib.Seq.{length-take-le, take-suc-set, drop-drop}
use borrow.Rule.Slice.PartMut.{put_mid, mid_of, same_len_mid}
use Rattle.std.proofs.lemmas.Slice.{take-put_mid, drop-put_mid}
use Rattle.std.proofs.lemmas.List.{drop-set-lt}
use borrow.Author.Tests.{leb-true}
use Rattle.reference.specs.Lists.{in_range, each}
use Rattle.reference.proofs.Tests.{both_left, both_right, range_true}
use Rattle.reference.proofs.Each.{each_agree}
use Rattle.script.specs.Contract.{calls_ok, set_refusal, script_bytes, scripts_after}

-- the test of actions, at places that are the same
pub actions_agree : (x : List ℕ) (f g : ℕ → ℕ) (n : ℕ) → ((i : ℕ) → f i ≡ g i) → each (λ i. in_range 1 6 (get_or x (f i) 0)) 0 n ≡ each (λ i. in_range 1 6 (get_or x (g i) 0)) 0 n
actions_agree x f g n e = each_agree (λ i. in_range 1 6 (get_or x (f i) 0)) (λ i. in_range 1 6 (get_or x (g i) 0)) 0 n (λ i h. ap (λ (j : ℕ). in_range 1 6 (get_or x j 0)) (e i))

pub zeros : (n i : ℕ) → ◌≡◌ {A = ℕ} (get_or (replicate n 0) i 0) 0
zeros zero i = refl
zeros (suc n) zero = refl
zeros (suc n) (suc i) = zeros n i

-- zeros behind a list are what is read past its end
pub padded : (c : List ℕ) (n i : ℕ) → get_or (c ++ replicate n 0) i 0 ≡ get_or c i 0
padded [] n i = zeros n i
padded (x ∷ c) n zero = refl
padded (x ∷ c) n (suc i) = padded c n i

pub script_length_13 : (c : List ℕ) → length c ≤ 12 → length (script_bytes c) ≡ 13
script_length_13 c h = simp (length-append, length-replicate) (omega arith)

mid-length : (a k : ℕ) (w : List ℕ) → a + k ≤ length w → length (mid_of a k w) ≡ k
mid-length a k w h = length-take-le k (drop a w) (omega (arith, length-drop a w))

between : (w z p q : List ℕ) (a m : ℕ) → take a w ≡ p → drop (a + m) w ≡ q → put_mid a m w z ≡ p ++ (z ++ q)
between w z p q a m e f = rw (drop-drop, e, f)

-- the length of the calls, the calls and zeros, written one behind the other
pub pieces : (x c y z : List ℕ) (a k m : ℕ) → a + 13 ≤ length x → length c ≤ 12 → y ≡ c → k ≡ length c → m ≡ 12 - length c →
    z ≡ replicate (length (mid_of (a + 1 + length c) m (put_mid (a + 1) k (set x a (length c / 2)) y))) 0 →
    put_mid (a + 1 + length c) m (put_mid (a + 1) k (set x a (length c / 2)) y) z ≡ take a x ++ script_bytes c ++ drop (a + 13) x
pieces x c y z a k m h l ey ek em ez =
    let v : ℕ = length c / 2 in
    let n : length (set x a v) ≡ length x = length-set x a v in
    let one : take (a + 1) (set x a v) ≡ take a x ++ (v ∷ []) = rw add-one (take-suc-set x a v (omega arith)) in
    let front : take (a + 1 + length c) (put_mid (a + 1) k (set x a v) y) ≡ (take a x ++ (v ∷ [])) ++ c =
    take-put_mid (a + 1) k _ y _ (rw ey refl) (omega arith) ∙ rw (one, ey) refl in
    let far : drop (a + 13) (put_mid (a + 1) k (set x a v) y) ≡ drop (a + 13) x =
    drop-put_mid (a + 1) k _ y (a + 13) (omega arith) (omega arith) (rw (ey, ek)) ∙ drop-set-lt (a + 13) x a _ (omega arith) in
    let e : a + 1 + length c + m ≡ a + 13 = omega arith in
    let long : length (put_mid (a + 1) k (set x a v) y) ≡ length x = same_len_mid (a + 1) k (set x a v) y (rw (ey, mid-length (a + 1) k (set x a v) (omega arith)) (omega arith)) ∙ n in
    let fill : length (mid_of (a + 1 + length c) m (put_mid (a + 1) k (set x a v) y)) ≡ m = mid-length (a + 1 + length c) m _ (omega arith) in
    between _ z _ (drop (a + 13) x) (a + 1 + length c) m front (rw e far) ∙ rw (ez, fill, em) (simp append_assoc refl)

-- ---- a setting that is accepted

module _ (t : ℕ) (x : List ℕ) (k : ℕ) (c : List ℕ) (there : in_range 1 t k ≡ true) (fit : (leb (13 * t) (length x) && calls_ok c) ≡ true) where
  pub few : length c ≤ 12
  unfolding calls_ok
  few =
      let e = both_right (leb (13 * t) (length x)) (calls_ok c) fit in
      leb-true (length c) 12 (both_left (leb (length c) 12) (eqb (length c % 2) 0) (both_left (leb (length c) 12 && eqb (length c % 2) 0) _ e))

  pub room : 13 * (k - 1) + 13 ≤ length x
  room =
      let r = range_true 1 t k there in
      let l = leb-true (13 * t) (length x) (both_left (leb (13 * t) (length x)) (calls_ok c) fit) in
      omega arith

  pub accepted : set_refusal t x k c ≡ 0
  unfolding set_refusal
  accepted = rw (there, fit)

  pub written : scripts_after t x k c ≡ take (13 * (k - 1)) x ++ script_bytes c ++ drop (13 * (k - 1) + 13) x
  unfolding scripts_after
  written =
      let r = range_true 1 t k there in
      let e : 13 * k ≡ 13 * (k - 1) + 13 = omega arith in
      rw (accepted, e)
