-- What comes of setting a thread's script.
-- Assumes nothing.
use Prim.Native.Nat.{ℕ, suc, ◌+◌, ◌-◌, ◌*◌, ◌/◌, ◌%◌, ◌≤◌, ◌<◌}
use native.Mathlib.Decide.{dec_lt}
use native.Mathlib.Numerals.{add-one}
use native.Mathlib.Omega.{arith}
use mathlib.Core.Bool.{Bool, true, false, ◌&&◌, not}
use mathlib.Core.Path.{◌≡◌, refl, ap, ◌∙◌}
use mathlib.Core.List.{List, ◌++◌}
use lib.Dec.{eqb, leb}
use lib.ListN.{length, get_or, take, drop, replicate, length-append, length-drop, length-replicate, get_or-append}
use lib.Seq.{length-take-le, get_or-append-add, get_or-take, get_or-drop}
use borrow.Author.Tests.{le-leb, leb-true, eqb-true, eqb-false, not-false}
use Rattle.reference.specs.Lists.{in_range}
use Rattle.reference.specs.Script.{script_byte, script_length, script_action, script_operand, script_ok, scripts_ok}
use Rattle.reference.proofs.Tests.{both, both_left, both_right, range_true, passed}
use Rattle.reference.proofs.Each.{each_none, each_at, each_all}
use Rattle.script.specs.Contract.{calls_ok, set_refusal, script_bytes, scripts_after, Sets, Empty}
use Rattle.script.proofs.Laws.{zeros, padded, script_length_13, few, room, written}

-- ---- a list whose n members from a on are replaced by s

module _ (x s : List ℕ) (a n : ℕ) (e : length s ≡ n) (h : a + n ≤ length x) where
  front : length (take a x) ≡ a
  front = length-take-le a x (omega arith)

  two : length (take a x ++ s) ≡ a + n
  two = length-append (take a x) s ∙ omega (arith, front)

  same_length : length (take a x ++ s ++ drop (a + n) x) ≡ length x
  same_length = length-append (take a x ++ s) (drop (a + n) x) ∙ omega (arith, two, length-drop (a + n) x)

  inside : (i : ℕ) → i < n → get_or (take a x ++ s ++ drop (a + n) x) (a + i) 0 ≡ get_or s i 0
  inside i l =
      let f = front in
      let q : a + i ≡ length (take a x) + i = omega arith in
      get_or-append (take a x ++ s) (drop (a + n) x) 0 (a + i) (omega (arith, two)) ∙ ap (λ (j : ℕ). get_or (take a x ++ s) j 0) q ∙ get_or-append-add (take a x) s i 0

  outside : (j : ℕ) → (a ≤ j → a + n ≤ j) → get_or (take a x ++ s ++ drop (a + n) x) j 0 ≡ get_or x j 0
  outside j o = go (dec_lt j a)
    where
      go : Dec (j < a) → get_or (take a x ++ s ++ drop (a + n) x) j 0 ≡ get_or x j 0
      go (yes l) =
          get_or-append (take a x ++ s) (drop (a + n) x) 0 j (omega (arith, two)) ∙ get_or-append (take a x) s 0 j (omega (arith, front)) ∙ get_or-take a x j 0 l
      go (no l) =
          let m = o (omega arith) in
          let d : j ≡ length (take a x ++ s) + (j - (a + n)) = omega (arith, two) in
          let r : a + n + (j - (a + n)) ≡ j = omega arith in
          ap (λ (i : ℕ). get_or (take a x ++ s ++ drop (a + n) x) i 0) d ∙ get_or-append-add (take a x ++ s) (drop (a + n) x) (j - (a + n)) 0
          ∙ get_or-drop (a + n) x (j - (a + n)) 0 ∙ ap (λ (i : ℕ). get_or x i 0) r

-- ---- scripts with the same bytes

same_ok : (x y : List ℕ) (k : ℕ) → ((i : ℕ) → i < 13 → script_byte y k i ≡ script_byte x k i) → script_ok x k ≡ true → script_ok y k ≡ true
unfolding script_ok
same_ok x y k e h =
    let six = leb-true (script_length x k) 6 (both_left (leb (script_length x k) 6) _ h) in
    let acts = each_at (λ i. in_range 1 6 (script_action x k i)) 0 (script_length x k) (both_right (leb (script_length x k) 6) _ h) in
    let n = e 0 (omega arith) in
    both (le-leb (script_length y k) 6 (omega arith))
    (each_all (λ i. in_range 1 6 (script_action y k i)) 0 (script_length y k) (λ i l m. rw (e (2 * i + 1) (omega arith)) (acts i l (omega arith))))

-- ---- accepted

module _ (t : ℕ) (x : List ℕ) (k : ℕ) (c : List ℕ) (ok : set_refusal t x k c ≡ 0) where
  there : in_range 1 t k ≡ true
  unfolding set_refusal
  there = not-false (in_range 1 t k) (passed _ 2 _ ok).0

  fit : (leb (13 * t) (length x) && calls_ok c) ≡ true
  unfolding set_refusal
  fit = not-false (leb (13 * t) (length x) && calls_ok c) (passed (not (leb (13 * t) (length x) && calls_ok c)) 18 0 (passed (not (in_range 1 t k)) 2 _ ok).1).0

  thirteen : length (script_bytes c) ≡ 13
  thirteen = script_length_13 c (few t x k c there fit)

  keeps_length : length (scripts_after t x k c) ≡ length x
  keeps_length = ap length (written t x k c there fit) ∙ same_length x (script_bytes c) (13 * (k - 1)) 13 thirteen (room t x k c there fit)

  new-byte : (i : ℕ) → i < 13 → script_byte (scripts_after t x k c) k i ≡ get_or (script_bytes c) i 0
  new-byte i h = rw (written t x k c there fit) (inside x (script_bytes c) (13 * (k - 1)) 13 thirteen (room t x k c there fit) i h)

  old_byte : (j : ℕ) → 1 ≤ j → (j ≡ k → ⊥) → (i : ℕ) → i < 13 → script_byte (scripts_after t x k c) j i ≡ script_byte x j i
  old_byte j h n i l =
      let r = range_true 1 t k there in
      rw (written t x k c there fit)
      (outside x (script_bytes c) (13 * (k - 1)) 13 thirteen (room t x k c there fit) (13 * (j - 1) + i) (λ m. omega arith))

  new-count : script_length (scripts_after t x k c) k ≡ length c / 2
  new-count = new-byte 0 (omega arith)

  new-action : (i : ℕ) → i < 6 → script_action (scripts_after t x k c) k i ≡ get_or c (2 * i) 0
  new-action i h = new-byte (2 * i + 1) (omega arith) ∙ rw add-one (padded c (12 - length c) (2 * i))

  new-operand : (i : ℕ) → i < 6 → script_operand (scripts_after t x k c) k i ≡ get_or c (2 * i + 1) 0
  new-operand i h =
      let e : 2 * i + 2 ≡ suc (2 * i + 1) = omega arith in
      new-byte (2 * i + 2) (omega arith) ∙ rw e (padded c (12 - length c) (2 * i + 1))

  new_ok : script_ok (scripts_after t x k c) k ≡ true
  unfolding script_ok calls_ok
  new_ok =
      let n = new-count in
      let l = few t x k c there fit in
      let all = both_right (leb (length c) 12 && eqb (length c % 2) 0) _ (both_right (leb (13 * t) (length x)) (calls_ok c) fit) in
      both (le-leb (script_length (scripts_after t x k c) k) 6 (omega arith))
      (each_all (λ i. in_range 1 6 (script_action (scripts_after t x k c) k i)) 0 (script_length (scripts_after t x k c) k)
      (λ i b m. rw (new-action i (omega arith)) (each_at (λ j. in_range 1 6 (get_or c (2 * j) 0)) 0 (length c / 2) all i b (omega arith))))

  all-ok : scripts_ok t x ≡ true → scripts_ok t (scripts_after t x k c) ≡ true
  unfolding scripts_ok
  all-ok h =
      let e = keeps_length in
      let long = leb-true (13 * t) (length x) (both_left (leb (13 * t) (length x)) _ h) in
      both (le-leb (13 * t) (length (scripts_after t x k c)) (omega arith)) (each_all (script_ok (scripts_after t x k c)) 1 t (λ j b m. one j b m (eqb j k) refl))
    where
      one : (j : ℕ) → 1 ≤ j → j < 1 + t → (q : Bool) → eqb j k ≡ q → script_ok (scripts_after t x k c) j ≡ true
      one j b m true q = rw (eqb-true j k q) new_ok
      one j b m false q = same_ok x (scripts_after t x k c) j (old_byte j b (eqb-false j k q)) (each_at (script_ok x) 1 t (both_right (leb (13 * t) (length x)) _ h) j b m)

-- ---- accepted or refused

module _ (t : ℕ) (x : List ℕ) (k : ℕ) (c : List ℕ) where
  -- what holds of the buffer that was handed in, and of the one after an accepted setting, holds of the one after any
  after : (P : List ℕ → Type 0) → P x → (set_refusal t x k c ≡ 0 → P (scripts_after t x k c)) → P (scripts_after t x k c)
  unfolding scripts_after
  after P same new = go (eqb (set_refusal t x k c) 0) refl
    where
      go : (q : Bool) → eqb (set_refusal t x k c) 0 ≡ q → P (scripts_after t x k c)
      go true q = new (eqb-true (set_refusal t x k c) 0 q)
      go false q = rw q same

  pub sets_hold : Sets t x k c
  sets_hold =
      record {
        count = new-count t x k c;
        action = new-action t x k c;
        operand = new-operand t x k c;
        others = λ j h n i l. after (λ y. script_byte y j i ≡ script_byte x j i) refl (λ ok. old_byte t x k c ok j h n i l);
        long = after (λ y. length y ≡ length x) refl (keeps_length t x k c);
        in_order = λ h. after (λ y. scripts_ok t y ≡ true) h (λ ok. all-ok t x k c ok h);
      }

-- ---- zeros

empty_ok : (n t : ℕ) → 13 * t ≤ n → scripts_ok t (replicate n 0) ≡ true
unfolding scripts_ok script_ok
empty_ok n t h =
    both (le-leb (13 * t) (length (replicate {A = ℕ} n 0)) (omega (arith, length-replicate {A = ℕ} n 0)))
    (each_all (script_ok (replicate n 0)) 1 t (λ k l m. rw (zeros n (13 * (k - 1) + 0), each_none)))

pub empty_holds : Empty
empty_holds t h = (empty_ok 416 t (omega arith), (λ k. zeros 416 (13 * (k - 1) + 0)))
