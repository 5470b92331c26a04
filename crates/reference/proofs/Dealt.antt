-- How the ready queues begin: thread k of a ring of r queues stands in queue `around r k`, and behind it thread k + r.
-- Assumes nothing.
use Prim.Native.Nat.{ℕ, zero, suc, ◌+◌, ◌-◌, ◌%◌, ◌≤◌, ◌<◌}
use mathlib.Core.Bool.{Bool, true, false}
use mathlib.Core.List.{List, [], ◌∷◌}
use mathlib.Core.Logic.{◌≢◌}
use mathlib.Core.Path.{◌≡◌, refl, ap, ap₂, sym, ◌∙◌}
use native.Mathlib.Nat.{mod-lt, mod-eq_of_lt, mod-eq-sub-mod, mod-add-mod, add-mod_right}
use native.Mathlib.Omega.{arith}
use native.Mathlib.Decide.{ℕ_discrete, dec_le}
use lib.Dec.{eqb, leb}
use borrow.Author.Tests.{eqb-true, eq-eqb, ne_eqb, le-leb, lt-leb}
use Rattle.reference.specs.Lists.{sum, occurrences, around, choose, tabulate, those}
use Rattle.reference.specs.State.{queues}
use Rattle.reference.specs.Start.{Config, itself, first_queue}
use Rattle.reference.specs.Safe.{In}
use Rattle.reference.specs.Picture.{first, behind}
use Rattle.reference.proofs.Sums.{is_same, is-other, around_in, around-self}
use Rattle.reference.proofs.Start.{Ranges}
use Rattle.reference.proofs.Invariant.{some_queue}

-- ---- a ring

-- r places on is the same place,
around_on : (r k : ℕ) → 1 ≤ k → around r (k + r) ≡ around r k
around_on r k h = let e : k + r - 1 ≡ k - 1 + r = omega arith in rw e (ap suc (add-mod_right (k - 1) r))

-- and none between is
around-between : (r k d : ℕ) → 1 ≤ k → 1 ≤ d → d < r → around r (k + d) ≢ around r k
around-between r k d h low high z =
    let e : k + d - 1 ≡ k - 1 + d = omega arith in
    let m : ℕ = (k - 1) % r in
    let l : m < r = mod-lt (k - 1) {m = r} (omega arith) in
    let s : (m + d) % r ≡ (k - 1 + d) % r = mod-add-mod (k - 1) r d in
    let o : (k - 1 + d) % r ≡ (k + d - 1) % r = ap (λ (n : ℕ). n % r) (sym e) in
    let w : (k + d - 1) % r ≡ m = omega (arith, z) in
    elim (dec_le r (m + d)) [
      | yes y ↦ let a : (m + d) % r ≡ (m + d - r) % r = mod-eq-sub-mod {n = m + d} {m = r} y in let b : (m + d - r) % r ≡ m + d - r = mod-eq_of_lt {n = m + d - r} {m = r} (omega arith) in omega arith
      | no y ↦ let b : (m + d) % r ≡ m + d = mod-eq_of_lt {n = m + d} {m = r} (omega arith) in omega arith
    ]

-- ---- those of a run of numbers that pass a test

behind_skip : (k x : ℕ) (q : List ℕ) → x ≢ k → behind k (x ∷ q) ≡ behind k q
unfolding behind
behind_skip k x q n = rw (ne_eqb x k n)

behind-first : (k : ℕ) (q : List ℕ) → behind k (k ∷ q) ≡ first q
unfolding behind
behind-first k q = rw (eq-eqb k k refl)

stands_first : (k : ℕ) (q : List ℕ) → 1 ≤ occurrences k (k ∷ q)
unfolding sum
stands_first k q = omega (arith, is_same k)

stands_nowhere : (k : ℕ) → occurrences k [] ≡ 0
unfolding sum
stands_nowhere k = refl

stands_past : (k x : ℕ) (q : List ℕ) → x ≢ k → occurrences k (x ∷ q) ≡ occurrences k q
unfolding sum
stands_past k x q n = omega (arith, is-other k x (λ z. n (sym z)))

stands_later : (k x : ℕ) (q : List ℕ) → 1 ≤ occurrences k q → 1 ≤ occurrences k (x ∷ q)
unfolding sum
stands_later k x q h = omega arith

module _ (test : ℕ → Bool) where
  abbrev run : ℕ → ℕ → List ℕ
  run a n = those test (tabulate itself a n)

  run-yes : (a n : ℕ) → test a ≡ true → run a (suc n) ≡ a ∷ run (suc a) n
  unfolding those tabulate
  run-yes a n e = rw e

  run_no : (a n : ℕ) → test a ≡ false → run a (suc n) ≡ run (suc a) n
  unfolding those tabulate
  run_no a n e = rw e

  run_none : (a : ℕ) → run a 0 ≡ []
  unfolding those tabulate
  run_none a = refl

  -- d numbers that fail are passed over
  run_skip : (d a n : ℕ) → ((i : ℕ) → i < d → test (a + i) ≡ false) → run a n ≡ run (a + d) (n - d)
  run_skip zero a n h = ap₂ run (omega arith) (omega arith)
  run_skip (suc d) a zero h = run_none a ∙ sym (ap (run (a + suc d)) z ∙ run_none (a + suc d))
    where
      z : 0 - suc d ≡ 0
      z = omega arith
  run_skip (suc d) a (suc n) h =
      run_no a n (rw (zero_at a) at (h 0 (omega arith))) ∙
      run_skip d (suc a) n (λ i l. rw (suc-at a i) at (h (suc i) (omega arith))) ∙ ap₂ run (omega arith) (omega arith)
    where
      zero_at : (a : ℕ) → a + 0 ≡ a
      zero_at a = omega arith

      suc-at : (a i : ℕ) → a + suc i ≡ suc a + i
      suc-at a i = omega arith

  -- the first, where the first number passes
  run-first : (a n : ℕ) → test a ≡ true → first (run a n) ≡ choose (leb 1 n) a 0
  run-first a zero e = ap first (run_none a)
  run-first a (suc n) e = ap first (run-yes a n e) ∙ ap (λ (b : Bool). choose b a 0) (sym (le-leb 1 (suc n) (omega arith)))

  -- one that passes stands there,
  run_stands : (n a k : ℕ) → a ≤ k → k < a + n → test k ≡ true → 1 ≤ occurrences k (run a n)
  run_stands zero a k x y e = absurd (omega arith)
  run_stands (suc n) a k x y e = elim (ℕ_discrete a k) [ yes z ↦ here z | no z ↦ later (test a) refl (run_stands n (suc a) k (omega arith) (omega arith) e) ]
    where
      here : a ≡ k → 1 ≤ occurrences k (run a (suc n))
      here z = rw (z, run-yes k n e) (stands_first k (run (suc k) n))

      later : (b : Bool) → test a ≡ b → 1 ≤ occurrences k (run (suc a) n) → 1 ≤ occurrences k (run a (suc n))
      later true z h = rw (run-yes a n z) (stands_later k a (run (suc a) n) h)
      later false z h = rw (run_no a n z) h

  -- a number that is none of those does not,
  run_never : (n a k : ℕ) → ((i : ℕ) → a ≤ i → i < a + n → test i ≡ true → i ≢ k) → occurrences k (run a n) ≡ 0
  run_never zero a k h = ap (occurrences k) (run_none a) ∙ stands_nowhere k
  run_never (suc n) a k h = by (test a) refl (run_never n (suc a) k (λ i x y. h i (omega arith) (omega arith)))
    where
      by : (b : Bool) → test a ≡ b → occurrences k (run (suc a) n) ≡ 0 → occurrences k (run a (suc n)) ≡ 0
      by true z w = rw (run-yes a n z) (stands_past k a (run (suc a) n) (h a (omega arith) (omega arith) z) ∙ w)
      by false z w = rw (run_no a n z) w

  -- and behind it the next that does
  run-behind : (n a k : ℕ) → a ≤ k → k < a + n → test k ≡ true → behind k (run a n) ≡ first (run (suc k) (a + n - suc k))
  run-behind zero a k x y e = absurd (omega arith)
  run-behind (suc n) a k x y e = elim (ℕ_discrete a k) [ yes z ↦ here z | no z ↦ later z (test a) refl (run-behind n (suc a) k (omega arith) (omega arith) e) ]
    where
      here : a ≡ k → behind k (run a (suc n)) ≡ first (run (suc k) (a + suc n - suc k))
      here z = rw z (ap (behind k) (run-yes k n e) ∙ behind-first k (run (suc k) n) ∙ ap (λ (m : ℕ). first (run (suc k) m)) (omega arith))

      later : a ≢ k → (b : Bool) → test a ≡ b → behind k (run (suc a) n) ≡ first (run (suc k) (suc a + n - suc k)) → behind k (run a (suc n)) ≡ first (run (suc k) (a + suc n - suc k))
      later z true w h = ap (behind k) (run-yes a n w) ∙ behind_skip k a (run (suc a) n) z ∙ h ∙ ap (λ (m : ℕ). first (run (suc k) m)) (omega arith)
      later z false w h = ap (behind k) (run_no a n w) ∙ h ∙ ap (λ (m : ℕ). first (run (suc k) m)) (omega arith)

-- ---- the ready queues at start

-- q places after P is the place q, on a ring of P and on one of a single place
around-start : (stealing P q : ℕ) → In (queues stealing P) q → around (queues stealing P) (P + q) ≡ q
around-start zero P q h = let l = around_in 1 (P + q) (omega arith) in omega arith
around-start (suc n) P q h = let e : P + q ≡ q + P = omega arith in ap (around P) e ∙ around_on P q h.0 ∙ around-self P q h

-- a number if there is room for it, said in two ways
if_room : (a b m n : ℕ) → m ≡ n → (1 ≤ a → n ≤ b) → (n ≤ b → 1 ≤ a) → choose (leb 1 a) m 0 ≡ choose (leb n b) n 0
if_room a b m n e g h =
    elim (dec_le n b) [
      | yes y ↦ rw (le-leb 1 a (h y), le-leb n b y) e
      | no y ↦ rw (lt-leb 1 a (fails y), lt-leb n b (omega arith))
    ]
  where
    fails : (n ≤ b → ⊥) → a < 1
    fails y = elim (dec_le 1 a) [ yes z ↦ absurd (y (g z)) | no z ↦ omega arith ]

module _ (c : Config) (x : Ranges c) where
  abbrev r : ℕ
  r = queues c.stealing c.P

  some-queues : 1 ≤ r
  some-queues = some_queue c.stealing c.P 1 (omega (arith, x.processors))

  -- queue q begins with thread P + q,
  pub first_queue-first : (q : ℕ) → In r q → first (first_queue c q) ≡ choose (leb (c.P + q) c.B) (c.P + q) 0
  first_queue-first q h =
      let test : ℕ → Bool = λ k. eqb (around r k) q in
      ap first (run_skip test (q - 1) (suc c.P) (c.B - c.P) (λ i l. before i l)) ∙
      run-first test (suc c.P + (q - 1)) (c.B - c.P - (q - 1)) (ap test at-q ∙ eq-eqb (around r (c.P + q)) q (around-start c.stealing c.P q h)) ∙
      if_room (c.B - c.P - (q - 1)) c.B (suc c.P + (q - 1)) (c.P + q) at-q (λ z. omega arith) (λ z. omega arith)
    where
      at-q : suc c.P + (q - 1) ≡ c.P + q
      at-q = omega arith

      before : (i : ℕ) → i < q - 1 → eqb (around r (suc c.P + i)) q ≡ false
      before i l =
          let e : suc c.P + i ≡ c.P + suc i = omega arith in
          let w : around r (suc c.P + i) ≡ suc i = ap (around r) e ∙ around-start c.stealing c.P (suc i) (omega arith) in
          ne_eqb (around r (suc c.P + i)) q (omega (arith, w))

  -- thread k above P stands in queue `around r k`,
  pub first_queue_stands : (k : ℕ) → c.P < k → k ≤ c.B → 1 ≤ occurrences k (first_queue c (around r k))
  first_queue_stands k l h = run_stands (λ j. eqb (around r j) (around r k)) (c.B - c.P) (suc c.P) k l (omega arith) (eq-eqb (around r k) (around r k) refl)

  -- in no other, and no other thread stands in one,
  pub first_queue_never : (q k : ℕ) → (c.P < k → k ≤ c.B → q ≢ around r k) → occurrences k (first_queue c q) ≡ 0
  first_queue_never q k h =
      run_never (λ j. eqb (around r j) q) (c.B - c.P) (suc c.P) k
      (λ i l u e z. absurd (h (omega arith) (omega arith) (sym (eqb-true (around r i) q e) ∙ ap (around r) z)))

  -- and behind it thread k + r
  pub first_queue-behind : (k : ℕ) → c.P < k → k ≤ c.B → behind k (first_queue c (around r k)) ≡ choose (leb (k + r) c.B) (k + r) 0
  first_queue-behind k l h =
      let test : ℕ → Bool = λ j. eqb (around r j) (around r k) in
      let n : ℕ = suc c.P + (c.B - c.P) - suc k in
      run-behind test (c.B - c.P) (suc c.P) k l (omega arith) (eq-eqb (around r k) (around r k) refl) ∙
      ap first (run_skip test (r - 1) (suc k) n (λ i w. between i w)) ∙
      run-first test (suc k + (r - 1)) (n - (r - 1)) (ap test at-k ∙ eq-eqb (around r (k + r)) (around r k) (around_on r k (omega arith))) ∙
      if_room (n - (r - 1)) c.B (suc k + (r - 1)) (k + r) at-k (λ z. omega (arith, some-queues)) (λ z. omega (arith, some-queues))
    where
      at-k : suc k + (r - 1) ≡ k + r
      at-k = omega (arith, some-queues)

      between : (i : ℕ) → i < r - 1 → eqb (around r (suc k + i)) (around r k) ≡ false
      between i w =
          let e : suc k + i ≡ k + suc i = omega arith in
          ne_eqb (around r (suc k + i)) (around r k) (λ z. around-between r k (suc i) (omega arith) (omega arith) (omega arith) (ap (around r) (sym e) ∙ z))
