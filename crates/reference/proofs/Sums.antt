-- Sums over a list and what a store at one place does to them; the members of a table; the branches of a line.
-- Assumes nothing.
use Prim.Native.Nat.{ℕ, zero, suc, ◌+◌, ◌-◌, ◌≤◌, ◌<◌}
use mathlib.Core.Bool.{Bool, true, false}
use mathlib.Core.List.{List, [], ◌∷◌, ◌++◌}
use mathlib.Core.Logic.{◌≢◌}
use mathlib.Core.Path.{◌≡◌, refl, ap, sym, ◌∙◌}
use native.Mathlib.Nat.{not-suc-le-zero, le_of_suc-le-suc, mod-lt, mod-eq_of_lt}
use native.Mathlib.Omega.{arith}
use native.Mathlib.Decide.{ℕ_discrete}
use lib.Dec.{eqb}
use lib.ListN.{length, get_or, set, length-set}
use lib.Seq.{get_or-set_same, get_or-set_other, set-get_or}
use borrow.Author.Tests.{eq-eqb, ne_eqb}
use Rattle.reference.specs.Lists.{at, put, tabulate, those, sum, is, around, choose, if_zero, if_empty}
use Rattle.reference.specs.Safe.{In}

-- 0 at 0, else 1
abbrev pub some : ℕ → ℕ
some zero = 0
some (suc n) = 1

pub is_same : (a : ℕ) → is a a ≡ 1
unfolding is
is_same a = rw (eq-eqb a a refl)

pub is-other : (a b : ℕ) → a ≢ b → is a b ≡ 0
unfolding is
is-other a b h = rw (ne_eqb a b h)

pub some_le : (n : ℕ) → some n ≤ n
some_le zero = omega arith
some_le (suc n) = omega arith

pub some_one : (n : ℕ) → some n ≤ 1
some_one zero = omega arith
some_one (suc n) = omega arith

pub some_pos : (n : ℕ) → 1 ≤ n → some n ≡ 1
some_pos zero h = omega arith
some_pos (suc n) h = refl

-- a ring's places are 1 to r, and one of these is itself
pub around_in : (r n : ℕ) → 1 ≤ r → In r (around r n)
around_in r n h = let l = mod-lt (n - 1) {m = r} h in (omega arith, l)

pub around-self : (r n : ℕ) → In r n → around r n ≡ n
around-self r n h = let e = mod-eq_of_lt {n = n - 1} {m = r} (omega arith) in omega arith

module _ {A : Type 0} (f : A → ℕ) where
  pub sum_snoc : (l : List A) (a : A) → sum f (l ++ a ∷ []) ≡ sum f l + f a
  unfolding sum
  sum_snoc [] a = omega arith
  sum_snoc (x ∷ xs) a = omega (arith, sum_snoc xs a)

  sum-set : (l : List A) (i : ℕ) (a d : A) → i < length l → sum f (set l i a) + f (get_or l i d) ≡ sum f l + f a
  unfolding sum
  sum-set [] i a d h = absurd (not-suc-le-zero h)
  sum-set (x ∷ xs) zero a d h = omega arith
  sum-set (x ∷ xs) (suc i) a d h = omega (arith, sum-set xs i a d (le_of_suc-le-suc h))

  sum_getD : (l : List A) (i : ℕ) (d : A) → i < length l → f (get_or l i d) ≤ sum f l
  unfolding sum
  sum_getD [] i d h = absurd (not-suc-le-zero h)
  sum_getD (x ∷ xs) zero d h = omega arith
  sum_getD (x ∷ xs) (suc i) d h = omega (arith, sum_getD xs i d (le_of_suc-le-suc h))

  pub sum-put : (l : List A) (i : ℕ) (a d : A) → In (length l) i → sum f (put l i a) + f (at l i d) ≡ sum f l + f a
  sum-put l zero a d h = absurd (not-suc-le-zero h.0)
  sum-put l (suc i) a d h = sum-set l i a d h.1

  pub sum-at : (l : List A) (i : ℕ) (d : A) → In (length l) i → f (at l i d) ≤ sum f l
  sum-at l zero d h = absurd (not-suc-le-zero h.0)
  sum-at l (suc i) d h = sum_getD l i d h.1

  -- a sum that is not 0 has a part that is not
  sum_some_getD : (l : List A) (d : A) → 1 ≤ sum f l → (i : ℕ) × (i < length l) × (1 ≤ f (get_or l i d))
  unfolding sum
  sum_some_getD [] d h = absurd (omega arith)
  sum_some_getD (x ∷ xs) d h = by (f x) refl (sum_some_getD xs d)
    where
      by : (n : ℕ) → f x ≡ n → (1 ≤ sum f xs → (i : ℕ) × (i < length xs) × (1 ≤ f (get_or xs i d))) → (i : ℕ) × (i < length (x ∷ xs)) × (1 ≤ f (get_or (x ∷ xs) i d))
      by (suc n) e rest = (0, omega arith, omega arith)
      by zero e rest = let r = rest (omega arith) in (suc r.0, omega (arith, r.1), r.2)

  pub sum-some : (l : List A) (d : A) → 1 ≤ sum f l → (i : ℕ) × In (length l) i × (1 ≤ f (at l i d))
  sum-some l d h = let r = sum_some_getD l d h in (suc r.0, omega (arith, r.1), r.2)

  -- also where nothing is put, if the new one weighs what is read at 0
  pub sum-put-zero : (l : List A) (i : ℕ) (a d : A) → i ≤ length l → (i ≡ 0 → f a ≡ f (at l i d)) → sum f (put l i a) + f (at l i d) ≡ sum f l + f a
  sum-put-zero l zero a d k h = omega (arith, h refl)
  sum-put-zero l (suc i) a d k h = sum-set l i a d k

  -- two places weigh no more than all
  sum_set_le : (l : List A) (i j : ℕ) (d : A) → i < length l → j < length l → i ≢ j → f (get_or l i d) + f (get_or l j d) ≤ sum f l
  unfolding sum
  sum_set_le [] i j d h k n = absurd (not-suc-le-zero h)
  sum_set_le (x ∷ xs) zero zero d h k n = absurd (n refl)
  sum_set_le (x ∷ xs) zero (suc j) d h k n = omega (arith, sum_getD xs j d (le_of_suc-le-suc k))
  sum_set_le (x ∷ xs) (suc i) zero d h k n = omega (arith, sum_getD xs i d (le_of_suc-le-suc h))
  sum_set_le (x ∷ xs) (suc i) (suc j) d h k n = omega (arith, sum_set_le xs i j d (le_of_suc-le-suc h) (le_of_suc-le-suc k) (λ e. n (ap suc e)))

  pub sum-two : (l : List A) (i j : ℕ) (d : A) → In (length l) i → In (length l) j → i ≢ j → f (at l i d) + f (at l j d) ≤ sum f l
  sum-two l zero j d h k n = absurd (not-suc-le-zero h.0)
  sum-two l (suc i) zero d h k n = absurd (not-suc-le-zero k.0)
  sum-two l (suc i) (suc j) d h k n = sum_set_le l i j d h.1 k.1 (λ e. n (ap suc e))

module _ {A : Type 0} where
  pub length-put : (l : List A) (i : ℕ) (a : A) → length (put l i a) ≡ length l
  length-put l zero a = refl
  length-put l (suc i) a = length-set l i a

  pub at-put-same : (l : List A) (i : ℕ) (a d : A) → In (length l) i → at (put l i a) i d ≡ a
  at-put-same l zero a d h = absurd (not-suc-le-zero h.0)
  at-put-same l (suc i) a d h = get_or-set_same l i a d h.1

  pub at-put-other : (l : List A) (i j : ℕ) (a d : A) → j ≢ i → at (put l i a) j d ≡ at l j d
  at-put-other l zero j a d h = refl
  at-put-other l (suc i) zero a d h = refl
  at-put-other l (suc i) (suc j) a d h = get_or-set_other l i j a d (λ e. h (ap suc e))

  -- what was there is stored again
  pub put_same : (l : List A) (i : ℕ) (d : A) → put l i (at l i d) ≡ l
  put_same l zero d = refl
  put_same l (suc i) d = set-get_or l i d

  set-kept : {B : Type 0} (F : A → B) (l : List A) (i : ℕ) (a d : A) → F a ≡ F (get_or l i d) → F (get_or (set l i a) i d) ≡ F (get_or l i d)
  set-kept F [] i a d h = refl
  set-kept F (x ∷ xs) zero a d h = h
  set-kept F (x ∷ xs) (suc i) a d h = set-kept F xs i a d h

  -- a part of the j-th is as it was after a store at i, if what is stored has it so
  pub at-put-kept : {B : Type 0} (F : A → B) (l : List A) (i j : ℕ) (a d : A) → (j ≡ i → F a ≡ F (at l i d)) → F (at (put l i a) j d) ≡ F (at l j d)
  at-put-kept F l zero j a d h = refl
  at-put-kept F l (suc i) j a d h = elim (ℕ_discrete j (suc i)) [ yes e ↦ rw e (set-kept F l i a d (h e)) | no n ↦ ap F (at-put-other l (suc i) j a d n) ]

  -- to show something of the j-th after a store at i: of what was stored, if j is i, and of what was there, if not
  pub at-put : (Q : ℕ → A → Type 0) (l : List A) (i j : ℕ) (a d : A) → In (length l) j → (In (length l) i → Q i a) → (j ≢ i → Q j (at l j d)) → Q j (at (put l i a) j d)
  at-put Q l i j a d r h k = elim (ℕ_discrete j i) [ yes e ↦ here e | no n ↦ rw (at-put-other l i j a d n) (k n) ]
    where
      here : j ≡ i → Q j (at (put l i a) j d)
      here e = rw (e, at-put-same l i a d (omega arith)) (h (omega arith))

  -- ---- a table

  pub length-tabulate : (f : ℕ → A) (k n : ℕ) → length (tabulate f k n) ≡ n
  unfolding tabulate
  length-tabulate f k zero = refl
  length-tabulate f k (suc n) = ap suc (length-tabulate f (suc k) n)

  pub tabulate_getD : (f : ℕ → A) (k n i : ℕ) (d : A) → i < n → get_or (tabulate f k n) i d ≡ f (k + i)
  unfolding tabulate
  tabulate_getD f k zero i d h = absurd (not-suc-le-zero h)
  tabulate_getD f k (suc n) zero d h = ap f (omega arith)
  tabulate_getD f k (suc n) (suc i) d h = tabulate_getD f (suc k) n i d (le_of_suc-le-suc h) ∙ ap f (omega arith)

  -- of a table from 1, the i-th is f i
  pub tabulate-at : (f : ℕ → A) (n i : ℕ) (d : A) → In n i → at (tabulate f 1 n) i d ≡ f i
  tabulate-at f n zero d r = absurd (not-suc-le-zero r.0)
  tabulate-at f n (suc i) d r = tabulate_getD f 1 n i d r.1 ∙ ap f (omega arith)

module _ {A : Type 0} (f : A → ℕ) (g : ℕ → A) where
  pub sum-none : (a n : ℕ) → ((i : ℕ) → a ≤ i → i < a + n → f (g i) ≡ 0) → sum f (tabulate g a n) ≡ 0
  unfolding sum tabulate
  sum-none a zero h = refl
  sum-none a (suc n) h = omega (arith, h a (omega arith) (omega arith), sum-none (suc a) n (λ i x y. h i (omega arith) (omega arith)))

  -- one member of a table weighs 1, and the others nothing
  pub sum_one : (a n k : ℕ) → a ≤ k → k < a + n → f (g k) ≡ 1 → ((i : ℕ) → i ≢ k → f (g i) ≡ 0) → sum f (tabulate g a n) ≡ 1
  unfolding sum tabulate
  sum_one a zero k x y e h = absurd (omega arith)
  sum_one a (suc n) k x y e h =
      elim (ℕ_discrete a k) [
        | yes z ↦ omega (arith, ap (λ (i : ℕ). f (g i)) z, sum-none (suc a) n (λ i x y. h i (omega arith)))
        | no z ↦ omega (arith, h a z, sum_one (suc a) n k (omega arith) (omega arith) e h)
      ]

-- two tables that weigh the same, but for one member that weighs c more
module _ {A : Type 0} (f : A → ℕ) (g h : ℕ → A) where
  sum_alike : (a n : ℕ) → ((i : ℕ) → a ≤ i → f (g i) ≡ f (h i)) → sum f (tabulate g a n) ≡ sum f (tabulate h a n)
  unfolding sum tabulate
  sum_alike a zero e = refl
  sum_alike a (suc n) e = omega (arith, e a (omega arith), sum_alike (suc a) n (λ i x. e i (omega arith)))

  sum_more : (c a n k : ℕ) → a ≤ k → k < a + n → f (g k) ≡ c + f (h k) → ((i : ℕ) → i ≢ k → f (g i) ≡ f (h i)) →
      sum f (tabulate g a n) ≡ c + sum f (tabulate h a n)
  unfolding sum tabulate
  sum_more c a zero k x y e d = absurd (omega arith)
  sum_more c a (suc n) k x y e d =
      elim (ℕ_discrete a k) [
        | yes z ↦ omega (arith, ap (λ (i : ℕ). f (g i)) z, ap (λ (i : ℕ). f (h i)) z, sum_alike (suc a) n (λ i x. d i (omega arith)))
        | no z ↦ omega (arith, d a z, sum_more c (suc a) n k (omega arith) (omega arith) e d)
      ]

-- a list dealt out to r others weighs the same in all
pub sum_dealt : (f to : ℕ → ℕ) (r : ℕ) → ((k : ℕ) → In r (to k)) → (l : List ℕ) → sum (sum f) (tabulate (λ q. those (λ k. eqb (to k) q) l) 1 r) ≡ sum f l
unfolding sum those
sum_dealt f to r h [] = sum-none (sum f) (λ q. []) 1 r (λ i x y. refl)
sum_dealt f to r h (x ∷ xs) =
    sum_more (sum f) (λ q. those (λ k. eqb (to k) q) (x ∷ xs)) (λ q. those (λ k. eqb (to k) q) xs) (f x) 1 r (to x) (h x).0 (omega (arith, (h x).1))
    (rw (eq-eqb (to x) (to x) refl)) (λ i n. rw (ne_eqb (to x) i (λ z. n (sym z)))) ∙
    ap (λ (n : ℕ). f x + n) (sum_dealt f to r h xs)

-- ---- the branches of a line, each with what holds there

module _ {ℓ} {A : Type 0} (Q : A → Type ℓ) where
  pub choose-by : (b : Bool) {x y : A} → (b ≡ true → Q x) → (b ≡ false → Q y) → Q (choose b x y)
  choose-by true h k = h refl
  choose-by false h k = k refl

  pub if_zero-by : (n : ℕ) {x y : A} → (n ≡ 0 → Q x) → ((k : ℕ) → n ≡ suc k → Q y) → Q (if_zero n x y)
  if_zero-by zero h k = h refl
  if_zero-by (suc n) h k = k n refl

  pub if_empty-by : (q : List ℕ) {a : A} {f : ℕ → List ℕ → A} → (q ≡ [] → Q a) → ((x : ℕ) (xs : List ℕ) → q ≡ x ∷ xs → Q (f x xs)) → Q (if_empty q a f)
  if_empty-by [] h k = h refl
  if_empty-by (x ∷ xs) h k = k x xs refl
