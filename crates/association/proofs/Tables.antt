-- Tables compared member by member, and the number of the first that passes a test.
-- Assumes nothing.
use Prim.Native.Nat.{ℕ, zero, suc, ◌+◌, ◌≤◌, ◌<◌}
use mathlib.Core.Bool.{Bool, true, false}
use mathlib.Core.List.{List, [], ◌∷◌}
use mathlib.Core.Logic.{◌≢◌}
use mathlib.Core.Path.{◌≡◌, refl, ap, sym, ◌∙◌}
use native.Mathlib.Nat.{not-suc-le-zero, le_of_suc-le-suc}
use native.Mathlib.Omega.{arith}
use native.Mathlib.Decide.{ℕ_discrete, dec_lt}
use lib.Dec.{eqb, leb}
use lib.ListN.{length, get_or, set, get_or-eq_default}
use lib.Seq.{ext_get_or}
use borrow.Author.Tests.{eq-eqb, ne_eqb, le-leb, lt-leb}
use Rattle.reference.specs.Lists.{at, choose, tabulate, find, sum}
use Rattle.reference.specs.Safe.{In}
use Rattle.reference.proofs.Sums.{sum-at, length-tabulate, tabulate_getD}

module _ {A : Type 0} where
  pub tabulate_ext : (f g : ℕ → A) (a n : ℕ) → ((j : ℕ) → a ≤ j → j < a + n → f j ≡ g j) → tabulate f a n ≡ tabulate g a n
  unfolding tabulate
  tabulate_ext f g a zero h = refl
  tabulate_ext f g a (suc n) h =
      rw (h a (omega arith) (omega arith), tabulate_ext f g (suc a) n (λ j x y. h j (omega arith) (omega arith)))

  -- two tables that differ in one member
  tabulate-set-from : (f g : ℕ → A) (a n i : ℕ) → i < n → ((j : ℕ) → a ≤ j → j < a + n → j ≢ a + i → g j ≡ f j) → tabulate g a n ≡ set (tabulate f a n) i (g (a + i))
  unfolding tabulate
  tabulate-set-from f g a zero i l h = absurd (not-suc-le-zero l)
  tabulate-set-from f g a (suc n) zero l h =
      let e : a + 0 ≡ a = omega arith in rw (e, tabulate_ext g f (suc a) n (λ j x y. h j (omega arith) (omega arith) (omega arith)))
  tabulate-set-from f g a (suc n) (suc i) l h =
      let e : suc a + i ≡ a + suc i = omega arith in
      rw (h a (omega arith) (omega arith) (omega arith), tabulate-set-from f g (suc a) n i (le_of_suc-le-suc l) (λ j x y z. h j (omega arith) (omega arith) (omega arith)), e)

  pub tabulate-set : (f g : ℕ → A) (n i : ℕ) → i < n → ((j : ℕ) → j < n → j ≢ i → g j ≡ f j) → tabulate g 0 n ≡ set (tabulate f 0 n) i (g i)
  tabulate-set f g n i l h =
      tabulate-set-from f g 0 n i l (λ j x y z. h j (omega arith) (omega arith)) ∙ ap (λ (m : ℕ). set (tabulate f 0 n) i (g m)) (omega arith)

  -- two tables that differ in two members
  pub tabulate-two : (f g : ℕ → A) (n i j : ℕ) → i < n → j < n → ((x : ℕ) → x < n → x ≢ i → x ≢ j → g x ≡ f x) → tabulate g 0 n ≡ set (set (tabulate f 0 n) i (g i)) j (g j)
  tabulate-two f g n i j l k h =
      tabulate-set mid g n j k (λ x y z. elim (ℕ_discrete x i) [ yes e ↦ ap g e ∙ sym (here x e) | no e ↦ h x y e z ∙ sym (there x e) ]) ∙
      ap (λ (t : List A). set t j (g j)) (tabulate-set f mid n i l (λ x y z. there x z) ∙ ap (set (tabulate f 0 n) i) (here i refl))
    where
      mid : ℕ → A
      mid x = choose (eqb x i) (g i) (f x)

      here : (x : ℕ) → x ≡ i → mid x ≡ g i
      here x e = rw (eq-eqb x i e)

      there : (x : ℕ) → x ≢ i → mid x ≡ f x
      there x e = rw (ne_eqb x i e)

  -- a table read at any place, if its members past the end are what is read there
  pub tabulate-read : (f : ℕ → A) (n i : ℕ) (d : A) → (n ≤ i → d ≡ f i) → get_or (tabulate f 0 n) i d ≡ f i
  tabulate-read f n i d h =
      elim (dec_lt i n) [
        | yes l ↦ tabulate_getD f 0 n i d l ∙ ap f (omega arith)
        | no l ↦ get_or-eq_default (tabulate f 0 n) d (omega (arith, length-tabulate f 0 n)) ∙ h (omega arith)
      ]

  -- a list read as a table is that table
  pub tabulate_of : (f : ℕ → A) (n : ℕ) (d : A) (l : List A) → length l ≡ n → ((i : ℕ) → i < n → get_or l i d ≡ f i) → l ≡ tabulate f 0 n
  tabulate_of f n d l e h =
      ext_get_or d l (tabulate f 0 n) (e ∙ sym (length-tabulate f 0 n)) (λ i x. h i (omega arith) ∙ sym (tabulate_getD f 0 n i d (omega arith) ∙ ap f (omega arith)))

-- the number of the first that passes, by the first's test and the number among the rest
abbrev further : Bool → ℕ → ℕ
further b n = elim b [ true ↦ 1 | false ↦ elim n [ zero ↦ 0 | suc n ↦ suc (suc n) ] ]

-- ---- the first that passes a test, where the test says that a weight is not 0
module _ {A : Type 0} (f : A → ℕ) (test : A → Bool) (agrees : (a : A) → test a ≡ leb 1 (f a)) where
  test_some : (a : A) → 1 ≤ f a → test a ≡ true
  test_some a h = agrees a ∙ le-leb 1 (f a) h

  test_none : (a : A) → f a ≡ 0 → test a ≡ false
  test_none a h = agrees a ∙ lt-leb 1 (f a) (omega arith)

  find-stop : (x : A) (xs : List A) → test x ≡ true → find test (x ∷ xs) ≡ 1
  unfolding find
  find-stop x xs e = ap (λ (b : Bool). further b (find test xs)) e

  find_on : (x : A) (xs : List A) (n : ℕ) → test x ≡ false → find test xs ≡ n → find test (x ∷ xs) ≡ further false n
  unfolding find
  find_on x xs n e h = ap (λ (b : Bool). further b (find test xs)) e ∙ ap (further false) h

  -- none weighs anything: none is found
  pub find_none : (l : List A) → sum f l ≡ 0 → find test l ≡ 0
  unfolding sum find
  find_none [] h = refl
  find_none (x ∷ xs) h = find_on x xs 0 (test_none x (omega arith)) (find_none xs (omega arith))

  find_one_from : (l : List A) (i : ℕ) (d : A) → i < length l → 1 ≤ f (get_or l i d) → sum f l ≤ 1 → find test l ≡ suc i
  unfolding sum find
  find_one_from [] i d l h k = absurd (not-suc-le-zero l)
  find_one_from (x ∷ xs) zero d l h k = find-stop x xs (test_some x h)
  find_one_from (x ∷ xs) (suc i) d l h k =
      find_on x xs (suc i) (test_none x (omega (arith, sum-at f xs (suc i) d (omega arith)))) (find_one_from xs i d (le_of_suc-le-suc l) h (omega arith))

  -- the one that weighs is found, if all together weigh at most 1
  pub find_one : (l : List A) (i : ℕ) (d : A) → In (length l) i → 1 ≤ f (at l i d) → sum f l ≤ 1 → find test l ≡ i
  find_one l zero d r h k = absurd (not-suc-le-zero r.0)
  find_one l (suc i) d r h k = find_one_from l i d r.1 h k

module _ {A : Type 0} where
  pub sum_plus : (f g : A → ℕ) (l : List A) → sum (λ a. f a + g a) l ≡ sum f l + sum g l
  unfolding sum
  sum_plus f g [] = refl
  sum_plus f g (x ∷ xs) = omega (arith, sum_plus f g xs)
