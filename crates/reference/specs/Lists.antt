-- Lists whose members are numbered from 1, 0 meaning none, and the branches that the definitions take.
-- Assumes nothing.
use Rattle.std.specs.Prelude.{ℕ, zero, suc, ◌+◌, ◌-◌, ◌%◌, Bool, true, false, ◌&&◌, List, [], ◌∷◌, ◌++◌, eqb, leb, length, get_or, set, drop}

module _ {ℓ} {A : Type ℓ} where
  -- the i-th of a list, or `d` where there is none
  abbrev pub at : List A → ℕ → A → A
  at l zero d = d
  at l (suc i) d = get_or l i d

  -- the list with its i-th replaced
  abbrev pub put : List A → ℕ → A → List A
  put l zero a = l
  put l (suc i) a = set l i a

  -- f k, f (k + 1), and so on, n of them
  unfoldable pub tabulate : (ℕ → A) → ℕ → ℕ → List A
  tabulate f k zero = []
  tabulate f k (suc n) = f k ∷ tabulate f (suc k) n

  -- the number of the first that passes the test, 0 where none does
  unfoldable pub find : (A → Bool) → List A → ℕ
  find test [] = 0
  find test (x ∷ xs) = elim (test x) [ true ↦ 1 | false ↦ elim (find test xs) [ zero ↦ 0 | suc n ↦ suc (suc n) ] ]

  -- two lists are the same, member by member
  unfoldable pub same_list : (A → A → Bool) → List A → List A → Bool
  same_list same [] [] = true
  same_list same [] (y ∷ ys) = false
  same_list same (x ∷ xs) [] = false
  same_list same (x ∷ xs) (y ∷ ys) = same x y && same_list same xs ys

  -- the sum of what each member weighs
  unfoldable pub sum : (A → ℕ) → List A → ℕ
  sum f [] = 0
  sum f (x ∷ xs) = f x + sum f xs

  -- ---- branches

  abbrev pub choose : Bool → A → A → A
  choose true a b = a
  choose false a b = b

  -- the first where the number is 0, else the second
  abbrev pub if_zero : ℕ → A → A → A
  if_zero zero a b = a
  if_zero (suc n) a b = b

  -- the first where the queue is empty, else what is made of its first and the rest
  abbrev pub if_empty : List ℕ → A → (ℕ → List ℕ → A) → A
  if_empty [] a f = a
  if_empty (x ∷ xs) a f = f x xs

-- those of a list that pass the test, in order
unfoldable pub those : (ℕ → Bool) → List ℕ → List ℕ
those test [] = []
those test (x ∷ xs) = choose (test x) (x ∷ those test xs) (those test xs)

-- 1 if the two are the same, else 0
unfoldable pub is : ℕ → ℕ → ℕ
is a b = choose (eqb a b) 1 0

-- how often k stands in a list
abbrev pub occurrences : ℕ → List ℕ → ℕ
occurrences k l = sum (is k) l

-- the n-th place of a ring of r, counted from 1 and going round: ((n − 1) mod r) + 1
abbrev pub around : ℕ → ℕ → ℕ
around r n = suc ((n - 1) % r)

-- lo ≤ n ≤ hi
abbrev pub in_range : ℕ → ℕ → ℕ → Bool
in_range lo hi n = leb lo n && leb n hi

-- the test holds of lo, lo + 1, and so on, n of them
unfoldable pub each : (ℕ → Bool) → ℕ → ℕ → Bool
each test lo zero = true
each test lo (suc n) = test lo && each test (suc lo) n

-- a buffer whose front is these bytes, its later bytes kept
abbrev pub with_front : List ℕ → List ℕ → List ℕ
with_front buffer bytes = bytes ++ drop (length bytes) buffer
