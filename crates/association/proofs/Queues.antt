-- Queues: what stands in one, the one behind, and how long a queue of different threads can be.
-- Assumes nothing.
use Prim.Native.Nat.{ℕ, zero, suc, ◌+◌, ◌≤◌, ◌<◌}
use mathlib.Core.Bool.{Bool, true, false}
use mathlib.Core.List.{List, [], ◌∷◌, ◌++◌, append_assoc}
use mathlib.Core.Logic.{◌≢◌}
use mathlib.Core.Path.{◌≡◌, refl, ap, sym, ◌∙◌}
use native.Mathlib.Nat.{not-suc-le-zero}
use native.Mathlib.Omega.{arith}
use native.Mathlib.Decide.{ℕ_discrete}
use lib.Dec.{eqb}
use lib.ListN.{length}
use borrow.Author.Tests.{eq-eqb, ne_eqb}
use Rattle.reference.specs.Lists.{sum, is, occurrences, choose, in_range, tabulate}
use Rattle.reference.specs.Safe.{In}
use Rattle.reference.specs.Picture.{behind, first}
use Rattle.reference.proofs.Tests.{both_left, both_right, range_true}
use Rattle.reference.proofs.Sums.{is_same, is-other, sum_snoc, sum_one}
use Rattle.state.specs.Rules.{every}
use Rattle.association.proofs.Tables.{sum_plus}

-- ---- what stands in a queue

pub occurs_cons : (k x : ℕ) (q : List ℕ) → occurrences k (x ∷ q) ≡ is k x + occurrences k q
unfolding sum
occurs_cons k x q = refl

pub occurs_append : (k : ℕ) (a b : List ℕ) → occurrences k (a ++ b) ≡ occurrences k a + occurrences k b
unfolding sum
occurs_append k [] b = omega arith
occurs_append k (x ∷ a) b = omega (arith, occurs_append k a b)

pub occurs_here : (k : ℕ) (a b : List ℕ) → 1 ≤ occurrences k (a ++ k ∷ b)
occurs_here k a b = omega (arith, occurs_append k a (k ∷ b), occurs_cons k k b, is_same k)

pub occurs_skip : (j k : ℕ) (q : List ℕ) → j ≢ k → occurrences j (k ∷ q) ≡ occurrences j q
occurs_skip j k q n = omega (arith, occurs_cons j k q, is-other j k n)

pub occurs_snoc : (j k : ℕ) (q : List ℕ) → j ≢ k → occurrences j (q ++ k ∷ []) ≡ occurrences j q
occurs_snoc j k q n = omega (arith, sum_snoc (is j) q k, is-other j k n)

-- a thread that stands in a queue of threads is one
pub every_in : (t k : ℕ) (q : List ℕ) → every (in_range 1 t) q ≡ true → 1 ≤ occurrences k q → In t k
unfolding every sum
every_in t k [] e h = absurd (not-suc-le-zero h)
every_in t k (x ∷ q) e h =
    elim (ℕ_discrete k x) [
      | yes s ↦ omega (arith, range_true 1 t x (both_left (in_range 1 t x) (every (in_range 1 t) q) e))
      | no n ↦ every_in t k q (both_right (in_range 1 t x) (every (in_range 1 t) q) e) (omega (arith, is-other k x n))
    ]

-- ---- the one behind

pub behind_skip : (j k : ℕ) (q : List ℕ) → j ≢ k → behind j (k ∷ q) ≡ behind j q
unfolding behind
behind_skip j k q n = rw (ne_eqb k j (λ e. n (sym e)))

pub behind-first : (k : ℕ) (q : List ℕ) → behind k (k ∷ q) ≡ first q
unfolding behind
behind-first k q = rw (eq-eqb k k refl)

-- of one that stands there once
pub behind-at : (k : ℕ) (a b : List ℕ) → occurrences k (a ++ k ∷ b) ≤ 1 → behind k (a ++ k ∷ b) ≡ first b
behind-at k [] b h = behind-first k b
behind-at k (x ∷ a) b h =
    elim (ℕ_discrete k x) [
      | yes e ↦ absurd (twice e)
      | no n ↦ behind_skip k x (a ++ k ∷ b) n ∙ behind-at k a b (omega (arith, occurs_skip k x (a ++ k ∷ b) n))
    ]
  where
    twice : k ≡ x → ⊥
    twice e = let w : is k x ≡ is k k = ap (is k) (sym e) in omega (arith, occurs_here k a b, occurs_cons k x (a ++ k ∷ b), is_same k)

-- ---- the last

-- of a queue that begins with x
unfoldable pub last : ℕ → List ℕ → ℕ
last x [] = x
last x (y ∷ q) = last y q

unfoldable pub all-before : ℕ → List ℕ → List ℕ
all-before x [] = []
all-before x (y ∷ q) = x ∷ all-before y q

pub last-split : (x : ℕ) (q : List ℕ) → x ∷ q ≡ all-before x q ++ last x q ∷ []
unfolding last all-before
last-split x [] = refl
last-split x (y ∷ q) = ap (λ (l : List ℕ). x ∷ l) (last-split y q)

pub last_stands : (x : ℕ) (q : List ℕ) → 1 ≤ occurrences (last x q) (x ∷ q)
last_stands x q = rw (last-split x q) (occurs_here (last x q) (all-before x q) [])

-- one that joins is behind the last, and nobody else has another behind it
pub behind_snoc : (j k x : ℕ) (q : List ℕ) → j ≢ last x q → behind j (x ∷ q ++ k ∷ []) ≡ behind j (x ∷ q)
unfolding behind last
behind_snoc j k x [] n = rw (ne_eqb x j (λ e. n (sym e))) (ended (eqb k j))
  where
    ended : (b : Bool) → choose {A = ℕ} b 0 0 ≡ 0
    ended true = refl
    ended false = refl
behind_snoc j k x (y ∷ q) n = ap (choose (eqb x j) y) (behind_snoc j k y q n)

pub behind-none : (j k : ℕ) → behind j (k ∷ []) ≡ behind j []
unfolding behind
behind-none j k = by (eqb k j)
  where
    by : (b : Bool) → choose {A = ℕ} b 0 0 ≡ 0
    by true = refl
    by false = refl

pub behind-last : (k x : ℕ) (q : List ℕ) → occurrences (last x q) (x ∷ q ++ k ∷ []) ≤ 1 → behind (last x q) (x ∷ q ++ k ∷ []) ≡ k
behind-last k x q h =
    let e : x ∷ q ++ k ∷ [] ≡ all-before x q ++ last x q ∷ k ∷ [] = ap (λ (l : List ℕ). l ++ k ∷ []) (last-split x q) ∙ append_assoc (all-before x q) (last x q ∷ []) (k ∷ []) in
    ap (behind (last x q)) e ∙ behind-at (last x q) (all-before x q) (k ∷ []) (rw e at h)

-- a walk by next, from f k within f links, ends at the last
module _ (next : ℕ → ℕ) (from : ℕ → ℕ → ℕ) (stop : (f k : ℕ) → next k ≡ 0 → from f k ≡ k) (on : (f k : ℕ) → next k ≢ 0 → from (suc f) k ≡ from f (next k)) where
  pub walk : (q : List ℕ) → ((a : List ℕ) (k : ℕ) (b : List ℕ) → q ≡ a ++ k ∷ b → (1 ≤ k) × (next k ≡ first b)) →
      (f : ℕ) (a : List ℕ) (k : ℕ) (b : List ℕ) → q ≡ a ++ k ∷ b → length b ≤ f → from f k ≡ last k b
  unfolding last
  walk q h f a k [] e l = stop f k (h a k [] e).1
  walk q h zero a k (x ∷ b) e l = absurd (not-suc-le-zero l)
  walk q h (suc f) a k (x ∷ b) e l =
      let d : q ≡ (a ++ k ∷ []) ++ x ∷ b = e ∙ sym (append_assoc a (k ∷ []) (x ∷ b)) in
      let n : next k ≡ x = (h a k (x ∷ b) e).1 in
      on f k (λ z. omega (arith, (h (a ++ k ∷ []) x b d).0)) ∙ ap (from f) n ∙ walk q h f (a ++ k ∷ []) x b d (omega arith)

-- ---- a queue of different threads is no longer than there are threads

module _ {A : Type 0} (f : A → ℕ) (g : ℕ → A) where
  sum-most : (a n : ℕ) → ((i : ℕ) → a ≤ i → i < a + n → f (g i) ≤ 1) → sum f (tabulate g a n) ≤ n
  unfolding sum tabulate
  sum-most a zero h = omega arith
  sum-most a (suc n) h = omega (arith, h a (omega arith) (omega arith), sum-most (suc a) n (λ i x y. h i (omega arith) (omega arith)))

  sum-nothing : (a n : ℕ) → ((i : ℕ) → f (g i) ≡ 0) → sum f (tabulate g a n) ≡ 0
  unfolding sum tabulate
  sum-nothing a zero h = refl
  sum-nothing a (suc n) h = omega (arith, h a, sum-nothing (suc a) n h)

abbrev numbers : ℕ → List ℕ
numbers t = tabulate (λ k. k) 1 t

all-counted : (t : ℕ) (q : List ℕ) → every (in_range 1 t) q ≡ true → sum (λ k. occurrences k q) (numbers t) ≡ length q
unfolding every sum
all-counted t [] e = sum-nothing (λ k. occurrences k []) (λ k. k) 1 t (λ k. none k)
  where
    none : (k : ℕ) → occurrences k [] ≡ 0
    none k = refl
all-counted t (x ∷ q) e =
    let r : In t x = range_true 1 t x (both_left (in_range 1 t x) (every (in_range 1 t) q) e) in
    omega (
      arith,
      sum_plus (λ k. is k x) (λ k. occurrences k q) (numbers t),
      all-counted t q (both_right (in_range 1 t x) (every (in_range 1 t) q) e),
      sum_one (λ k. is k x) (λ k. k) 1 t x r.0 (omega arith) (is_same x) (λ i n. is-other i x n),
    )

pub queue-length : (t : ℕ) (q : List ℕ) → every (in_range 1 t) q ≡ true → ((k : ℕ) → In t k → occurrences k q ≤ 1) → length q ≤ t
queue-length t q e h = omega (arith, all-counted t q e, sum-most (λ k. occurrences k q) (λ k. k) 1 t (λ i x y. h i (omega arith)))
