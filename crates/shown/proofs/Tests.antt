-- What the tests of the rules say: of each number of a range, of each member of a list, and of a list that has no member twice; and what is read outside a range.
-- Assumes nothing.
use Prim.Native.Nat.{ℕ, zero, suc, ◌+◌, ◌≤◌, ◌<◌}
use mathlib.Core.Bool.{Bool, true, false, ◌||◌, not, true≢false}
use mathlib.Core.List.{List, [], ◌∷◌}
use mathlib.Core.Path.{◌≡◌, refl, ap, sym, ◌∙◌}
use native.Mathlib.Omega.{arith}
use native.Mathlib.Decide.{ℕ_discrete, dec_le}
use lib.ListN.{length}
use borrow.Author.Tests.{leb-false, lt-leb, not-true}
use Rattle.state.specs.Rules.{every, no_twice}
use Rattle.reference.specs.Lists.{at, in_range, sum, occurrences, each}
use Rattle.reference.specs.Picture.{stands_in}
use Rattle.reference.proofs.Tests.{both, both_left, both_right, true_range}
use Rattle.reference.proofs.Sums.{is_same, is-other}
use Rattle.association.proofs.Queues.{occurs_cons}
use Rattle.state.proofs.Numbers.{at_past}

-- ---- reads

-- what is read from a list outside 1 to its length
pub at_out : {A : Type 0} (l : List A) (n i : ℕ) (d : A) → length l ≡ n → in_range 1 n i ≡ false → at l i d ≡ d
at_out l n zero d e h = refl
at_out l n (suc i) d e h =
    elim (dec_le (suc i) n) [
      | yes z ↦ absurd (true≢false (sym (true_range 1 n (suc i) (omega arith) z) ∙ h))
      | no z ↦ at_past l (suc i) d (omega arith)
    ]

-- ---- or

pub either : (a b : Bool) → a || b ≡ true → a ≡ false → b ≡ true
either true b e h = absurd (true≢false h)
either false b e h = e

pub implied : (a b : Bool) → not a || b ≡ true → a ≡ true → b ≡ true
implied true b e h = e
implied false b e h = absurd (true≢false (sym h))

pub implies : (a b : Bool) → (a ≡ true → b ≡ true) → not a || b ≡ true
implies true b h = h refl
implies false b h = refl

-- ---- each and every

pub each_all : (test : ℕ → Bool) (lo n : ℕ) → each test lo n ≡ true → (i : ℕ) → lo ≤ i → i < lo + n → test i ≡ true
unfolding each
each_all test lo zero e i a b = absurd (omega arith)
each_all test lo (suc n) e i a b =
    elim (ℕ_discrete i lo) [
      | yes z ↦ rw z (both_left (test lo) (each test (suc lo) n) e)
      | no z ↦ each_all test (suc lo) n (both_right (test lo) (each test (suc lo) n) e) i (omega arith) (omega arith)
    ]

pub all-each : (test : ℕ → Bool) (lo n : ℕ) → ((i : ℕ) → lo ≤ i → i < lo + n → test i ≡ true) → each test lo n ≡ true
unfolding each
all-each test lo zero h = refl
all-each test lo (suc n) h = both (h lo (omega arith) (omega arith)) (all-each test (suc lo) n (λ i a b. h i (omega arith) (omega arith)))

-- k is a member of the list
abbrev pub Member : ℕ → List ℕ → Type 0
Member k l = 1 ≤ occurrences k l

-- no member stands there twice
abbrev pub Once : List ℕ → Type 0
Once l = (k : ℕ) → occurrences k l ≤ 1

pub occurs_none : (k : ℕ) → occurrences k [] ≡ 0
unfolding sum
occurs_none k = refl

pub first_member : (x : ℕ) (l : List ℕ) → Member x (x ∷ l)
first_member x l = omega (arith, occurs_cons x x l, is_same x)

pub later_member : (k x : ℕ) (l : List ℕ) → Member k l → Member k (x ∷ l)
later_member k x l h = omega (arith, occurs_cons k x l)

pub every-all : (test : ℕ → Bool) (l : List ℕ) → every test l ≡ true → (k : ℕ) → Member k l → test k ≡ true
unfolding every
every-all test [] e k h = absurd (omega (arith, occurs_none k))
every-all test (x ∷ l) e k h =
    elim (ℕ_discrete k x) [
      | yes z ↦ rw z (both_left (test x) (every test l) e)
      | no z ↦ every-all test l (both_right (test x) (every test l) e) k (omega (arith, occurs_cons k x l, is-other k x z))
    ]

pub all-every : (test : ℕ → Bool) (l : List ℕ) → ((k : ℕ) → Member k l → test k ≡ true) → every test l ≡ true
unfolding every
all-every test [] h = refl
all-every test (x ∷ l) h = both (h x (first_member x l)) (all-every test l (λ k m. h k (later_member k x l m)))

-- ---- no member twice

pub twice-once : (l : List ℕ) → no_twice l ≡ true → Once l
unfolding no_twice
twice-once [] e k = omega (arith, occurs_none k)
twice-once (x ∷ l) e k =
    let none : occurrences x l < 1 = leb-false 1 (occurrences x l) (not-true _ (both_left (not (stands_in x l)) (no_twice l) e)) in
    let rest : occurrences k l ≤ 1 = twice-once l (both_right (not (stands_in x l)) (no_twice l) e) k in
    elim (ℕ_discrete k x) [
      | yes z ↦ omega (arith, ap (λ (i : ℕ). occurrences i (x ∷ l)) z, occurs_cons x x l, is_same x)
      | no z ↦ omega (arith, occurs_cons k x l, is-other k x z)
    ]

pub once_rest : (x : ℕ) (l : List ℕ) → Once (x ∷ l) → Once l
once_rest x l h k = omega (arith, h k, occurs_cons k x l)

pub once-twice : (l : List ℕ) → Once l → no_twice l ≡ true
unfolding no_twice
once-twice [] h = refl
once-twice (x ∷ l) h =
    let none : stands_in x l ≡ false = lt-leb 1 (occurrences x l) (omega (arith, h x, occurs_cons x x l, is_same x)) in
    rw none (once-twice l (once_rest x l h))
