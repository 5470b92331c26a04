-- Lists of threads: who stands in one, and chains that meet each thread once.
-- Assumes nothing.
use Prim.Native.Nat.{ℕ, ◌+◌}
use mathlib.Core.Path.{◌≡◌, refl, sym, ◌∙◌}
use mathlib.Core.Bool.{Bool, true, false, ◌||◌, not}
use mathlib.Core.List.{List, [], ◌∷◌, ◌++◌}
use mathlib.Core.Logic.{⊎_elim}
use native.Mathlib.Nat.{zero-add}
use native.Mathlib.Omega.{arith}
use borrow.Author.Tests.{le-leb, eqb-true, eq-eqb, not-true}
use lib.Dec.{eqb, leb}
use Rattle.reference.specs.Lists.{choose, sum, is}
use Rattle.reference.specs.Picture.{stands_in}
use Rattle.reference.proofs.Tests.{both, both_left, both_right}
use Rattle.state.specs.Rules.{every, no_twice}
use Rattle.rules.proofs.Logic.{either, either_left, either_right, never, refuted}

pub stands_none : (j : ℕ) → stands_in j [] ≡ false
unfolding sum
stands_none j = refl

pub stands_cons : (j k : ℕ) (l : List ℕ) → stands_in j (k ∷ l) ≡ eqb j k || stands_in j l
unfolding sum is
stands_cons j k l = go (eqb j k) (sum (is j) l)
  where
    go : (b : Bool) (n : ℕ) → leb 1 (choose b 1 0 + n) ≡ b || leb 1 n
    go true n = le-leb 1 (1 + n) (omega arith)
    go false n = rw zero-add

pub every-at : (test : ℕ → Bool) (l : List ℕ) → every test l ≡ true → (k : ℕ) → stands_in k l ≡ true → test k ≡ true
unfolding every
every-at test [] e k h = never (stands_in k []) (stands_none k) h
every-at test (x ∷ l) e k h =
    ⊎_elim (λ s. let p : k ≡ x = eqb-true k x s in rw p (both_left (test x) (every test l) e))
    (every-at test l (both_right (test x) (every test l) e) k)
    (either (eqb k x) (stands_in k l) (sym (stands_cons k x l) ∙ h))

pub stands_append : (j : ℕ) (a b : List ℕ) → stands_in j (a ++ b) ≡ stands_in j a || stands_in j b
stands_append j [] b = rw (stands_none j)
stands_append j (k ∷ a) b = stands_cons j k (a ++ b) ∙ rw (stands_append j a b, stands_cons j k a) (grouped (eqb j k) (stands_in j a) (stands_in j b))
  where
    grouped : (x y z : Bool) → x || (y || z) ≡ (x || y) || z
    grouped true y z = refl
    grouped false y z = refl

pub stands_last : (j : ℕ) (l : List ℕ) (k : ℕ) → stands_in j (l ++ (k ∷ [])) ≡ eqb j k || stands_in j l
stands_last j l k = stands_append j l (k ∷ []) ∙ rw (stands_cons j k [], stands_none j) (swap (stands_in j l) (eqb j k))
  where
    swap : (x y : Bool) → x || (y || false) ≡ y || x
    swap true true = refl
    swap true false = refl
    swap false true = refl
    swap false false = refl

-- the chain c meets none that l has and none twice, and each passes the test
pub record Clean (test : ℕ → Bool) (l c : List ℕ) : Type 0 where
  pub placed : every test c ≡ true
  pub once : no_twice c ≡ true
  pub apart : (j : ℕ) → stands_in j c ≡ true → stands_in j l ≡ false

module _ (test : ℕ → Bool) (l : List ℕ) where
  pub clean_none : Clean test l []
  unfolding every no_twice
  clean_none = record { placed = refl; once = refl; apart = λ j h. never (stands_in j []) (stands_none j) h }

  -- a thread is met twice exactly if it was met before: the first of a clean chain was not, and then it was
  pub clean_first : (k : ℕ) (c : List ℕ) → Clean test l (k ∷ c) → (test k ≡ true) × (stands_in k l ≡ false)
  unfolding every
  clean_first k c h = (both_left (test k) (every test c) h.placed, h.apart k (stands_cons k k c ∙ either_left (eqb k k) (stands_in k c) (eq-eqb k k refl)))

  pub clean_rest : (k : ℕ) (c : List ℕ) → Clean test l (k ∷ c) → Clean test (l ++ (k ∷ [])) c
  unfolding every no_twice
  clean_rest k c h =
      record {
        placed = both_right (test k) (every test c) h.placed;
        once = both_right (not (stands_in k c)) (no_twice c) h.once;
        apart = λ j s. refuted (stands_in j (l ++ (k ∷ []))) (λ g. ⊎_elim
            (λ e. let p : j ≡ k = eqb-true j k e in never (stands_in k c) (not-true (stands_in k c) (both_left (not (stands_in k c)) (no_twice c) h.once)) (rw p at s))
            (never (stands_in j l) (h.apart j (stands_cons j k c ∙ either_right (eqb j k) (stands_in j c) s)))
            (either (eqb j k) (stands_in j l) (sym (stands_last j l k) ∙ g)));
      }

  pub clean_cons : (k : ℕ) (c : List ℕ) → test k ≡ true → stands_in k l ≡ false → Clean test (l ++ (k ∷ [])) c → Clean test l (k ∷ c)
  unfolding every no_twice
  clean_cons k c p f h =
      let n : stands_in k c ≡ false = refuted (stands_in k c) (λ s. never (stands_in k (l ++ (k ∷ []))) (h.apart k s) (stands_last k l k ∙ either_left (eqb k k) (stands_in k l) (eq-eqb k k refl))) in
      record {
        placed = both p h.placed;
        once = rw n h.once;
        apart = λ j s. refuted (stands_in j l) (λ g. ⊎_elim
            (λ e. let q : j ≡ k = eqb-true j k e in never (stands_in k l) f (rw q at g))
            (λ i. never (stands_in j (l ++ (k ∷ []))) (h.apart j i) (stands_last j l k ∙ either_right (eqb j k) (stands_in j l) g))
            (either (eqb j k) (stands_in j c) (sym (stands_cons j k c) ∙ s)));
      }
