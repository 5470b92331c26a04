-- One place of two lists after a store in each, all places of two lists, and two stores in either order.
-- Assumes nothing.
use Prim.Native.Nat.{ℕ, zero, suc, ◌≤◌}
use mathlib.Core.List.{List, [], ◌∷◌}
use mathlib.Core.Path.{◌≡◌, refl, ap, sym}
use native.Mathlib.Nat.{suc-ne-zero, suc_inj}
use native.Mathlib.Omega.{arith}
use lib.ListN.{length, get_or, set}
use lib.Seq.{ext_get_or}
use Rattle.reference.specs.Lists.{at, put}
use Rattle.reference.specs.Safe.{In}

module _ {A B : Type 0} (F : A → B) where
  set_alike : (l k : List A) (i : ℕ) (a b d : A) → length l ≡ length k → F a ≡ F b → F (get_or (set l i a) i d) ≡ F (get_or (set k i b) i d)
  set_alike [] [] i a b d e h = refl
  set_alike [] (y ∷ ys) i a b d e h = absurd (suc-ne-zero (length ys) (sym e))
  set_alike (x ∷ xs) [] i a b d e h = absurd (suc-ne-zero (length xs) e)
  set_alike (x ∷ xs) (y ∷ ys) zero a b d e h = h
  set_alike (x ∷ xs) (y ∷ ys) (suc i) a b d e h = set_alike xs ys i a b d (suc_inj e) h

  -- stored in two lists at one place, what is alike is read alike
  pub put_alike : (l k : List A) (i : ℕ) (a b d : A) → length l ≡ length k → F a ≡ F b → F (at (put l i a) i d) ≡ F (at (put k i b) i d)
  put_alike l k zero a b d e h = refl
  put_alike l k (suc i) a b d e h = set_alike l k i a b d e h

module _ {A : Type 0} where
  -- two lists with the same members are one
  pub same_members : (d : A) (l k : List A) → length l ≡ length k → ((i : ℕ) → In (length l) i → at l i d ≡ at k i d) → l ≡ k
  same_members d l k e h = ext_get_or d l k e (λ i r. h (suc i) (omega arith))

  set_swap : (l : List A) (i j : ℕ) (a b : A) → (i ≡ j → a ≡ b) → set (set l i a) j b ≡ set (set l j b) i a
  set_swap [] i j a b h = refl
  set_swap (x ∷ xs) zero zero a b h = ap (λ (c : A). c ∷ xs) (sym (h refl))
  set_swap (x ∷ xs) zero (suc j) a b h = refl
  set_swap (x ∷ xs) (suc i) zero a b h = refl
  set_swap (x ∷ xs) (suc i) (suc j) a b h = ap (λ (l : List A). x ∷ l) (set_swap xs i j a b (λ e. h (ap suc e)))

  -- two stores may change places, unless they store different things at one place
  pub put_swap : (l : List A) (i j : ℕ) (a b : A) → (1 ≤ i → i ≡ j → a ≡ b) → put (put l i a) j b ≡ put (put l j b) i a
  put_swap l zero j a b h = refl
  put_swap l (suc i) zero a b h = refl
  put_swap l (suc i) (suc j) a b h = set_swap l i j a b (λ e. h (omega arith) (ap suc e))
