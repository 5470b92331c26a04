-- Laws of rows and of lists of threads, put one after the other.
-- Assumes nothing.
use Prim.Native.Nat.{ℕ, zero, suc, ◌+◌, ◌≤◌, ◌<◌}
use native.Mathlib.Numerals.{add-one}
use native.Mathlib.Omega.{arith}
use mathlib.Core.Bool.{Bool, true, false, cond}
use mathlib.Core.Path.{◌≡◌, refl, sym, ap, subst, ◌∙◌}
use mathlib.Core.List.{List, [], ◌∷◌, ◌++◌, append-nil, append_assoc}
use lib.Dec.{eqb}
use lib.ListN.{length}
use borrow.Author.Tests.{eq-eqb, eqb-true}
use Rattle.command.specs.Command.{field}
use Rattle.command.specs.declared.printing.Page.{Page}
use Rattle.command.specs.Printing.{text, Buffer, buffer_of, add, written}
use Rattle.command.proofs.Put.{add-full, add-length, written_twice, written_none}
use Rattle.state.specs.declared.Thread.{Thread}
use Rattle.state.specs.Record.{chain}
use Rattle.command.specs.Request.{fields}
use Rattle.view.specs.Words.{or_none, rows}

-- ---- rows, put one after the other

pub rows_begun : (f : ℕ → List ℕ) (p : Page) (lo : ℕ) → p ≡ written p (rows f lo 0)
unfolding rows
rows_begun f p lo = sym (written_none p)

rows-last : (f : ℕ → List ℕ) (lo i : ℕ) → rows f lo (suc i) ≡ rows f lo i ++ f (lo + i)
unfolding rows
rows-last f lo zero = let e : lo + 0 ≡ lo = omega arith in rw (e, append-nil)
rows-last f lo (suc i) = let e : suc lo + i ≡ lo + suc i = omega arith in ap (λ (x : List ℕ). f lo ++ x) (rows-last f (suc lo) i) ∙ rw (e, append_assoc)

pub rows_more : (f : ℕ → List ℕ) (p q r : Page) (lo i : ℕ) → q ≡ written p (rows f lo i) → r ≡ written q (f (lo + i)) → r ≡ written p (rows f lo (i + 1))
rows_more f p q r lo i e h = h ∙ rw (e, written_twice, add-one i, rows-last)

-- ---- the threads of a chain

pub chain_next : (thread : ℕ → Thread) (p q : Page) (k n b : ℕ) → (k ≡ 0 → ⊥) → n ≡ b + 1 → q ≡ written p (field k)
    → written q (fields (chain thread b (thread k).next)) ≡ written p (fields (chain thread n k))
unfolding chain fields
chain_next thread p q zero n b h g e = absurd (h refl)
chain_next thread p q (suc k) n b h g e = rw (g, add-one b, e, written_twice)

pub chain_stop : (thread : ℕ → Thread) (p : Page) (n k : ℕ) → k ≡ 0 → written p (fields (chain thread n k)) ≡ p
unfolding chain fields
chain_stop thread p zero k e = written_none p
chain_stop thread p (suc n) k e = rw e (written_none p)

pub chain_end : (thread : ℕ → Thread) (p : Page) (n k : ℕ) → n ≡ 0 → written p (fields (chain thread n k)) ≡ p
unfolding chain fields
chain_end thread p n k e = rw e (written_none p)

-- ---- a dash for none

-- a text of one byte or more that adds none finds the page full
filled : (p : Buffer) (x : List ℕ) → 0 < length x → (add p x).len ≡ p.len → length (add p x).bytes ≤ (add p x).len
unfolding add
filled p x h l = let n = add-length p x in omega arith

-- a text, and a dash where none was put
pub dashed : (p : Page) (x : List ℕ) → written (written p x) (cond (eqb (written p x).len p.len) (text " -") []) ≡ written p (or_none x)
unfolding or_none written
dashed p [] = subst (λ (q : Page). written q (cond (eqb q.len p.len) (text " -") []) ≡ written p (text " -")) (sym (written_none p)) (rw (eq-eqb p.len p.len refl))
dashed p (b ∷ l) = go (eqb (written p (b ∷ l)).len p.len) refl
  where
    go : (t : Bool) → eqb (written p (b ∷ l)).len p.len ≡ t → written (written p (b ∷ l)) (cond t (text " -") []) ≡ written p (b ∷ l)
    go true g = let e = add-full (add (buffer_of p.bytes.now p.len) (b ∷ l)) (text " -") (filled (buffer_of p.bytes.now p.len) (b ∷ l) (omega arith) (eqb-true _ p.len g)) in rw e
    go false g = written_none (written p (b ∷ l))
