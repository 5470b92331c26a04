-- What it means that the mark is not set.
-- Assumes nothing.
use Prim.Native.Nat.{ℕ, zero, suc, ◌<◌}
use mathlib.Core.Bool.{Bool, true, false, ◌&&◌, ◌||◌, true≢false}
use mathlib.Core.List.{List, [], ◌∷◌}
use mathlib.Core.Path.{◌≡◌, refl, sym, ◌∙◌}
use native.Mathlib.Nat.{not-suc-le-zero, le_of_suc-le-suc}
use native.Mathlib.Omega.{arith}
use lib.Dec.{eqb, ltb}
use lib.ListN.{length, get_or}
use borrow.Author.Tests.{eq-eqb, ltb-false}
use Rattle.reference.specs.Lists.{find}
use Rattle.reference.specs.State.{State, H5, nobody, processor_at, mutex_at, same_line}
use Rattle.reference.specs.Safe.{In}
use Rattle.reference.proofs.Invariant.{Good}
use Rattle.overtaking.specs.Ahead.{at_H5, overtakable}

-- no token is there, and who is on m is not at H5
pub record Unmarked (s : State) (m : ℕ) : Type 0 where
  pub token : (mutex_at s m).token.processor ≡ 0
  pub nowhere : (p : ℕ) → In s.P p → (processor_at s p).mutex ≡ m → same_line (processor_at s p).position H5 ≡ false

-- ---- a test that finds nobody

neither_found : (b : Bool) (n : ℕ) → ◌≡◌ {A = ℕ} (elim b [ true ↦ 1 | false ↦ elim n [ zero ↦ 0 | suc i ↦ suc (suc i) ] ]) 0 → (b ≡ false) × (n ≡ 0)
neither_found true n e = absurd (omega arith)
neither_found false zero e = (refl, refl)
neither_found false (suc n) e = absurd (omega arith)

none_found : {A : Type 0} (test : A → Bool) (l : List A) → find test l ≡ 0 → (i : ℕ) (d : A) → i < length l → test (get_or l i d) ≡ false
unfolding find
none_found test [] e i d h = absurd (not-suc-le-zero h)
none_found test (x ∷ xs) e zero d h = (neither_found (test x) (find test xs) e).0
none_found test (x ∷ xs) e (suc i) d h = none_found test xs (neither_found (test x) (find test xs) e).1 i d (le_of_suc-le-suc h)

neither : (a b : Bool) → a || b ≡ false → (a ≡ false) × (b ≡ false)
neither true b e = absurd (true≢false e)
neither false b e = (refl, e)

and_false : (a b : Bool) → a && b ≡ false → b ≡ true → a ≡ false
and_false true b e h = absurd (true≢false (sym h ∙ e))
and_false false b e h = refl

pub unmarked : (s : State) → Good s → (m : ℕ) → overtakable s m ≡ false → Unmarked s m
unfolding overtakable
unmarked s g m e =
    let h = neither (ltb 0 (mutex_at s m).token.processor) (ltb 0 (find (at_H5 m) s.processors)) e in
    record {
      token = omega (arith, ltb-false 0 (mutex_at s m).token.processor h.0);
      nowhere = λ p r i. at_p p r i (omega (arith, ltb-false 0 (find (at_H5 m) s.processors) h.1));
    }
  where
    at_p : (p : ℕ) → In s.P p → (processor_at s p).mutex ≡ m → find (at_H5 m) s.processors ≡ 0 → same_line (processor_at s p).position H5 ≡ false
    at_p zero r i z = absurd (not-suc-le-zero r.0)
    at_p (suc p) r i z =
        and_false (same_line (processor_at s (suc p)).position H5) (eqb (processor_at s (suc p)).mutex m)
        (none_found (at_H5 m) s.processors z p nobody (omega (arith, g.processors))) (eq-eqb (processor_at s (suc p)).mutex m i)
