-- The test of a look number, at CI2 and elsewhere.
-- Assumes nothing.
use Prim.Native.Nat.{ℕ, ◌-◌, ◌*◌}
use mathlib.Core.Bool.{Bool}
use mathlib.Core.Path.{◌≡◌, refl, ap, sym, ◌∙◌}
use native.Mathlib.Decide.{dec_lt}
use native.Mathlib.Omega.{arith}
use lib.Dec.{eqb, leb}
use lib.ListN.{get_or}
use borrow.Author.Tests.{eqb-true, eq-eqb, ne_eqb, leb-true, le-leb}
use Rattle.reference.specs.Lists.{choose, each}
use Rattle.reference.specs.State.{App, lines, line_of, probes}
use Rattle.state.specs.Rules.{probe_ok}
use Rattle.reference.proofs.Each.{each_at}
use Rattle.state.proofs.Past.{read_past}
use Rattle.rules.proofs.Logic.{same_tests}

-- ---- the look number

-- line 1 is CI2
probes-line : (n : ℕ) → probes (line_of n) ≡ choose (eqb n 1) 1 0
unfolding line_of each
probes-line n =
    elim (dec_lt n 25) [
      | yes l ↦ eqb-true (probes (line_of n)) (choose (eqb n 1) 1 0) (each_at (λ n. eqb (probes (line_of n)) (choose (eqb n 1) 1 0)) 0 25 refl n (omega arith) (omega arith))
      | no l ↦ let e : get_or lines n App ≡ App = sym (read_past lines 25 n refl (omega arith) App) in ap probes e ∙ sym (ap (λ (b : Bool). choose {A = ℕ} b 1 0) (ne_eqb n 1 (omega arith)))
    ]

-- n is 0 exactly if it is at most 0
zero_test : (n : ℕ) → eqb n 0 ≡ leb n 0
zero_test n = same_tests (eqb n 0) (leb n 0) (λ e. le-leb n 0 (omega (arith, eqb-true n 0 e))) (λ e. eq-eqb n 0 (omega (arith, leb-true n 0 e)))

module _ (n position probe : ℕ) where
  at : (b : ℕ) → probes (line_of position) ≡ b → probe_ok n position probe ≡ leb probe ((n - 1) * b)
  at b e = ap (λ (x : ℕ). leb probe ((n - 1) * x)) e

  pub probe-here : position ≡ 1 → leb probe (n - 1) ≡ probe_ok n position probe
  probe-here p =
      let e : (n - 1) * 1 ≡ n - 1 = omega arith in
      sym (at 1 (probes-line position ∙ ap (λ (b : Bool). choose b 1 0) (eq-eqb position 1 p)) ∙ ap (leb probe) e)

  pub probe-away : (position ≡ 1 → ⊥) → eqb probe 0 ≡ probe_ok n position probe
  probe-away p =
      let e : (n - 1) * 0 ≡ 0 = omega arith in
      zero_test probe ∙ sym (at 0 (probes-line position ∙ ap (λ (b : Bool). choose b 1 0) (ne_eqb position 1 p)) ∙ ap (leb probe) e)
