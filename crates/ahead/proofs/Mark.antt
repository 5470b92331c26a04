-- The mark by the records of mutex and processors is the one of the state that the record shows.
-- Assumes nothing.
use Prim.Native.Nat.{ℕ, zero, suc}
use mathlib.Core.Bool.{Bool, true, false, ◌&&◌, ◌||◌, not, true≢false}
use mathlib.Core.Path.{◌≡◌, refl, ap, sym, ◌∙◌}
use native.Mathlib.Decide.{dec_lt}
use native.Mathlib.Omega.{arith}
use lib.Dec.{eqb, ltb}
use lib.ListN.{get_or}
use borrow.Author.Tests.{ne_eqb, lt-ltb}
use Rattle.state.specs.declared.Processor.{Processor}
use Rattle.state.specs.declared.State.{State}
use Rattle.state.specs.Record.{processor_of, mutex_of}
use Rattle.state.specs.Association.{decode, processor_shown, mutex_shown}
use Rattle.reference.specs.Lists.{find, each, tabulate}
use Rattle.reference.specs.State.{Line, App, H5, lines, line_of, same_line, free_mutex}
use Rattle.reference.specs.Safe.{In}
use Rattle.reference.proofs.Each.{each_at, each_agree}
use Rattle.reference.proofs.Sums.{tabulate-at}
use Rattle.state.proofs.Past.{read_past}
use Rattle.overtaking.specs.Ahead.{at_H5, overtakable}
use Rattle.ahead.specs.Model.Waiting.{offering, marked}

-- line 18 is H5, and no other is
line-H5 : (n : ℕ) → same_line (line_of n) H5 ≡ eqb n 18
unfolding line_of each
line-H5 n =
    elim (dec_lt n 25) [
      | yes l ↦ same_test (same_line (line_of n) H5) (eqb n 18) (each_at (λ n. same_bool (same_line (line_of n) H5) (eqb n 18)) 0 25 refl n (omega arith) (omega arith))
      | no l ↦ let e : get_or lines n App ≡ App = sym (read_past lines 25 n refl (omega arith) App) in ap (λ (l : Line). same_line l H5) e ∙ sym (ne_eqb n 18 (omega arith))
    ]
  where
    same_bool : Bool → Bool → Bool
    same_bool true b = b
    same_bool false b = not b

    same_test : (a b : Bool) → same_bool a b ≡ true → a ≡ b
    same_test true true e = refl
    same_test true false e = absurd (true≢false (sym e))
    same_test false true e = absurd (true≢false (sym e))
    same_test false false e = refl

-- a test finds one where not all fail it
module _ {A : Type 0} (test : A → Bool) (f : ℕ → A) where
  either : (b : Bool) (n : ℕ) → ltb 0 (elim b [ true ↦ 1 | false ↦ elim n [ zero ↦ 0 | suc i ↦ suc (suc i) ] ]) ≡ b || ltb 0 n
  either true n = refl
  either false zero = refl
  either false (suc n) = lt-ltb 0 (suc (suc n)) (omega arith) ∙ sym (lt-ltb 0 (suc n) (omega arith))

  de_morgan : (a b : Bool) → a || not b ≡ not (not a && b)
  de_morgan true b = refl
  de_morgan false b = refl

  pub found_some : (lo n : ℕ) → ltb 0 (find test (tabulate f lo n)) ≡ not (each (λ i. not (test (f i))) lo n)
  unfolding find tabulate each
  found_some lo zero = refl
  found_some lo (suc n) =
      either (test (f lo)) (find test (tabulate f (suc lo) n)) ∙ ap (λ (b : Bool). test (f lo) || b) (found_some (suc lo) n) ∙
      de_morgan (test (f lo)) (each (λ i. not (test (f i))) (suc lo) n)

at_H5-shown : (m : ℕ) (x : Processor) → at_H5 m (processor_shown x) ≡ offering m x
at_H5-shown m x = ap (λ (b : Bool). b && eqb x.mutex m) (line-H5 x.position)

pub mark-shown : (r : State) (m : ℕ) → In (decode r).M m → marked r m ≡ overtakable (decode r) m
unfolding marked overtakable decode
mark-shown r m i =
    rw (tabulate-at (mutex_shown r) r.m m free_mutex i, found_some (at_H5 m) (λ p. processor_shown (processor_of r p)) 1 r.p)
    (ap (λ (b : Bool). ltb 0 (mutex_of r m).token.processor || not b)
    (each_agree (λ p. not (offering m (processor_of r p))) (λ p. not (at_H5 m (processor_shown (processor_of r p)))) 1 r.p (λ p l. ap not (sym (at_H5-shown m (processor_of r p))))))
