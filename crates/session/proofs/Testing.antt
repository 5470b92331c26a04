-- What the journal's test finds, case by case: the shape in which its code arrives at it.
-- Assumes nothing.
use Prim.Native.Nat.{ℕ}
use mathlib.Core.Bool.{true, false}
use mathlib.Core.List.{List}
use mathlib.Core.Path.{◌≡◌, refl, sym, ap, ◌∙◌, subst}
use native.Mathlib.Nat.{le_refl}
use native.Mathlib.Omega.{arith}
use lib.ListN.{length, replicate}
use Rattle.std.specs.Prelude.{Option, Some, None, Ok, Err}
use Rattle.state.specs.declared.Session.{Session}
use Rattle.state.specs.declared.State.{State as Record}
use Rattle.state.specs.declared.refusal.Refusal.{Refusal}
use Rattle.state.specs.Association.{encode, decode}
use Rattle.state.specs.Refusal.{number}
use Rattle.state.proofs.Refused.{not_none}
use Rattle.reference.specs.Lists.{if_zero, tabulate}
use Rattle.reference.specs.Start.{start}
use Rattle.reference.specs.Step.{run}
use Rattle.reference.specs.Cause.{accepted}
use Rattle.reference.specs.Session.{moves, replays}
use Rattle.reference.proofs.Tests.{both_left}
use Rattle.session.specs.Contract.{Tested, tested_of, config_of, lent_refusal, standing, matches, test_refusal, progress_in, tested}
use Rattle.session.specs.Model.Replay.{counted_to, counted_in, farther, Replays}
use Rattle.state.proofs.Branch.{if_some}
use Rattle.session.proofs.Answers.{or_first, lent_passed, test_passed}
use Rattle.session.proofs.Counted.{calls_of, counted_is}
use Rattle.session.proofs.Found.{config-right, applied-most, kept_range, farther-standing}
use Rattle.session.proofs.Standing.{accepted-within}

module _ (r : Session) (j : List ℕ) where
  -- what is counted in the end, from the list as it was
  abbrev counts : List ℕ → List ℕ
  counts calls = if_zero (lent_refusal r (length j)) (counted_in r j calls) calls

  -- 10 or 15
  pub test_lent : (e : Refusal) → number e ≡ lent_refusal r (length j) → number e ≡ test_refusal r j
  unfolding test_refusal
  test_lent e is = or_first (number e) (lent_refusal r (length j)) _ is (not_none e)

  -- 16, or none, by what the replay of the standing moves found
  module _ (free : lent_refusal r (length j) ≡ 0) (o : Option Record) (h : Replays r j r.state.applied o) where
    pub counted_all : (calls after : List ℕ) → after ≡ counted_to r (farther r r.state.applied) j calls → after ≡ counts calls
    counted_all calls after are =
        are ∙ ap (λ (k : ℕ). counted_to r k j calls) (sym (farther-standing r r.state.applied (le_refl r.state.applied))) ∙ sym (rw free)

    pub test_mismatch : o ≡ None → 16 ≡ test_refusal r j
    unfolding test_refusal Replays
    test_mismatch e =
        let other : matches r j ≡ false = subst (Replays r j r.state.applied) e h in
        rw (free, other)

    pub test_agrees : (s : Record) → o ≡ Some s → 0 ≡ test_refusal r j
    unfolding test_refusal Replays
    test_agrees s e =
        let same : (matches r j ≡ true) × (s ≡ encode (run (start (config_of r)) (moves r.state.applied j))) = subst (Replays r j r.state.applied) e h in
        rw (free, same.0)

  -- what is answered: the number, and each thread's calls where there is none
  pub tested-number : (t : Tested) → t ≡ tested r j → t.refusal ≡ test_refusal r j
  unfolding tested
  tested-number t e = ap (λ (x : Tested). x.refusal) e

  pub tested-calls : test_refusal r j ≡ 0 → (tested r j).calls ≡ tabulate (progress_in r j) 0 33
  unfolding tested
  tested-calls free = rw free

  -- with each thread's calls: refused, none
  pub tested_refused : (e : Refusal) → number e ≡ test_refusal r j → tested_of (Err e) ≡ tested r j
  unfolding tested_of tested
  tested_refused e is = rw (← is, if_some (number e) _ _ (not_none e))

  module _ (passes : 0 ≡ test_refusal r j) where
    free : lent_refusal r (length j) ≡ 0
    free = (test_passed r j (sym passes)).0

    legal : accepted (start (config_of r)) (standing r j) ≡ true
    unfolding matches replays decode
    legal =
        accepted-within r.state.applied r.kept j (start (config_of r)) (kept_range r (lent_passed r (length j) free).1).0
        (both_left (accepted (start (config_of r)) (moves r.kept j)) _ (test_passed r j (sym passes)).1)

    counted-all : counted_in r j (replicate 33 0) ≡ calls_of (config_of r) (standing r j)
    unfolding decode
    counted-all =
        let h = lent_passed r (length j) free in
        counted_is (config_of r) (config-right r h.1) r.state.applied j (omega (arith, h.0, applied-most r h.1)) _ refl legal

    pub tested_passed : (calls : List ℕ) → calls ≡ counts (replicate 33 0) → tested_of (Ok calls) ≡ tested r j
    unfolding tested_of tested
    tested_passed calls are =
        let all : calls ≡ calls_of (config_of r) (standing r j) = are ∙ rw free counted-all in
        rw (← passes, all)
