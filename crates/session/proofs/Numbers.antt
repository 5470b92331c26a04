-- A record and a journal that have come from the reference session: the numbers of a move and of going, whatever journal is lent.
-- Assumes nothing.
use Prim.Native.Nat.{ℕ, zero, suc, ◌≤◌}
use mathlib.Core.Bool.{Bool, true, false, not}
use mathlib.Core.List.{List}
use mathlib.Core.Path.{◌≡◌, refl, sym, ap, ◌∙◌, subst}
use native.Mathlib.Omega.{arith}
use lib.Dec.{ltb}
use lib.ListN.{length}
use Rattle.state.specs.Rules.{session_ok}
use Rattle.state.specs.declared.Session.{Session}
use Rattle.reference.specs.Refusal.{refuse}
use Rattle.reference.specs.Start.{Config, config_cause, start}
use Rattle.reference.specs.Step.{Move}
use Rattle.reference.specs.Cause.{cause, accepted}
use Rattle.reference.specs.Session.{short, replays, Listed, standing, state_in}
use Rattle.reference.proofs.Same.{same_state_exact}
use Rattle.reference.proofs.Moves.{accepted-length}
use Rattle.session.specs.Contract.{lent_refusal, or_later, matches, test_refusal, move_refusal, goto_refusal}
use Rattle.session.proofs.Reached.{never_broken}
use Rattle.session.proofs.Standing.{moves_front, moves-take}
use Rattle.session.proofs.Shown.{record_right}
use Rattle.session.proofs.Holding.{Holds, standing-legal, standing-long, shown-is, config-is, applied-held, kept-held}

pub or_refuse : (b : Bool) (k n : ℕ) → or_later (refuse b (suc k) 0) n ≡ refuse b (suc k) n
or_refuse true k n = refl
or_refuse false k n = refl

-- three causes one after the other
or_later_or : (x y z : ℕ) → or_later (or_later x y) z ≡ or_later x (or_later y z)
or_later_or zero y z = refl
or_later_or (suc x) y z = refl

module _ (c : Config) (right : config_cause c ≡ 0) (l : Listed) (r : Session) (j : List ℕ) (h : Holds c l r j) where
  legal : accepted (start c) (standing l) ≡ true
  legal = standing-legal c right l r j h

  few : length l.kept ≤ 4000
  unfolding start
  few = omega (arith, accepted-length l.kept (start c) (omega arith) h.legal)

  keeps_rules : session_ok r ≡ true
  keeps_rules =
      subst (λ (x : Session). session_ok x ≡ true) (sym h.shows)
      (record_right c (standing l) right legal (length l.kept) (omega (arith, standing-long c right l r j h, h.within)) few)

  -- 10 is the only first cause
  pub lent-number : (size n : ℕ) → or_later (lent_refusal r size) n ≡ refuse (short size) 10 n
  unfolding lent_refusal
  lent-number size n = rw keeps_rules (or_refuse (short size) 9 n)

  -- the test of the session's own journal, and of any that is lent
  pub replayed_is : (o : List ℕ) → matches r o ≡ replays (start c) (length l.kept) l.n o (state_in c l)
  unfolding matches
  replayed_is o = λ i. replays (start (config-is c right l r j h i)) (kept-held c right l r j h i) (applied-held c right l r j h i) o (shown-is c right l r j h i)

  pub own-replays : matches r j ≡ true
  unfolding replays
  own-replays =
      replayed_is j ∙
      rw (← moves-take l.n (length l.kept) j h.within, moves_front l.kept j h.whole, h.legal) (same_state_exact.itself (state_in c l))

  -- 10 and 16 are those of the test
  pub test_number : (o : List ℕ) (n : ℕ) → or_later (test_refusal r o) n ≡ refuse (short (length o)) 10 (refuse (not (matches r o)) 16 n)
  unfolding test_refusal
  test_number o n =
      or_later_or (lent_refusal r (length o)) (refuse (not (matches r o)) 16 0) n ∙ lent-number (length o) _ ∙
      ap (refuse (short (length o)) 10) (or_refuse (not (matches r o)) 15 n)

  pub move-number : (o : List ℕ) (a : Move) → move_refusal r o a ≡ refuse (short (length o)) 10 (refuse (not (matches r o)) 16 (cause (state_in c l) a))
  unfolding move_refusal
  move-number o a =
      test_number o _ ∙
      ap (λ (n : ℕ). refuse (short (length o)) 10 (refuse (not (matches r o)) 16 n)) (rw (shown-is c right l r j h) (never_broken c (standing l) right legal a))

  pub goto-number : (o : List ℕ) (k : ℕ) → goto_refusal r o k ≡ refuse (short (length o)) 10 (refuse (ltb (length l.kept) k) 9 (refuse (not (matches r o)) 16 0))
  unfolding goto_refusal
  goto-number o k =
      lent-number (length o) _ ∙
      ap (λ (n : ℕ). refuse (short (length o)) 10 (refuse (ltb n k) 9 (refuse (not (matches r o)) 16 0))) (kept-held c right l r j h)
