-- What going to a step answers, case by case: the shape in which its code arrives at it.
-- Assumes nothing.
use Prim.Native.Nat.{ℕ, ◌≤◌, ◌<◌}
use mathlib.Core.Bool.{true, false}
use mathlib.Core.List.{List}
use mathlib.Core.Path.{◌≡◌, subst}
use lib.ListN.{length}
use borrow.Author.Tests.{lt-ltb, le-ltb, ne_eqb}
use Rattle.std.specs.Prelude.{Option, Some, None, Ok, Err}
use Rattle.state.specs.declared.Session.{Session}
use Rattle.state.specs.declared.State.{State as Record}
use Rattle.state.specs.declared.refusal.Refusal.{Refusal}
use Rattle.state.specs.declared.refusal.Refusal.TheVariants.{NoStep, BadJournal}
use Rattle.state.specs.Association.{encode}
use Rattle.state.specs.Refusal.{number}
use Rattle.state.proofs.Refused.{not_none}
use Rattle.reference.specs.Start.{start}
use Rattle.reference.specs.Step.{run}
use Rattle.reference.specs.Session.{moves}
use Rattle.session.specs.Contract.{config_of, answer_of, lent_refusal, matches, goto_refusal, went}
use Rattle.session.specs.Model.Replay.{Replays}
use Rattle.session.proofs.Answers.{or_first}

module _ (r : Session) (j : List ℕ) (k : ℕ) where
  goto-refused : (e : Refusal) → number e ≡ goto_refusal r j k → answer_of r (Err e) ≡ went r j k
  unfolding went answer_of
  goto-refused e is = rw (← is, ne_eqb (number e) 0 (not_none e))

  pub goto_lent : (e : Refusal) → number e ≡ lent_refusal r (length j) → answer_of r (Err e) ≡ went r j k
  unfolding goto_refusal
  goto_lent e is = goto-refused e (or_first (number e) (lent_refusal r (length j)) _ is (not_none e))

  module _ (free : lent_refusal r (length j) ≡ 0) where
    pub goto_none : r.kept < k → answer_of r (Err NoStep) ≡ went r j k
    unfolding goto_refusal number
    goto_none h = goto-refused NoStep (rw (free, lt-ltb r.kept k h))

    module _ (within : k ≤ r.kept) where
      -- by what the replay found
      pub goto_mismatch : (o : Option Record) → Replays r j k o → o ≡ None → answer_of r (Err BadJournal) ≡ went r j k
      unfolding goto_refusal number Replays
      goto_mismatch o h e =
          let other : matches r j ≡ false = subst (Replays r j k) e h in
          goto-refused BadJournal (rw (free, le-ltb r.kept k within, other))

      pub goto_taken : (o : Option Record) → Replays r j k o → (s : Record) → o ≡ Some s →
          answer_of r (Ok (record { state = s; initial = r.initial; kept = r.kept })) ≡ went r j k
      unfolding went goto_refusal answer_of Replays
      goto_taken o h s e =
          let same : (matches r j ≡ true) × (s ≡ encode (run (start (config_of r)) (moves k j))) = subst (Replays r j k) e h in
          rw (free, le-ltb r.kept k within, same.0, same.1)
