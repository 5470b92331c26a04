-- What a class answers, case by case: the shape in which its code arrives at it.
-- Assumes nothing.
use Prim.Native.Nat.{ℕ}
use mathlib.Core.Bool.{false, not}
use mathlib.Core.List.{List, []}
use mathlib.Core.Path.{◌≡◌, refl, sym, ap, ◌∙◌}
use lib.Dec.{eqb}
use lib.ListN.{length}
use Rattle.std.proofs.Common.{Result, Ok, Err}
use Rattle.exports.specs.Class.{class_number, class_answered, class_pictured}
use Rattle.exports.proofs.Tried.{later_first}
use Rattle.state.specs.declared.refusal.Refusal.{Refusal}
use Rattle.state.specs.Refusal.{number, outcome}
use Rattle.state.specs.Record.{zero_session}
use Rattle.state.proofs.Refused.{numbered, not_none}
use Rattle.state.specs.declared.Session.{Session}
use Rattle.reference.specs.Refusal.{refuse}
use Rattle.reference.specs.Lists.{choose, with_front}
use Rattle.reference.specs.Start.{Config, config_cause}
use Rattle.reference.specs.Step.{run}
use Rattle.reference.specs.Cause.{accepted}
use Rattle.reference.specs.Script.{scripts_cause, class_answers, class_pictures}
use Rattle.reference.specs.Session.{bytes, all_standing, short, lacks_room}
use Rattle.session.specs.Contract.{Answer, answer_of, config_of, or_later, standing}
use Rattle.session.proofs.Answers.{or_passed}
use Rattle.session.proofs.Holding.{Holds, holds_all, config-is, standing-is}
use Rattle.session.proofs.Numbers.{lent-number, own-replays}
use Rattle.turns.specs.Contract.{scripted, class_refusal, classed, answers_after, pictures_after}

-- number, and both buffers afterwards
pub record Classed (c : Config) (x ps answers pictures : List ℕ) (n : ℕ) (answers' pictures' : List ℕ) : Type 0 where
  pub number : n ≡ class_number c x ps answers pictures
  pub numbers : answers' ≡ class_answered c x ps answers pictures
  pub pictured : pictures' ≡ class_pictured c x ps answers pictures

number_of : (r : Session) (d : Result Session Refusal) → outcome d ≡ (answer_of r d).refusal
unfolding outcome answer_of
number_of r (Ok s) = refl
number_of r (Err e) = refl

module _ (c : Config) (x ps answers pictures : List ℕ) where
  -- 1 or 19
  pub class_unbegun : (e : Refusal) → answer_of zero_session (Err e) ≡ scripted c x → Classed c x ps answers pictures (number e) answers pictures
  unfolding answer_of scripted class_answered class_pictured class_number
  class_unbegun e h =
      let cause : number e ≡ or_later (config_cause c) (scripts_cause c.T x) = ap (λ (b : Answer). b.refusal) h in
      let is : number e ≡ class_number c x ps answers pictures = sym (later_first (config_cause c) (scripts_cause c.T x) _ (number e) cause (not_none e)) in
      record { number = is; numbers = rw (← is, numbered e); pictured = rw (← is, numbered e) }

  module _ (r : Session) (e : answer_of zero_session (Ok r) ≡ scripted c x) where
    cause-is : 0 ≡ or_later (config_cause c) (scripts_cause c.T x)
    unfolding answer_of scripted
    cause-is = ap (λ (b : Answer). b.refusal) e

    module _ (j : List ℕ) (long : short (length j) ≡ false) where
      free : (config_cause c ≡ 0) × (scripts_cause c.T x ≡ 0)
      free = or_passed (config_cause c) (scripts_cause c.T x) (sym cause-is)

      right : config_cause c ≡ 0
      right = free.0

      -- the record and any journal are those of the empty list
      holds : Holds c (all_standing []) r j
      unfolding answer_of scripted run accepted bytes
      holds = holds_all c [] r j (ap (λ (b : Answer). b.session) e ∙ rw (← cause-is)) refl refl

      table_is : config_of r ≡ c
      table_is = config-is c right (all_standing []) r j holds

      moves_are : standing r j ≡ []
      moves_are = standing-is c right (all_standing []) r j holds

      -- 10 by the buffers is the only cause left
      number_is : class_refusal r j x ps answers pictures ≡ class_number c x ps answers pictures
      unfolding class_refusal class_number
      number_is =
          lent-number c right (all_standing []) r j holds (length j) _ ∙
          (λ i.
          refuse (long i) 10
          (refuse (lacks_room (table_is i) (length ps) answers pictures) 10
          (refuse (not (own-replays c right (all_standing []) r j holds i)) 16 (scripts_cause (table_is i).T x)))) ∙
          rw (free.0, free.1)

      pub class-done : (d : Result Session Refusal) (answers' pictures' : List ℕ) → answer_of r d ≡ classed r j x ps answers pictures →
          answers' ≡ answers_after r j x ps answers pictures → pictures' ≡ pictures_after r j x ps answers pictures →
          Classed c x ps answers pictures (outcome d) answers' pictures'
      unfolding classed answers_after pictures_after class_answered class_pictured
      class-done d answers' pictures' is numbers pictured =
          record {
            number = number_of r d ∙ ap (λ (b : Answer). b.refusal) is ∙ number_is;
            numbers = numbers ∙ (λ i. choose (eqb (number_is i) 0) (with_front answers (class_answers (table_is i) x (moves_are i) ps)) answers);
            pictured = pictured ∙ (λ i. choose (eqb (number_is i) 0) (with_front pictures (class_pictures (table_is i) x (moves_are i) ps)) pictures);
          }
