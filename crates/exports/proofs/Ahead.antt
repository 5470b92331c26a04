-- Turns ahead in a picture, case by case: the shape in which its code arrives at it.
-- Assumes nothing.
use Prim.Native.Nat.{ℕ, zero, suc, ◌+◌}
use mathlib.Core.Bool.{true, not}
use mathlib.Core.List.{List}
use mathlib.Core.Path.{◌≡◌, refl, sym, ap, ◌∙◌}
use Rattle.std.proofs.Common.{Result, Ok, Err, Option, Some, None}
use Rattle.std.specs.Option.{unwrap_or}
use Rattle.picture.specs.Picture.{Bytes, byte, fields, read_refusal, Read, read, read_shown}
use Rattle.picture.specs.Turns.{Ahead, Turns, NotWaiting, Refused, turns_ahead, ahead, turns_shown, ahead_shown}
use Rattle.picture.proofs.RoundTrip.{read_keeps}
use Rattle.state.specs.declared.State.{State as Record}
use Rattle.state.specs.declared.refusal.Refusal.{Refusal}
use Rattle.state.specs.Refusal.{number, outcome}
use Rattle.state.specs.Association.{decode}
use Rattle.state.specs.Rules.{state_ok}
use Rattle.state.proofs.Refused.{not_none}
use Rattle.reference.specs.Refusal.{refuse}
use Rattle.reference.specs.Lists.{if_zero, in_range}
use Rattle.session.specs.Contract.{or_later}
use Rattle.exports.specs.Turns.{number_of, ahead_refusal, ahead_answer}
use Rattle.exports.specs.Model.Answers.{small_number}

-- the number that reading a picture gets
pub read_number : (b : List ℕ) (r : Result Record Refusal) → read_shown r ≡ read b → outcome r ≡ read_refusal b
unfolding outcome read_shown read
read_number b (Ok s) h = ap (λ (x : Read). x.refusal) h
read_number b (Err e) h = ap (λ (x : Read). x.refusal) h

pub picture-refused : (b : List ℕ) (k : ℕ) (e : Refusal) → read_shown (Err e) ≡ read b → small_number (Err e) ≡ ahead_answer b k
unfolding read_shown read small_number ahead_answer ahead_refusal
picture-refused b k e h =
    let n : number e ≡ read_refusal b = ap (λ (x : Read). x.refusal) h in rw (← n) (by (number e) (not_none e))
  where
    later : ℕ
    later = refuse (not (in_range 1 (byte b 1) k)) 3 0

    by : (n : ℕ) → (n ≡ 0 → ⊥) → 200 + n ≡ number_of (if_zero (or_later n later) (turns_ahead (decode (fields b)) k) (Refused (or_later n later)))
    by zero z = absurd (z refl)
    by (suc n) z = refl

module _ (b : List ℕ) (w : Bytes b) (s : Record) (is : read_shown (Ok s) ≡ read b) (k : ℕ) where
  none : (read b).refusal ≡ 0
  unfolding read_shown
  none = sym (ap (λ (x : Read). x.refusal) is)

  number-is : read_refusal b ≡ 0
  unfolding read
  number-is = none

  state-is : s ≡ fields b
  unfolding read_shown read
  state-is = ap (λ (x : Read). x.state) is ∙ rw number-is

  kept : state_ok (fields b) ≡ true
  unfolding read_shown
  kept = ap state_ok (sym state-is ∙ ap (λ (x : Read). x.state) is) ∙ read_keeps b w none

  threads : (fields b).t ≡ byte b 1
  unfolding fields
  threads = refl

  ahead-is : ahead (fields b) k ≡ if_zero (ahead_refusal b k) (turns_ahead (decode (fields b)) k) (Refused (ahead_refusal b k))
  unfolding ahead ahead_refusal
  ahead-is = rw (kept, number-is, threads)

  number_of_is : (a : Ahead) → a ≡ ahead s k → number_of a ≡ ahead_answer b k
  unfolding ahead_answer
  number_of_is a e = ap number_of (e ∙ ap (λ (x : Record). ahead x k) state-is ∙ ahead-is)

  pub thread-refused : (e : Refusal) → ahead_shown (Err e) ≡ ahead s k → small_number (Err e) ≡ ahead_answer b k
  unfolding ahead_shown small_number
  thread-refused e h = number_of_is (Refused (number e)) h

  pub turns_are : (turns : Option ℕ) → ahead_shown (Ok turns) ≡ ahead s k → small_number (Ok (unwrap_or turns 100)) ≡ ahead_answer b k
  unfolding ahead_shown turns_shown small_number
  turns_are (Some n) h = number_of_is (Turns n) h
  turns_are None h = number_of_is NotWaiting h
