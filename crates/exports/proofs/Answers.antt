-- What a replay answers, case by case: the shape in which its code arrives at it.
-- Assumes nothing.
use Prim.Native.Nat.{ℕ, zero, suc}
use mathlib.Core.Bool.{true}
use mathlib.Core.List.{List, ◌++◌}
use mathlib.Core.Path.{◌≡◌, refl, sym, ap, ◌∙◌}
use lib.ListN.{length, drop}
use Rattle.exports.specs.Replay.{whole, replay_refusal, replay_buffer}
use Rattle.exports.specs.Model.Replayed.{Reached, Replays}
use Rattle.exports.proofs.Tried.{later_first}
use Rattle.std.proofs.Common.{Ok, Err}
use Rattle.state.specs.declared.refusal.Refusal.{Refusal}
use Rattle.state.specs.Refusal.{number}
use Rattle.state.proofs.Refused.{not_none}
use Rattle.state.specs.declared.State.{State as Record}
use Rattle.state.specs.Association.{encode, decode}
use Rattle.state.specs.Rules.{state_ok}
use Rattle.shown.proofs.Decode.{decode-encode, encode-ok}
use Rattle.picture.specs.Picture.{picture_length, write_refusal, written}
use Rattle.picture.proofs.Written.{picture_size}
use Rattle.reference.specs.Lists.{if_zero}
use Rattle.reference.specs.State.{State}
use Rattle.reference.specs.Start.{Config, config_cause}
use Rattle.reference.specs.Picture.{picture}

module _ (c : Config) (moves buffer : List ℕ) where
  -- refused, the buffer stays
  pub stopped : (e : Refusal) → Replays c moves (Err e) → (number e ≡ replay_refusal c moves (length buffer)) × (buffer ≡ replay_buffer c moves buffer)
  unfolding Replays replay_refusal replay_buffer
  stopped e h =
      let n : number e ≡ replay_refusal c moves (length buffer) = sym (later_first (config_cause c) (whole c moves).refusal _ (number e) h (not_none e)) in
      (n, rw (← n) (by (number e) (not_none e)))
    where
      by : (n : ℕ) → (n ≡ 0 → ⊥) → buffer ≡ if_zero n (picture (whole c moves).state ++ drop (length (picture (whole c moves).state)) buffer) buffer
      by zero z = absurd (z refl)
      by (suc n) z = refl

  module _ (s : Record) (h : Replays c moves (Ok s)) where
    found : Reached c moves s
    unfolding Replays
    found = h

    abbrev end : State
    end = (whole c moves).state

    -- the buffer, where n refuses and the picture of s is l bytes long
    abbrev with_picture : ℕ → State → ℕ → List ℕ
    with_picture n s l = if_zero n (picture s ++ drop l buffer) buffer

    shown : decode (encode end) ≡ end
    shown = decode-encode end found.allowed

    right_state : state_ok (encode end) ≡ true
    right_state = encode-ok end found.allowed

    long : picture_length (encode end) ≡ length (picture end)
    long = sym (picture_size (encode end)) ∙ ap (λ (s : State). length (picture s)) shown

    number_end : write_refusal (encode end) (length buffer) ≡ replay_refusal c moves (length buffer)
    unfolding replay_refusal
    number_end = rw (right_state, long, found.right, found.refusal)

    buffer_end : written (encode end) buffer ≡ replay_buffer c moves buffer
    unfolding written replay_buffer
    buffer_end = λ i. with_picture (number_end i) (shown i) (long i)

    pub all_taken : (write_refusal s (length buffer) ≡ replay_refusal c moves (length buffer)) × (written s buffer ≡ replay_buffer c moves buffer)
    all_taken = (
      ap (λ (x : Record). write_refusal x (length buffer)) found.state ∙ number_end,
      ap (λ (x : Record). written x buffer) found.state ∙ buffer_end,
    )
