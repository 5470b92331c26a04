-- The record of a reached state keeps the rules, shows that state and is pictured by the state's picture.
-- Assumes nothing.
use Prim.Native.Nat.{ℕ, ◌≤◌}
use mathlib.Core.Bool.{true}
use mathlib.Core.List.{List}
use mathlib.Core.Path.{◌≡◌, sym, ◌∙◌, subst}
use native.Mathlib.Omega.{arith}
use lib.ListN.{length}
use borrow.Author.Tests.{le-ltb}
use Rattle.state.specs.Association.{encode, decode, session_record}
use Rattle.state.specs.Rules.{state_ok, session_ok}
use Rattle.state.specs.Allowed.{Allowed}
use Rattle.reference.specs.Start.{Config, config_cause, start}
use Rattle.reference.specs.Step.{Move}
use Rattle.reference.specs.Cause.{accepted}
use Rattle.reference.specs.Picture.{picture}
use Rattle.reference.specs.Lists.{with_front}
use Rattle.reference.specs.Session.{state_of, picture_size}
use Rattle.reference.specs.Safe.{In}
use Rattle.reference.proofs.Start.{ranges}
use Rattle.reference.proofs.Laws.{sized, applied-is}
use Rattle.shown.proofs.Decode.{decode-encode, encode-ok}
use Rattle.shown.proofs.Reached.{reached-allowed}
use Rattle.shown.proofs.Unique.{session_record-ok}
use Rattle.picture.specs.Picture.{picture_length, write_refusal, written}
use Rattle.picture.proofs.Written as writing

module _ (c : Config) (ms : List Move) (right : config_cause c ≡ 0) (ok : accepted (start c) ms ≡ true) where
  allowed : Allowed (state_of c ms)
  allowed = reached-allowed c right ms ok

  pub record_right : (k : ℕ) → length ms ≤ k → k ≤ 4000 → session_ok (session_record (state_of c ms) c.B k) ≡ true
  record_right k low high =
      session_record-ok (state_of c ms) c.B k allowed (subst (λ (n : ℕ). In n c.B) (sym (sized c ms).1) (ranges c right).created)
      (omega (arith, applied-is c ms)) high

  pub state-right : state_ok (encode (state_of c ms)) ≡ true
  state-right = encode-ok (state_of c ms) allowed

  pub state-back : decode (encode (state_of c ms)) ≡ state_of c ms
  state-back = decode-encode (state_of c ms) allowed

  -- how long its picture is
  pub length_is : picture_length (encode (state_of c ms)) ≡ picture_size c
  unfolding encode
  length_is = let z = sized c ms in omega (arith, z.0, z.1, z.2)

  pub picture-long : length (picture (state_of c ms)) ≡ picture_size c
  picture-long = rw state-back at (writing.picture_size (encode (state_of c ms))) ∙ length_is

  module _ (b : List ℕ) (room : picture_size c ≤ length b) where
    pub fits : write_refusal (encode (state_of c ms)) (length b) ≡ 0
    fits = rw (state-right, le-ltb (length b) (picture_length (encode (state_of c ms))) (omega (arith, length_is)))

    pub pictured : written (encode (state_of c ms)) b ≡ with_front b (picture (state_of c ms))
    unfolding written
    pictured = rw (fits, state-back, length_is ∙ sym picture-long)
