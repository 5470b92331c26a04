-- An accepted call's record is a session's, and its bytes fit where those of the session before it stood.
-- Assumes nothing.
use Prim.Native.Nat.{ℕ, ◌+◌, ◌≤◌}
use mathlib.Core.Bool.{true}
use mathlib.Core.List.{List, []}
use mathlib.Core.Path.{◌≡◌, refl, sym, ap, subst, ◌∙◌}
use native.Mathlib.Omega.{arith}
use lib.ListN.{length}
use lib.Seq.{get_or-take}
use borrow.Author.Tests.{eq-eqb}
use Rattle.state.specs.declared.Session.{Session}
use Rattle.state.specs.Record.{Sized}
use Rattle.state.specs.Rules.{session_ok}
use Rattle.reference.specs.Start.{Config, config_cause, start}
use Rattle.reference.specs.Step.{Move, run}
use Rattle.reference.specs.Cause.{accepted}
use Rattle.reference.specs.Picture.{picture_bytes}
use Rattle.reference.specs.Session.{Listed, standing as standing-of, state_in, picture_size}
use Rattle.reference.proofs.Moves.{accepted-length}
use Rattle.shown.proofs.Unique.{encode_sized}
use Rattle.picture.specs.Picture.{picture_length, byte, fields, read}
use Rattle.session.specs.Contract.{config_of, started, test_refusal, move_refusal, moved, went}
use Rattle.session.proofs.Answers.{or_passed, lent_passed, test_passed}
use Rattle.session.proofs.Holding.{Holds, Agree, move-agrees, move_leaves, goto_passed, goto-agrees, goto_leaves, standing-legal, standing-long}
use Rattle.session.proofs.Shown.{record_right, length_is}
use Rattle.reference.specs.Script.{scripts_cause}
use Rattle.turns.specs.Contract.{turn_made, turn_refusal, turned}
use Rattle.stored.specs.Stored.{picture_end, picture_in, session_in}
use Rattle.stored.specs.Model.Writable.{Writable}
use Rattle.stored.proofs.RoundTrip.{fronted}

-- what the reference session holds shows in a session's record, as long as the table has it
module _ (c : Config) (right : config_cause c ≡ 0) (l : Listed) (r : Session) (j : List ℕ) (h : Holds c l r j) where
  held-valid : session_ok r ≡ true
  unfolding start
  held-valid =
      ap session_ok h.shows ∙
      record_right c (standing-of l) right (standing-legal c right l r j h) (length l.kept) (omega (arith, standing-long c right l r j h, h.within))
      (omega (arith, accepted-length l.kept (start c) (omega arith) h.legal))

  held-long : picture_length r.state ≡ picture_size c
  held-long = ap (λ (x : Session). picture_length x.state) h.shows ∙ length_is c (standing-of l) right (standing-legal c right l r j h)

  held_sized : Sized r.state
  held_sized = subst (λ (x : Session). Sized x.state) (sym h.shows) (encode_sized (state_in c l))

-- a record that an accepted call leaves in the bytes b
pub record Left (n : Session) (b : List ℕ) : Type 0 where
  pub writable : Writable n b
  pub sized : Sized n.state

-- the picture at the front of a session's bytes ends where its state's does
module _ (b : List ℕ) (e : session_ok (session_in b) ≡ true) where
  front_long : picture_length (session_in b).state ≡ picture_end b
  unfolding read fields
  front_long =
      let f = fronted b e in
      let size : (i : ℕ) → i ≤ 2 → byte (picture_in b) i ≡ byte b i = λ i h. get_or-take (picture_end b) b i 0 (omega arith) in
      ap (λ (x : Session). picture_length x.state) f.is ∙ rw f.reads (λ i. picture_bytes (size 0 (omega arith) i) (size 1 (omega arith) i) (size 2 (omega arith) i))

  held-left : (n : Session) (j : List ℕ) (l : Listed) → config_cause (config_of (session_in b)) ≡ 0 → Holds (config_of (session_in b)) l n j → Left n b
  held-left n j l right h =
      let long = held-long (config_of (session_in b)) right l n j h in
      record {
        writable = record { valid = held-valid (config_of (session_in b)) right l n j h; fits = omega (arith, long, front_long, (fronted b e).fits) };
        sized = held_sized (config_of (session_in b)) right l n j h;
      }

-- what a move, a turn and going leave
module _ (b j : List ℕ) where
  abbrev r : Session
  r = session_in b

  move-made : (a : Move) → move_refusal r j a ≡ 0 → Left (moved r j a).session b
  unfolding move_refusal
  move-made a e =
      let t : Agree r j = move-agrees r j a e in
      held-left b (lent_passed r (length j) (test_passed r j (or_passed (test_refusal r j) _ e).0).0).1 _ _ _ t.config (move_leaves r j t a e).0

  pub move-left : (a : Move) → (moved r j a).refusal ≡ 0 → Left (moved r j a).session b
  unfolding moved
  move-left a e = move-made a e

  -- a turn's record is its move's
  pub turn-left : (x : List ℕ) (p : ℕ) → (turned r j x p).refusal ≡ 0 → Left (turned r j x p).session b
  unfolding turned turn_refusal
  turn-left x p e =
      rw (eq-eqb (turn_refusal r j x p) 0 e)
      (move-made (turn_made r j x p) (or_passed (scripts_cause r.state.t x) _ (or_passed (test_refusal r j) _ e).1).1)

  pub goto-left : (k : ℕ) → (went r j k).refusal ≡ 0 → Left (went r j k).session b
  unfolding went
  goto-left k e =
      let t : Agree r j = goto-agrees r j k e in
      held-left b (lent_passed r (length j) (goto_passed r j k e).0).1 _ _ _ t.config (goto_leaves r j t k e).0

-- what a start leaves
pub start_left : (c : Config) (b : List ℕ) → config_cause c ≡ 0 → picture_size c + 3 ≤ length b → Left (started c).session b
unfolding started accepted run
start_left c b right room =
    rw right
    (record {
      writable = record { valid = record_right c [] right refl 0 (omega arith) (omega arith); fits = omega (arith, length_is c [] right refl) };
      sized = encode_sized (start c);
    })
