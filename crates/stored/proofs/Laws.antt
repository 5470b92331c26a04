-- The laws of sessions kept as bytes.
-- Assumes nothing.
use Prim.Native.Nat.{ℕ, ◌+◌}
use mathlib.Core.Bool.{Bool, true, false}
use mathlib.Core.List.{List}
use mathlib.Core.Path.{◌≡◌, refl, sym}
use lib.Dec.{eqb, ltb}
use lib.ListN.{length, drop}
use borrow.Author.Tests.{eqb-true, eq-eqb, ltb-false}
use Rattle.state.specs.declared.Session.{Session}
use Rattle.reference.specs.Start.{config_cause}
use Rattle.reference.specs.Session.{picture_size}
use Rattle.reference.proofs.Tests.{passed}
use Rattle.session.specs.Contract.{started, move_refusal, moved, goto_refusal, went}
use Rattle.session.proofs.Answers.{or_passed}
use Rattle.turns.specs.Contract.{turn_refusal, turned}
use Rattle.stored.specs.Stored.{session_bytes, session_in, bytes_after}
use Rattle.stored.specs.Calls.{start_number, start_bytes, move_bytes, turn_bytes, goto_bytes}
use Rattle.stored.specs.Laws.{Laws}
use Rattle.stored.proofs.RoundTrip.{reads_back, writes_back}
use Rattle.stored.proofs.Sessions.{begins, is_session, refused}
use Rattle.stored.proofs.Valid.{Left, start_left, move-left, turn-left, goto-left}

-- what a call leaves is read again: accepted, the record that was written; refused, the one that stood there
kept : (b : List ℕ) (n : ℕ) (x : Session) → (n ≡ 0 → Left x b) → (eqb n 0 ≡ false → x ≡ session_in b) → session_in (bytes_after b n x) ≡ x
kept b n x h k = go (eqb n 0) refl
  where
    go : (t : Bool) → eqb n 0 ≡ t → session_in (bytes_after b n x) ≡ x
    go true e =
        let w = h (eqb-true n 0 e) in
        rw e (reads_back x w.sized w.writable.valid (drop (length (session_bytes x)) b))
    go false e = rw e (sym (k e))

pub laws : Laws
unfolding start_bytes move_bytes turn_bytes goto_bytes moved turned went
laws =
    record {
      sessions = λ b w. (begins b, is_session b w);
      refused = refused;
      reads_back = λ r v rest. reads_back r v.0 v.1 rest;
      writes_back = writes_back;
      start = λ c b e.
          let p = or_passed (config_cause c) _ e in
          let w = start_left c b p.0 (ltb-false (length b) (picture_size c + 3) (passed (ltb (length b) (picture_size c + 3)) _ _ p.1).0) in
          rw (eq-eqb (start_number c (length b)) 0 e) (reads_back (started c).session w.sized w.writable.valid (drop (length (session_bytes (started c).session)) b));
      move = λ b j a. kept b (move_refusal (session_in b) j a) (moved (session_in b) j a).session (move-left b j a) (λ h. rw h);
      turn = λ b j x p. kept b (turn_refusal (session_in b) j x p) (turned (session_in b) j x p).session (turn-left b j x p) (λ h. rw h);
      goto = λ b j k. kept b (goto_refusal (session_in b) j k) (went (session_in b) j k).session (goto-left b j k) (λ h. rw h);
    }
