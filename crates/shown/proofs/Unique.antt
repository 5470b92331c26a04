-- A record that keeps the rules shows one state, which is allowed, and an allowed state is shown by one such record; what is known of a session's record.
-- Assumes nothing.
use Prim.Native.Nat.{ℕ, ◌≤◌}
use mathlib.Core.Bool.{Bool, true, ◌&&◌}
use mathlib.Core.Path.{◌≡◌, ap, sym, ◌∙◌}
use Rattle.state.specs.declared.Session.{Session}
use Rattle.state.specs.Association.{encode, decode, queue_at, thread_row, processor_record, mutex_record, session_record}
use Rattle.state.specs.Rules.{state_ok, session_ok}
use Rattle.state.specs.Allowed.{Allowed}
use Rattle.state.specs.Record.{Sized}
use Rattle.reference.specs.Lists.{in_range}
use Rattle.reference.specs.State as reference
use Rattle.reference.specs.State.{processor_at, mutex_at}
use Rattle.reference.specs.Picture.{first}
use Rattle.reference.specs.Safe.{In}
use Rattle.reference.proofs.Tests.{both, both_left, both_right, range_true, true_range}
use Rattle.reference.proofs.Sums.{length-tabulate}
use Rattle.shown.specs.Unique.{OneToOne}
use Rattle.shown.proofs.Encode.{encode-decode, decode-allowed}
use Rattle.shown.proofs.Decode.{decode-encode, encode-ok}
use Rattle.shown.proofs.Reached.{reached-allowed}

pub encode_sized : (s : reference.State) → Sized (encode s)
unfolding encode
encode_sized s =
    record {
      processors = length-tabulate (λ p. processor_record (processor_at s p)) 0 9;
      mutexes = length-tabulate (λ m. mutex_record (mutex_at s m)) 0 9;
      firsts = length-tabulate (λ q. first (queue_at s q)) 0 17;
      threads = length-tabulate (thread_row s) 0 33;
    }

pub one_to_one : OneToOne
one_to_one =
    record {
      shows = λ r v. (decode-allowed r v.0 v.1, encode-decode r v.0 v.1);
      is_shown = λ s h. ((encode_sized s, encode-ok s h), decode-encode s h);
      one_record = λ r e v w d. sym (encode-decode r v.0 v.1) ∙ ap encode d ∙ encode-decode e w.0 w.1;
      one_state = λ s e h g z. sym (decode-encode s h) ∙ ap decode z ∙ decode-encode e g;
      reached = λ c ms e ok. reached-allowed c e ms ok;
    }

-- ---- session records

pub session_record-ok : (s : reference.State) (b k : ℕ) → Allowed s → In s.T b → s.applied ≤ k → k ≤ 4000 → session_ok (session_record s b k) ≡ true
unfolding session_ok encode
session_record-ok s b k h i low high = both (both (encode-ok s h) (true_range 1 s.T b i.0 i.1)) (true_range s.applied 4000 k low high)

-- what is known of a session record that keeps the rules
pub record Held (r : Session) : Type 0 where
  pub state : state_ok r.state ≡ true
  pub initial : In r.state.t r.initial
  pub allowed : Allowed (decode r.state)
  -- the number kept
  pub standing : r.state.applied ≤ r.kept
  pub most : r.kept ≤ 4000
  pub same : session_record (decode r.state) r.initial r.kept ≡ r

pub session-held : (r : Session) → Sized r.state → session_ok r ≡ true → Held r
unfolding session_ok
session-held r z e =
    let shape : Bool = state_ok r.state && in_range 1 r.state.t r.initial in
    let first : shape ≡ true = both_left shape _ e in
    let k : state_ok r.state ≡ true = both_left (state_ok r.state) _ first in
    let kept = range_true r.state.applied 4000 r.kept (both_right shape _ e) in
    record {
      state = k;
      initial = range_true 1 r.state.t r.initial (both_right (state_ok r.state) _ first);
      allowed = decode-allowed r.state z k;
      standing = kept.0;
      most = kept.1;
      same = λ i. record { state = encode-decode r.state z k i; initial = r.initial; kept = r.kept };
    }
