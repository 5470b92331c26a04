-- What holds of sessions kept as bytes (proofs/Laws.antt). With these every law of sessions holds of sittings on bytes: the record in the bytes is always the session's.
-- Assumes nothing.
use Rattle.std.specs.Prelude.{ℕ, ◌+◌, ◌≤◌, true, List, ◌++◌, ◌≡◌, length}
use Rattle.state.specs.declared.Session.{Session}
use Rattle.state.specs.Rules.{session_ok, ValidSession}
use Rattle.reference.specs.Refusal.{bad_record}
use Rattle.reference.specs.Lists.{with_front, in_range}
use Rattle.reference.specs.Start.{Config}
use Rattle.reference.specs.Step.{Move}
use Rattle.picture.specs.Picture.{Bytes, byte, two_at, read_refusal}
use Rattle.session.specs.Contract.{started, moved, went}
use Rattle.turns.specs.Contract.{turned}
use Rattle.stored.specs.Stored.{session_bytes, picture_end, picture_in, session_in}
use Rattle.stored.specs.Calls.{start_number, start_bytes, move_bytes, turn_bytes, goto_bytes, picture_number, front_number}

-- the record at the front is a session's
abbrev pub IsSession : List ℕ → Type 0
IsSession b = session_ok (session_in b) ≡ true

-- the same by the bytes: a picture that reads, then B, 1 to T, then a number kept that is not below the standing moves nor above 4,000
pub record Begins (b : List ℕ) : Type 0 where
  pub fits : picture_end b + 3 ≤ length b
  pub reads : read_refusal (picture_in b) ≡ 0
  pub initial : in_range 1 (byte b 1) (byte b (picture_end b)) ≡ true
  pub kept : in_range (two_at b 4) 4000 (two_at b (picture_end b + 1)) ≡ true

-- every call refuses the bytes by 15, lent a journal that is long enough
pub record Refused (b : List ℕ) : Type 0 where
  pub move : (j : List ℕ) → 12000 ≤ length j → (a : Move) → (moved (session_in b) j a).refusal ≡ bad_record
  pub turn : (j : List ℕ) → 12000 ≤ length j → (x : List ℕ) (p : ℕ) → (turned (session_in b) j x p).refusal ≡ bad_record
  pub goto : (j : List ℕ) → 12000 ≤ length j → (k : ℕ) → (went (session_in b) j k).refusal ≡ bad_record
  pub picture : (n : ℕ) → picture_number b n ≡ bad_record
  pub front : (j : List ℕ) → 12000 ≤ length j → front_number b j ≡ 20000 + bad_record

pub record Laws : Type 0 where
  -- which bytes are a session; all others are refused
  pub sessions : (b : List ℕ) → Bytes b → (IsSession b → Begins b) × (Begins b → IsSession b)
  pub refused : (b : List ℕ) → (IsSession b → ⊥) → Refused b
  -- a session's bytes read back to its record, whatever stands behind them
  pub reads_back : (r : Session) → ValidSession r → (rest : List ℕ) → session_in (session_bytes r ++ rest) ≡ r
  -- bytes that are a session are its bytes: written back, nothing changes
  pub writes_back : (b : List ℕ) → Bytes b → IsSession b → with_front b (session_bytes (session_in b)) ≡ b
  -- after a call the bytes hold the record that the entry point gives, accepted or not
  pub start : (c : Config) (b : List ℕ) → start_number c (length b) ≡ 0 → session_in (start_bytes c b) ≡ (started c).session
  pub move : (b j : List ℕ) (a : Move) → session_in (move_bytes b j a) ≡ (moved (session_in b) j a).session
  pub turn : (b j x : List ℕ) (p : ℕ) → session_in (turn_bytes b j x p) ≡ (turned (session_in b) j x p).session
  pub goto : (b j : List ℕ) (k : ℕ) → session_in (goto_bytes b j k) ≡ (went (session_in b) j k).session
