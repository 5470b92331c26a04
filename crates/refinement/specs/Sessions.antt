-- Sessions kept as bytes refine sessions on records (document 02, No. 10: a whole sitting): from an accepted start, any list of moves, turns and goings on the bytes and the journal that the caller keeps is answered as
-- by the reference session, and all that demand 3 says holds of what the bytes then hold. `StoredSessions` is the statement; proofs/Sessions.antt proves it of the contracts
-- of crate stored, which the C functions have too.
-- Assumes nothing.
use Rattle.std.specs.Prelude.{ℕ, ◌*◌, ◌≤◌, List, [], ◌∷◌, ◌≡◌, length, take}
use Rattle.state.specs.Association.{session_record}
use Rattle.reference.specs.Lists.{with_front}
use Rattle.reference.specs.Start.{Config}
use Rattle.reference.specs.Step.{Move}
use Rattle.reference.specs.Safe.{Safe}
use Rattle.reference.specs.Picture.{picture}
use Rattle.reference.specs.Session.{Request, move, turn, goto, Lent, own, Call, Reply, Listed, bytes, standing, all_standing, state_in, answer_to, left, replies}
use Rattle.session.specs.Contract.{moved, journal_after, went}
use Rattle.turns.specs.Contract.{turned, turn_journal}
use Rattle.stored.specs.Stored.{session_in}
use Rattle.stored.specs.Calls.{start_number, start_bytes, move_bytes, turn_bytes, goto_bytes, picture_number, picture_after}
use Rattle.claim.specs.Demand3.{lent_to}

-- what is asked of the bytes: a move, a turn with the scripts, going to a step
pub data Ask : Type 0 where
  moves : Move → Ask
  turns : List ℕ → ℕ → Ask
  goes : ℕ → Ask

-- as the reference session is asked it
abbrev pub request : Ask → Request
request (moves a) = move a
request (turns x p) = turn x p
request (goes k) = goto k

unfoldable pub asked : List Ask → List Call
asked [] = []
asked (q ∷ qs) = record { request = request q; lent = own } ∷ asked qs

-- what the caller keeps between two calls
pub record Kept : Type 0 where
  pub session : List ℕ
  pub journal : List ℕ

-- a call's number, and what it leaves
abbrev pub number : Kept → Ask → ℕ
number h (moves a) = (moved (session_in h.session) h.journal a).refusal
number h (turns x p) = (turned (session_in h.session) h.journal x p).refusal
number h (goes k) = (went (session_in h.session) h.journal k).refusal

abbrev pub after : Kept → Ask → Kept
after h (moves a) = record { session = move_bytes h.session h.journal a; journal = journal_after (session_in h.session) h.journal a }
after h (turns x p) = record { session = turn_bytes h.session h.journal x p; journal = turn_journal (session_in h.session) h.journal x p }
after h (goes k) = record { session = goto_bytes h.session h.journal k; journal = h.journal }

-- of a list of calls: each one's number, and what is kept in the end
unfoldable pub numbers : Kept → List Ask → List ℕ
numbers h [] = []
numbers h (q ∷ qs) = number h q ∷ numbers (after h q) qs

unfoldable pub kept_after : Kept → List Ask → Kept
kept_after h [] = h
kept_after h (q ∷ qs) = kept_after (after h q) qs

-- the numbers of the reference session's answers
unfoldable pub refusals : List Reply → List ℕ
refusals [] = []
refusals (r ∷ rs) = r.refusal ∷ refusals rs

-- a session that a start of table c began on the bytes b, with a journal whose bytes were j, after the calls qs
module _ (c : Config) (b j : List ℕ) (qs : List Ask) where
  abbrev pub first : Kept
  first = record { session = start_bytes c b; journal = j }

  abbrev pub kept : Kept
  kept = kept_after first qs

  -- what the reference session holds
  abbrev pub listed : Listed
  listed = left c (length j) (all_standing []) (asked qs)

  pub record Agrees : Type 0 where
    -- each call was answered by the reference session's number, and so will be the next, whatever journal it is lent
    pub answered : numbers first qs ≡ refusals (replies c (length j) (all_standing []) (asked qs))
    pub answers_next : (q : Ask) (t : Lent) → number (record { session = kept.session; journal = lent_to kept.journal t }) q ≡ answer_to c (length j) listed (request q) t
    -- the bytes hold the record of the reference session's state, with the B of its start and as many moves kept as are listed
    pub session : session_in kept.session ≡ session_record (state_in c listed) c.B (length listed.kept)
    -- and so it is pictured, in any buffer that is long enough
    pub pictured : (buffer : List ℕ) → length (picture (state_in c listed)) ≤ length buffer →
        (picture_number kept.session (length buffer) ≡ 0) × (picture_after kept.session buffer ≡ with_front buffer (picture (state_in c listed)))
    -- the journal begins with all kept moves, of which the standing ones are the first, and has its length
    pub within : listed.n ≤ length listed.kept
    pub begins : take (3 * length listed.kept) kept.journal ≡ bytes listed.kept
    pub size : length kept.journal ≡ length j
    -- by the history of the standing moves the laws hold
    pub safe : Safe c (standing listed)

abbrev pub StoredSessions : Type 0
StoredSessions = (c : Config) (b j : List ℕ) → start_number c (length b) ≡ 0 → (qs : List Ask) → Agrees c b j qs
