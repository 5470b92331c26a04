-- K1 to K10 of the scope as rows of one table over what the entry points answer; sessions with a ready queue for each processor; and exits by owners.
-- Assumes nothing.
use Rattle.std.specs.Prelude.{ℕ, zero, suc, true, List, [], ◌∷◌, ◌++◌, ◌≡◌}
use lib.ListN.{replicate}
use Rattle.state.specs.declared.Token.{Token}
use Rattle.state.specs.declared.Thread.{Thread}
use Rattle.state.specs.declared.Processor.{Processor}
use Rattle.state.specs.declared.Mutex.{Mutex}
use Rattle.state.specs.declared.State.{State}
use Rattle.state.specs.declared.Session.{Session}
use Rattle.state.specs.Record.{zero_session, processor_of, mutex_of, thread_of, first_of}
use Rattle.state.specs.Association.{encode, session_record}
use Rattle.reference.specs.Lists.{with_front}
use Rattle.reference.specs.State as reference
use Rattle.reference.specs.Start.{Config, start}
use Rattle.reference.specs.Step.{Move, run}
use Rattle.reference.specs.Safe.{Owns, ended}
use Rattle.reference.specs.Picture.{picture}
use Rattle.reference.specs.Session.{bytes}
use Rattle.picture.specs.Picture.{read}
use Rattle.session.specs.Contract.{started, moved, journal_after}

abbrev pub config : ℕ → ℕ → ℕ → ℕ → Config
config p t m b = record { P = p; T = t; M = m; B = b; stealing = 0 }

-- with a ready queue for each processor
abbrev pub each : ℕ → ℕ → ℕ → ℕ → Config
each p t m b = record { P = p; T = t; M = m; B = b; stealing = 1 }

abbrev pub by : ℕ → ℕ → ℕ → Move
by p a o = record { processor = p; action = a; operand = o }

-- n goes of processor p
abbrev pub goes : ℕ → ℕ → List Move
goes p zero = []
goes p (suc n) = by p 0 0 ∷ goes p n

abbrev pub token : ℕ → ℕ → Token
token p n = record { processor = p; sequence = n }

abbrev pub thread : ℕ → ℕ → ℕ → Thread
thread s h n = record { status = s; holder = h; next = n }

abbrev pub mutex : ℕ → ℕ → Token → Mutex
mutex c o t = record { count = c; owner = o; token = t }

-- at a line: current and transit thread, mutex, observed token, own sequence number
abbrev pub processor : ℕ → ℕ → ℕ → ℕ → Token → ℕ → Processor
processor l c t m o n = record { position = l; current = c; transit = t; mutex = m; observed = o; sequence = n; answer = 0; probe = 0 }

-- at CI2, with a look number
abbrev pub probing : ℕ → Processor
probing n = record { position = 1; current = 0; transit = 0; mutex = 0; observed = token 0 0; sequence = 0; answer = 0; probe = n }

-- a journal that is long enough
unfoldable pub journal : List ℕ
journal = replicate 12000 0

-- the answers to a list of moves, and the record after them, each move with the record and the journal that the last one left
unfoldable pub refusals : Session → List ℕ → List Move → List ℕ
refusals r j [] = []
refusals r j (a ∷ rest) = (moved r j a).refusal ∷ refusals (moved r j a).session (journal_after r j a) rest

unfoldable pub record_after : Session → List ℕ → List Move → Session
record_after r j [] = r
record_after r j (a ∷ rest) = record_after (moved r j a).session (journal_after r j a) rest

-- from an accepted start every move is taken, and then the record is one of which `Q` holds
pub record Reaches (c : Config) (ms : List Move) (Q : State → Type 0) : Type 0 where
  pub start : (started c).refusal ≡ 0
  pub moves : refusals (started c).session journal ms ≡ replicate (lib.ListN.length ms) 0
  pub end : Q (record_after (started c).session journal ms).state

-- S: both lock 1; processor 1 goes, 2 goes; 1 unlocks, goes through U1, H2, H5
abbrev pub s : List Move
s = by 1 1 1 ∷ by 2 1 1 ∷ by 1 0 0 ∷ by 2 0 0 ∷ by 1 3 1 ∷ goes 1 3

-- K8: all three lock 1, thread 1 owns it and unlocks: token (1,1); processor 2 goes L3, L4, L6, L7; processor 1 takes its token back and serves thread 2, yields,
-- so that thread 2 is current, and unlocks with the queue empty: token (1,2)
abbrev pub until_l8 : List Move
until_l8 =
    by 1 1 1 ∷ goes 1 1 ++ by 2 1 1 ∷ goes 2 1 ++ by 3 1 1 ∷ goes 3 1 ++ by 1 3 1 ∷ goes 1 3 ++ goes 2 4 ++ goes 1 4 ++ by 1 4 0 ∷ goes 1 5 ++ by 1 3 1 ∷ goes 1 3

-- K9: thread 1 owns the mutex
abbrev pub owned : List Move
owned = by 1 1 1 ∷ goes 1 1

-- K10: the only thread exits, and n goes of its processor find nobody ready
abbrev pub idles : ℕ → List Move
idles n = by 1 5 0 ∷ goes 1 n

-- a move's number after a session's moves, where the journal lent has none of them
abbrev pub without_journal : Config → List Move → Move → ℕ
without_journal c ms a = (moved (record_after (started c).session journal ms) journal a).refusal

pub record Table : Type 0 where
  -- K1: the largest table is accepted; K2 and K3: a ninth processor, and no thread created, are not
  pub k1 : (started (config 8 32 8 32)).refusal ≡ 0
  pub k2 : started (config 9 32 8 32) ≡ record { refusal = 1; session = zero_session }
  pub k3 : started (config 8 32 8 0) ≡ record { refusal = 1; session = zero_session }
  -- K4: a thread that locks its own mutex waits for itself; its processor is idle
  pub k4 : Reaches (config 1 1 1 1) (by 1 1 1 ∷ by 1 0 0 ∷ by 1 1 1 ∷ goes 1 5)
      (λ r. (mutex_of r 1 ≡ mutex 2 1 (token 0 0)) × (thread_of r 1 ≡ thread 2 1 0) × ((processor_of r 1).position ≡ 1))
  -- S: token (1,1), count 1
  pub s_token : Reaches (config 2 2 1 2) s (λ r. mutex_of r 1 ≡ mutex 1 0 (token 1 1))
  -- K5: processor 1 leaves the token and is back at App; processor 2 claims it for its own thread, which then owns and runs
  pub k5 : Reaches (config 2 2 1 2) (s ++ goes 1 1 ++ goes 2 7)
      (λ r. (mutex_of r 1 ≡ mutex 1 2 (token 0 0)) × (processor_of r 1 ≡ processor 0 1 0 0 (token 0 0) 1) × ((processor_of r 2).current ≡ 2))
  -- K6: processor 1 takes its token back and serves thread 2, which owns and is ready; processor 2 then finds no token
  pub k6 : Reaches (config 2 2 1 2) (s ++ goes 2 2 ++ goes 1 4) (λ r. (mutex_of r 1 ≡ mutex 1 2 (token 0 0)) × (thread_of r 2 ≡ thread 1 0 0))
  pub k6_idle : Reaches (config 2 2 1 2) (s ++ goes 2 2 ++ goes 1 4 ++ goes 2 1) (λ r. (processor_of r 2).position ≡ 1)
  -- K7: with a third processor, whose trylock claims the token before processor 1 takes it back; both owner and waiting thread are counted
  pub k7_owner : Reaches (config 3 3 1 3) (s ++ goes 2 2 ++ goes 1 1 ++ by 3 2 1 ∷ goes 3 3) (λ r. mutex_of r 1 ≡ mutex 1 3 (token 0 0))
  pub k7 : Reaches (config 3 3 1 3) (s ++ goes 2 2 ++ goes 1 1 ++ by 3 2 1 ∷ goes 3 3 ++ goes 1 1 ++ goes 3 1)
      (λ r. (mutex_of r 1 ≡ mutex 2 3 (token 0 0)) × (processor_of r 1 ≡ processor 0 1 0 0 (token 0 0) 1))
  -- K8: an old token does not pass L8; the token stays
  pub k8_before : Reaches (config 3 3 1 3) until_l8 (λ r. (processor_of r 2 ≡ processor 8 0 0 1 (token 1 1) 0) × ((mutex_of r 1).token ≡ token 1 2))
  pub k8 : Reaches (config 3 3 1 3) (until_l8 ++ goes 2 1) (λ r. (processor_of r 2 ≡ processor 1 0 0 0 (token 0 0) 0) × ((mutex_of r 1).token ≡ token 1 2))
  -- K9 unlock by a thread that is not the owner: 6
  pub k9 : refusals (started (config 2 2 1 2)).session journal (owned ++ by 2 3 1 ∷ []) ≡ 0 ∷ 0 ∷ 6 ∷ []
  -- K10: the 4,000th move is accepted, the next is not
  pub k10 : refusals (started (config 1 1 1 1)).session journal (idles 4000) ≡ replicate 4000 0 ++ 8 ∷ []
  -- the same moves with a journal that does not replay: 16
  pub k8_journal : without_journal (config 3 3 1 3) until_l8 (by 2 0 0) ≡ 16
  pub k9_journal : without_journal (config 2 2 1 2) owned (by 2 3 1) ≡ 16
  pub k10_journal : (without_journal (config 1 1 1 1) (idles 3998) (by 1 0 0) ≡ 16) × (without_journal (config 1 1 1 1) (idles 3999) (by 1 0 0) ≡ 16)

-- document 02, No. 13
pub record Stealing : Type 0 where
  -- a fifth number over 1 is refused by 1
  pub fifth : started (record { P = 2; T = 3; M = 1; B = 3; stealing = 2 }) ≡ record { refusal = 1; session = zero_session }
  -- start 2 3 1 3: thread 3 is in queue 1. Processor 2 exits, finds its own queue empty and looks one place on; it takes thread 3 from queue 1, and loads it
  pub looks : Reaches (each 2 3 1 3) (by 2 5 0 ∷ goes 2 1) (λ r. (first_of r 9 ≡ 3) × (thread_of r 3 ≡ thread 1 1 0) × (processor_of r 2 ≡ probing 1))
  pub takes : Reaches (each 2 3 1 3) (by 2 5 0 ∷ goes 2 2)
      (λ r. (first_of r 9 ≡ 0) × (thread_of r 3 ≡ thread 4 2 0) × (processor_of r 2 ≡ processor 2 0 3 0 (token 0 0) 0))
  pub loads : Reaches (each 2 3 1 3) (by 2 5 0 ∷ goes 2 3) (λ r. (thread_of r 3 ≡ thread 3 2 0) × (processor_of r 2 ≡ processor 0 3 0 0 (token 0 0) 0))
  -- start 2 2 1 2: processor 1 exits and goes twice; its look number is 0, 1, 0
  pub first_look : Reaches (each 2 2 1 2) (by 1 5 0 ∷ goes 1 0) (λ r. processor_of r 1 ≡ probing 0)
  pub second_look : Reaches (each 2 2 1 2) (by 1 5 0 ∷ goes 1 1) (λ r. processor_of r 1 ≡ probing 1)
  pub third_look : Reaches (each 2 2 1 2) (by 1 5 0 ∷ goes 1 2) (λ r. processor_of r 1 ≡ probing 0)
  -- start 2 3 1 2: processor 2's C2 appends thread 3 to its own queue; processor 1 yields, and its Y1 finds its own queue empty
  pub own : Reaches (each 2 3 1 2) (by 2 6 3 ∷ goes 2 1 ++ by 1 4 0 ∷ goes 1 1) (λ r. (first_of r 10 ≡ 3) × (processor_of r 1 ≡ processor 0 1 0 0 (token 0 0) 0))

-- ---- document 02, No. 9

-- processor 1 locks mutex m, and owns it
abbrev pub locked : ℕ → List Move
locked m = by 1 1 m ∷ goes 1 1

-- it locks 2 and 1 and unlocks 1
abbrev pub second_left : List Move
second_left = locked 2 ++ locked 1 ++ by 1 3 1 ∷ goes 1 1

abbrev pub exits : ℕ → List Move
exits p = by p 5 0 ∷ []

-- what an owner's exit led to before it was refused: thread 1 locks mutex 1 and exits. `run` makes moves whether they have a cause or not.
abbrev pub exited : List Move
exited = locked 1 ++ exits 1

abbrev pub left_owner : reference.State
left_owner = run (start (config 1 1 1 1)) exited

-- the answers to moves from a start with 8 mutexes, two processors and a thread for each
abbrev pub answers : List Move → List ℕ
answers ms = refusals (started (config 2 2 8 2)).session journal ms

pub record OwnerExits : Type 0 where
  -- the owner of the first mutex or of the last; of one that its last call was not about; and again
  pub first_mutex : answers (locked 1 ++ exits 1) ≡ 0 ∷ 0 ∷ 21 ∷ []
  pub last_mutex : answers (locked 8 ++ exits 1) ≡ 0 ∷ 0 ∷ 21 ∷ []
  pub other_mutex : answers (second_left ++ exits 1 ++ exits 1) ≡ replicate 6 0 ++ 21 ∷ 21 ∷ []
  -- 2, 3 and 4 come before it
  pub order : answers (locked 1 ++ exits 3 ++ by 1 5 1 ∷ by 1 4 0 ∷ exits 1) ≡ 0 ∷ 0 ∷ 2 ∷ 3 ∷ 0 ∷ 4 ∷ []
  -- an unlock is begun, and the thread still is the owner until U1; then it exits, and another that owns nothing exits at any time
  pub unlocked : answers (locked 1 ++ exits 2 ++ by 1 3 1 ∷ exits 1 ++ goes 1 1 ++ exits 1) ≡ 0 ∷ 0 ∷ 0 ∷ 0 ∷ 4 ∷ 0 ∷ 0 ∷ []
  -- what an owner's exit would lead to: by history the mutex has an owner that has exited,
  pub law_broken : Owns (config 1 1 1 1) exited 1 1 × (ended (config 1 1 1 1) exited 1 ≡ true)
  -- so where an old session has one, every move is refused by 16, lent the journal that led there;
  pub journal_refused : (a : Move) → (moved (session_record left_owner 1 3) (with_front journal (bytes exited)) a).refusal ≡ 16
  -- its picture, in which thread 1 has exited and owns the mutex, reads as ever
  pub pictured : picture left_owner ≡ 1 ∷ 1 ∷ 1 ∷ 0 ∷ 0 ∷ 3 ∷ 0 ∷ 0 ∷ 1 ∷ 0 ∷ 0 ∷ 0 ∷ 0 ∷ 0 ∷ 0 ∷ 0 ∷ 0 ∷ 0 ∷ 0 ∷ 0 ∷ 1 ∷ 0 ∷ 1 ∷ 0 ∷ 0 ∷ 0 ∷ 0 ∷ 0 ∷ 5 ∷ 0 ∷ 0 ∷ 0 ∷ []
  pub read_back : read (picture left_owner) ≡ record { refusal = 0; state = encode left_owner }
