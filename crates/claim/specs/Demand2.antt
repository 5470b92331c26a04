-- Demand 2: a move is the reference machine's, a picture shows its state and nothing else, turns ahead are the formula's, and a refusal changes nothing.
-- `Demand2` is the statement, for any implementation; proofs/Demand2.antt proves it of the contracts.
-- Assumes nothing.
use Rattle.std.specs.Prelude.{ℕ, suc, ◌≤◌, not, List, [], ◌≡◌, ltb, length, take}
use Rattle.state.specs.declared.State.{State as Record}
use Rattle.state.specs.declared.Session.{Session}
use Rattle.state.specs.Record.{Sized, zero_state, zero_session}
use Rattle.state.specs.Association.{encode, decode, session_record}
use Rattle.state.specs.Rules.{state_ok, session_ok, Valid, ValidSession}
use Rattle.state.specs.Allowed.{Allowed}
use Rattle.reference.specs.Refusal.{too_short, bad_record, bad_journal, refuse}
use Rattle.reference.specs.Lists.{with_front}
use Rattle.reference.specs.State.{State}
use Rattle.reference.specs.Step.{Move, next}
use Rattle.reference.specs.Cause.{cause}
use Rattle.reference.specs.Picture.{picture}
use Rattle.reference.specs.Session.{Opening, Request, move, buffers_of, short}
use Rattle.shown.specs.Unique.{OneToOne}
use Rattle.picture.specs.Picture.{Bytes}
use Rattle.picture.specs.Turns.{answer}
use Rattle.session.specs.Contract.{shown, matches, written_at}
use Rattle.claim.specs.Implementation.{Implementation, Outcome, Refused}

-- ---- a move, of any record, with any journal

module _ (impl : Implementation) (r : Session) (j : List ℕ) (a : Move) where
  -- what it leaves
  abbrev pub made : Outcome
  made = impl.call r j (move a)

  pub record MoveIs : Type 0 where
    -- it is refused by 10, by 15, by 16, by the first cause in the state that the record shows; else accepted. The 15 of a step is never there: past 16 that
    -- state is one that a session reaches.
    pub number : made.refusal ≡
        refuse (short (length j)) too_short (refuse (not (session_ok r)) bad_record (refuse (not (matches r j)) bad_journal (cause (shown r) a)))
    -- accepted, it gives the record of the next state with the same B and no move kept beyond it, and puts its three bytes behind the journal's standing moves
    pub session : made.refusal ≡ 0 → made.session ≡ session_record (next (shown r) a) r.initial (suc (shown r).applied)
    pub journal : made.refusal ≡ 0 → made.journal ≡ written_at (shown r).applied a j
    -- that record is valid and shows the next state
    pub valid : Sized r.state → made.refusal ≡ 0 → ValidSession made.session
    pub next_shown : Sized r.state → made.refusal ≡ 0 → shown made.session ≡ next (shown r) a

-- ---- pictures

module _ (impl : Implementation) where
  pub record Pictures : Type 0 where
    -- a valid record is written as the picture of the state that it shows, into any buffer that is long enough, the later bytes kept
    pub writes : (r : Record) → Valid r → (b : List ℕ) → length (picture (decode r)) ≤ length b →
        impl.write r b ≡ record { refusal = 0; buffer = with_front b (picture (decode r)) }
    -- else it is refused: by 15 where the record is not valid, by 10 where the buffer is short
    pub number : (r : Record) → Sized r → (b : List ℕ) →
        (impl.write r b).refusal ≡ refuse (not (state_ok r)) bad_record (refuse (ltb (length b) (length (picture (decode r)))) too_short 0)
    -- a picture reads as the record of its state, so what was written reads back
    pub reads : (s : State) → Allowed s → impl.read (picture s) ≡ record { refusal = 0; state = encode s }
    pub reads_back : (r : Record) → Sized r → (b : List ℕ) → (impl.write r b).refusal ≡ 0 →
        impl.read (take (length (picture (decode r))) (impl.write r b).buffer) ≡ record { refusal = 0; state = r }
    -- bytes that read at all read as a valid record, and are the picture of its state,
    pub reads_valid : (b : List ℕ) → Bytes b → (impl.read b).refusal ≡ 0 → Valid (impl.read b).state × (picture (decode (impl.read b).state) ≡ b)
    -- so they are written back, into any buffer that is long enough, the later bytes kept
    pub writes_back : (b : List ℕ) → Bytes b → (impl.read b).refusal ≡ 0 → (buffer : List ℕ) → length b ≤ length buffer →
        impl.write (impl.read b).state buffer ≡ record { refusal = 0; buffer = with_front buffer b }

  -- ---- a refusal changes nothing

  pub record Refusals : Type 0 where
    -- an opening gives the all-zero record, and leaves the journal
    pub begin : (o : Opening) (j : List ℕ) → Refused (impl.begin o j).refusal → ((impl.begin o j).session ≡ zero_session) × ((impl.begin o j).journal ≡ j)
    -- a move, turn, class or going gives the record handed in, and leaves the journal and the further buffers
    pub call : (r : Session) (j : List ℕ) (q : Request) → Refused (impl.call r j q).refusal →
        ((impl.call r j q).session ≡ r) × ((impl.call r j q).journal ≡ j) × ((impl.call r j q).buffers ≡ buffers_of q)
    -- writing leaves the buffer
    pub write : (r : Record) (b : List ℕ) → Refused (impl.write r b).refusal → (impl.write r b).buffer ≡ b
    -- reading gives the all-zero state
    pub read : (b : List ℕ) → Refused (impl.read b).refusal → (impl.read b).state ≡ zero_state
    -- the journal's front is its empty front
    pub front : (r : Session) (j : List ℕ) → Refused (impl.front r j).refusal → (impl.front r j).bytes ≡ []

  -- ---- the demand

  pub record Demand2 : Type 0 where
    -- records and states: which state a record shows
    pub states : OneToOne
    pub moves : (r : Session) (j : List ℕ) (a : Move) → MoveIs impl r j a
    pub pictures : Pictures
    -- turns ahead are those of the formula, in the state that the record shows
    pub turns : (r : Record) (k : ℕ) → impl.ahead r k ≡ answer r k
    pub refusals : Refusals
