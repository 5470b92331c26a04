-- Demand 3: the claim about a session's whole list of calls. `Demand3` is the statement, for any implementation; proofs/Demand3.antt proves it of the contracts.
-- Assumes nothing.
use Rattle.std.specs.Prelude.{ℕ, ◌*◌, ◌≤◌, max, List, [], ◌∷◌, ◌≡◌, length, take, drop}
use Rattle.state.specs.declared.State.{State}
use Rattle.state.specs.declared.Session.{Session}
use Rattle.state.specs.Association.{session_record}
use Rattle.reference.specs.Lists.{with_front}
use Rattle.reference.specs.Start.{Config}
use Rattle.reference.specs.Safe.{Safe}
use Rattle.reference.specs.Picture.{picture}
use Rattle.reference.specs.Session.{Opening, opened, Request, Lent, own, other, Call, Reply, bytes, Listed, standing, all_standing, state_in, answer, after, left, replies}
use Rattle.claim.specs.Implementation.{Implementation, Outcome, Refused}

-- ---- a session on an implementation

-- what happens: a move, turn, class or going, lent the session's journal or another; a picture of any state written into the session's journal, lent as the
-- buffer; any other call (an opening, the journal's front or test, the last move's words, reading, turns ahead, writing elsewhere). These last are lent neither the
-- session's record nor its journal to change: the journal's front is lent a byte for its number besides, and the journal itself for reading.
pub data Event : Type 0 where
  asks : Call → Event
  writes : State → Event
  passes : Event

-- the moves, turns, classes and goings: what the reference session is fed
unfoldable pub asked : List Event → List Call
asked [] = []
asked (asks q ∷ es) = q ∷ asked es
asked (writes s ∷ es) = asked es
asked (passes ∷ es) = asked es

-- what the caller holds between two calls: the record that the last one gave, and the session's journal as it was left
pub record Held : Type 0 where
  pub session : Session
  pub journal : List ℕ

abbrev pub lent_to : List ℕ → Lent → List ℕ
lent_to j own = j
lent_to j (other k) = k

-- the session's journal, where the journal lent to a call was left as `k`
abbrev pub left_as : List ℕ → Lent → List ℕ → List ℕ
left_as j own k = k
left_as j (other o) k = j

abbrev pub reply : Outcome → Reply
reply o = record { refusal = o.refusal; touch = o.touch; buffers = o.buffers }

module _ (impl : Implementation) where
  -- what a call leaves
  abbrev pub gives : Held → Call → Outcome
  gives h q = impl.call h.session (lent_to h.journal q.lent) q.request

  -- a call is handed what its predecessor left
  abbrev pub step : Held → Event → Held
  step h (asks q) = record { session = (gives h q).session; journal = left_as h.journal q.lent (gives h q).journal }
  step h (writes s) = record { session = h.session; journal = (impl.write s h.journal).buffer }
  step h passes = h

  unfoldable pub held_after : Held → List Event → Held
  held_after h [] = h
  held_after h (e ∷ es) = held_after (step h e) es

  -- the answers to the moves, turns, classes and goings
  unfoldable pub responses : Held → List Event → List Reply
  responses h [] = []
  responses h (asks q ∷ es) = reply (gives h q) ∷ responses (step h (asks q)) es
  responses h (writes s ∷ es) = responses (step h (writes s)) es
  responses h (passes ∷ es) = responses (step h passes) es

  -- a call with another journal counts only where it is refused, and so does a picture written over the session's own
  abbrev pub BelongsLent : Held → Request → Lent → Type 0
  BelongsLent h q own = Unit {0}
  BelongsLent h q (other k) = Refused (impl.call h.session k q).refusal

  abbrev pub Belongs : Held → Event → Type 0
  Belongs h (asks q) = BelongsLent h q.request q.lent
  Belongs h (writes s) = Refused (impl.write s h.journal).refusal
  Belongs h passes = Unit {0}

  unfoldable pub IsSession : Held → List Event → Type 0
  IsSession h [] = Unit {0}
  IsSession h (e ∷ es) = Belongs h e × IsSession (step h e) es

  -- an accepted opening begins a session: its record, and the journal as it leaves it
  abbrev pub opening : Opening → List ℕ → Held
  opening o j = record { session = (impl.begin o j).session; journal = (impl.begin o j).journal }

-- the most moves that are ever kept in the reference session
unfoldable pub most : Config → ℕ → Listed → List Call → ℕ
most c size l [] = length l.kept
most c size l (q ∷ rest) = max (length l.kept) (most c size (after c size l q) rest)

-- ---- the claim

module _ (impl : Implementation) where
  -- a session that the opening `o` began, with a journal whose bytes were `j` before it, after the events `es`
  module _ (o : Opening) (j : List ℕ) (es : List Event) where
    -- what the caller holds then
    abbrev pub held_at_end : Held
    held_at_end = held_after impl (opening impl o j) es

    -- the start table, what the reference session holds at first and then, and the most moves that were ever kept in it
    abbrev pub config : Config
    config = (opened o).config

    abbrev pub first : Listed
    first = all_standing (opened o).listed

    abbrev pub listed : Listed
    listed = left config (length j) first (asked es)

    abbrev pub highest : ℕ
    highest = most config (length j) first (asked es)

    pub record Agrees : Type 0 where
      -- each move, turn, class and going was answered as in the reference session, the words that it touched and further buffers included,
      pub answered : responses impl (opening impl o j) es ≡ replies config (length j) first (asked es)
      -- and so will be the next, whichever it is and whatever journal it is lent
      pub answers_next : (q : Call) → reply (gives impl held_at_end q) ≡ answer config (length j) listed q
      -- the record shows the reference session's state, and has the B of its start and as many moves kept as are listed
      pub state : held_at_end.session ≡ session_record (state_in config listed) config.B (length listed.kept)
      -- and so it is pictured, in any buffer that is long enough
      pub pictured : (b : List ℕ) → length (picture (state_in config listed)) ≤ length b →
          impl.write held_at_end.session.state b ≡ record { refusal = 0; buffer = with_front b (picture (state_in config listed)) }
      -- no more moves stand than are kept, and the journal begins with all of these, move by move
      pub within : listed.n ≤ length listed.kept
      pub kept : take (3 * length listed.kept) held_at_end.journal ≡ bytes listed.kept
      -- the journal's length, and its bytes where no move was ever kept, are those that it came with
      pub size : length held_at_end.journal ≡ length j
      pub untouched : drop (3 * highest) held_at_end.journal ≡ drop (3 * highest) j
      -- by the history of the standing moves no mutex has two owners, an owner is a living thread, every thread is in exactly one place and nobody is left waiting
      pub safe : Safe config (standing listed)

  pub record Demand3 : Type 0 where
    -- an opening is refused exactly where the reference session's is
    pub opens : (o : Opening) (j : List ℕ) → (impl.begin o j).refusal ≡ (opened o).refusal
    -- any list of events that is a session from an accepted opening, with a journal of any bytes
    pub sessions : (o : Opening) (j : List ℕ) → (impl.begin o j).refusal ≡ 0 → (es : List Event) → IsSession impl (opening impl o j) es → Agrees o j es
