-- Document 02, No. 7: a turn is its move, and a class is the moves that it makes. Of any implementation; `contract` has both (proofs/Class.antt).
-- Assumes nothing.
use Rattle.std.specs.Prelude.{ℕ, List, [], ◌∷◌, ◌≡◌, length}
use Rattle.state.specs.declared.Session.{Session}
use Rattle.state.specs.Association.{session_record}
use Rattle.reference.specs.Lists.{with_front}
use Rattle.reference.specs.Start.{start}
use Rattle.reference.specs.Step.{Move, run}
use Rattle.reference.specs.Safe.{Safe}
use Rattle.reference.specs.Script.{class_moves, class_answers, class_pictures}
use Rattle.reference.specs.Session.{Opening, own, move, turn, class, standing, grown}
use Rattle.turns.specs.Contract.{turn_made}
use Rattle.claim.specs.Implementation.{Implementation, Outcome}
use Rattle.claim.specs.Demand3.{Event, asks, held_after, IsSession, opening, held_at_end, config, listed}

-- an accepted turn leaves what its move by itself leaves: any record, any journal
abbrev pub TurnMoves : Implementation → Type 0
TurnMoves impl =
    (r : Session) (j x : List ℕ) (p : ℕ) → (impl.call r j (turn x p)).refusal ≡ 0 → impl.call r j (turn x p) ≡ impl.call r j (move (turn_made r j x p))

-- the turns of a class as calls by themselves
unfoldable pub turns : List ℕ → List ℕ → List Event
turns x [] = []
turns x (p ∷ ps) = asks (record { request = turn x p; lent = own }) ∷ turns x ps

-- after any session, any class that is accepted, with any scripts, turns and buffers:
module _ (impl : Implementation) (o : Opening) (j : List ℕ) (es : List Event) (x ps answers pictures : List ℕ) where
  -- what the class leaves
  abbrev pub done : Outcome
  done = impl.call (held_at_end impl o j es).session (held_at_end impl o j es).journal (class x ps answers pictures)

  -- the moves that stood before it, and those that stand after it: with them the ones that its accepted turns made
  abbrev pub before : List Move
  before = standing (listed impl o j es)

  abbrev pub made : List Move
  made = class_moves (config impl o j es) x before ps

  pub record ClassIs : Type 0 where
    -- the state is the one that the moves give by themselves; what was kept beyond the standing ones is gone where a turn is accepted, else kept,
    pub state : done.session ≡ session_record (run (start (config impl o j es)) made) (config impl o j es).B (length (grown (listed impl o j es) made).kept)
    -- each turn is answered by its move's number, and every picture on the way is that of its state,
    pub buffers : done.buffers ≡
        with_front answers (class_answers (config impl o j es) x before ps) ∷ with_front pictures (class_pictures (config impl o j es) x before ps) ∷ []
    -- record and journal are those that turn after turn leaves,
    pub turn_by_turn : record { session = done.session; journal = done.journal } ≡ held_after impl (held_at_end impl o j es) (turns x ps)
    -- and the laws hold
    pub safe : Safe (config impl o j es) made

abbrev pub Classes : Implementation → Type 0
Classes impl =
    (o : Opening) (j : List ℕ) → (impl.begin o j).refusal ≡ 0 → (es : List Event) → IsSession impl (opening impl o j) es →
    (x ps answers pictures : List ℕ) → (done impl o j es x ps answers pictures).refusal ≡ 0 → ClassIs impl o j es x ps answers pictures
