-- What storing a move, replaying a session's journal and going on from a record make, as the inner functions' contracts state it.
-- Assumes nothing.
use Rattle.std.specs.Prelude.{ℕ, ◌+◌, ◌-◌, ◌*◌, true, false, List, ◌≡◌, eqb, leb, take, drop, set, Option, Some, None}
use Rattle.session.specs.declared.replay.Stages.{Stages}
use Rattle.state.specs.declared.Session.{Session}
use Rattle.state.specs.declared.State.{State}
use Rattle.state.specs.Association.{encode}
use Rattle.state.specs.Model.Access.{start_record}
use Rattle.step.specs.Model.Moves.{Run, counted_of}
use Rattle.reference.specs.Lists.{choose}
use Rattle.reference.specs.Start.{start}
use Rattle.reference.specs.Step.{Move, run}
use Rattle.reference.specs.Cause.{accepted}
use Rattle.reference.specs.Session.{moves}
use Rattle.session.specs.Contract.{config_of, matches}

-- a move's three bytes stored behind n moves
abbrev pub stored : List ℕ → ℕ → Move → List ℕ
stored j n a = set (set (set j (3 * n) a.processor) (3 * n + 1) a.action) (3 * n + 2) a.operand

-- the record after moves that lead to a state: as many moves are kept as before, or as stand where some were made
abbrev pub continued : Session → State → Session
continued r s = record { state = s; initial = r.initial; kept = choose (eqb s.applied r.state.applied) r.kept s.applied }

-- the bytes of the moves from step a to step b
abbrev pub between : ℕ → ℕ → List ℕ → List ℕ
between a b j = take (3 * b - 3 * a) (drop (3 * a) j)

-- the code's start of the table that is read off a record
abbrev pub first_record : Session → State
first_record r = start_record r.state.p r.state.t r.state.m r.initial r.state.stealing

-- the calls that the code's run over the first n moves adds to a list of counts, and over the standing ones
abbrev pub counted_to : Session → ℕ → List ℕ → List ℕ → List ℕ
counted_to r n j calls = counted_of (first_record r) (take (3 * n) j) calls

abbrev pub counted_in : Session → List ℕ → List ℕ → List ℕ
counted_in r j calls = counted_to r r.state.applied j calls

-- the farther one of step k and the last standing move
abbrev pub farther : Session → ℕ → ℕ
farther r k = choose (leb k r.state.applied) r.state.applied k

-- the state that a run leads to, if all its moves are accepted
unfoldable pub all_made : Run → Option State
all_made r = choose (eqb r.refusal 0) (Some r.state) None

-- the records of the states after the first a and the first b of the kept moves, if all are accepted
unfoldable pub Reaches : Session → List ℕ → ℕ → ℕ → Option Stages → Type 0
Reaches r j a b (Some x) =
    (accepted (start (config_of r)) (moves r.kept j) ≡ true) × (x.low ≡ encode (run (start (config_of r)) (moves a j))) ×
    (x.high ≡ encode (run (start (config_of r)) (moves b j)))
Reaches r j a b None = accepted (start (config_of r)) (moves r.kept j) ≡ false

-- the record of the state after the first k moves, if the kept ones are accepted and the standing ones give the record
unfoldable pub Replays : Session → List ℕ → ℕ → Option State → Type 0
Replays r j k (Some s) = (matches r j ≡ true) × (s ≡ encode (run (start (config_of r)) (moves k j)))
Replays r j k None = matches r j ≡ false
