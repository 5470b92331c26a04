-- What the inner functions find, as their contracts state it.
-- Assumes nothing.
use Rattle.std.specs.Prelude.{List, ◌≡◌, ℕ, Result, Ok, Err}
use Rattle.state.specs.declared.State.{State}
use Rattle.state.specs.declared.refusal.Refusal.{Refusal}
use Rattle.state.specs.Refusal.{number}
use Rattle.state.specs.Association.{encode}
use Rattle.state.specs.Allowed.{Allowed}
use Rattle.session.specs.Contract.{or_later}
use Rattle.reference.specs.Start.{Config, config_cause}
use Rattle.exports.specs.Replay.{whole}

-- 1, then the number of the first refused move
abbrev pub tried_of : Config → List ℕ → ℕ
tried_of c moves = or_later (config_cause c) (whole c moves).refusal

-- a replay that nothing refuses leads to s
pub record Reached (c : Config) (moves : List ℕ) (s : State) : Type 0 where
  pub right : config_cause c ≡ 0
  pub refusal : (whole c moves).refusal ≡ 0
  pub state : s ≡ encode (whole c moves).state
  pub allowed : Allowed (whole c moves).state

unfoldable pub Replays : Config → List ℕ → Result State Refusal → Type 0
Replays c moves (Ok s) = Reached c moves s
Replays c moves (Err refusal) = number refusal ≡ tried_of c moves
