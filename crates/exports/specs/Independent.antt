-- What is answered about two neighbours in a list of moves: a start table, then the moves as bytes, three to a move, then the place of the first of the two.
-- Assumes nothing.
use Rattle.std.specs.Prelude.{ℕ, ◌+◌, not, List, ◌≡◌}
use Rattle.reference.specs.Refusal.{bad_operand, refuse}
use Rattle.reference.specs.Lists.{if_zero}
use Rattle.reference.specs.Start.{Config, config_cause}
use Rattle.reference.specs.Safe.{one_if}
use Rattle.reference.specs.Session.{bytes}
use Rattle.independence.specs.Exchange.{neighbours, may_exchange, exchange}
use Rattle.session.specs.Contract.{or_later}
use Rattle.exports.specs.Replay.{whole, replay_refusal, replay_place, replay_buffer}
use Rattle.exports.specs.Words.{moves_in}

-- 1, then the number of the first refused move, then 3: there are no two moves at the places k and k + 1
unfoldable pub independent_refusal : Config → List ℕ → ℕ → ℕ
independent_refusal c b k =
    or_later (config_cause c) (or_later (whole c b).refusal (refuse (not (neighbours (moves_in b) k)) bad_operand 0))

-- 1 where they may change places and 0 where not; 200 and the number of a refusal
unfoldable pub independent_answer : Config → List ℕ → ℕ → ℕ
independent_answer c b k =
    if_zero (independent_refusal c b k) (one_if (may_exchange c (moves_in b) k)) (200 + independent_refusal c b k)

-- a replay of two lists of moves answers the same: number, place, and picture in any buffer
pub record ReplaysAlike (c : Config) (b d : List ℕ) : Type 0 where
  pub number : (n : ℕ) → replay_refusal c d n ≡ replay_refusal c b n
  pub place : replay_place c d ≡ replay_place c b
  pub written : (buffer : List ℕ) → replay_buffer c d buffer ≡ replay_buffer c b buffer

-- so it is, where the answer is 1, with the two exchanged
abbrev pub ExchangeReplays : Type 0
ExchangeReplays = (c : Config) (b : List ℕ) (k : ℕ) → independent_answer c b k ≡ 1 → ReplaysAlike c b (bytes (exchange (moves_in b) k))
