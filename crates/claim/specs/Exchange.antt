-- Document 02, No. 5, of sessions: where the standing moves of one are those of another with independent neighbours exchanged, both hold the same state.
-- Assumes nothing.
use Rattle.std.specs.Prelude.{ℕ, true, List, ◌≡◌}
use Rattle.reference.specs.Session.{Opening, opened, standing}
use Rattle.independence.specs.Exchange.{rearranged, may_rearrange}
use Rattle.claim.specs.Implementation.{Implementation}
use Rattle.claim.specs.Demand3.{Event, IsSession, opening, held_at_end, listed}

module _ (impl : Implementation) where
  -- two sessions, each by its opening, its journal before it and its events
  pub record SameEnds (o : Opening) (j : List ℕ) (es : List Event) (o' : Opening) (j' : List ℕ) (es' : List Event) : Type 0 where
    -- hold the same state, whatever is kept beyond the standing moves,
    pub state : (held_at_end impl o' j' es').session.state ≡ (held_at_end impl o j es).session.state
    -- and the picture handed in is the same
    pub pictured : (b : List ℕ) → impl.write (held_at_end impl o' j' es').session.state b ≡ impl.write (held_at_end impl o j es).session.state b

  -- however each came by its moves: by moves, turns, classes and goings, with whatever refused calls between
  abbrev pub EquivalentSessions : Type 0
  EquivalentSessions =
      (o o' : Opening) (j j' : List ℕ) → (impl.begin o j).refusal ≡ 0 → (impl.begin o' j').refusal ≡ 0 → (opened o').config ≡ (opened o).config →
      (es es' : List Event) → IsSession impl (opening impl o j) es → IsSession impl (opening impl o' j') es' →
      (ks : List ℕ) → may_rearrange (opened o).config (standing (listed impl o j es)) ks ≡ true →
      standing (listed impl o' j' es') ≡ rearranged (standing (listed impl o j es)) ks →
      SameEnds o j es o' j' es'
