-- Valid records and the states that the rules allow are each other's.
-- Assumes nothing.
use Rattle.std.specs.Prelude.{◌≡◌}
use Rattle.state.specs.declared.State.{State as Record}
use Rattle.state.specs.Association.{encode, decode}
use Rattle.state.specs.Rules.{Valid}
use Rattle.state.specs.Allowed.{Allowed}
use Rattle.reference.specs.State.{State}
use Rattle.reference.specs.Safe.{end, Always}

pub record OneToOne : Type 0 where
  -- a valid record shows one state, which is allowed, and is that state's record
  pub shows : (r : Record) → Valid r → Allowed (decode r) × (encode (decode r) ≡ r)
  -- an allowed state has a record, which is valid and shows it
  pub is_shown : (s : State) → Allowed s → Valid (encode s) × (decode (encode s) ≡ s)
  -- no two valid records show the same state, and no two allowed states have the same record
  pub one_record : (r e : Record) → Valid r → Valid e → decode r ≡ decode e → r ≡ e
  pub one_state : (s e : State) → Allowed s → Allowed e → encode s ≡ encode e → s ≡ e
  -- every state that accepted moves reach is allowed
  pub reached : Always (λ c ms. Allowed (end c ms))
