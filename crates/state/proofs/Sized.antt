-- The lengths of the record's arrays, as a function has them of a record that it is handed, and of one that a call gives it.
-- Assumes nothing.
use mathlib.Core.List.{List}
use mir.Val.{Val}
use denote.Shadow.{shadow}
use denote.Struct.Declared.{row}
use Rattle.state.specs.declared.State.{State}
use Rattle.state.specs.declared.Session.{Session}
use Rattle.state.specs.Record.{Sized}
use Rattle.state.specs.contracts.State as state
use Rattle.state.specs.contracts.Session as session

-- of a parameter `self`, the first of a function: `sized c.good.0`; of a call's result: `sized c.f.ok`
pub sized : {r : State} {vs : List Val} → shadow ((row state.the_type).own_val r vs) → Sized r
sized {r} g =
    let fields = g.1.1.1.1.1.1.1 in
    record {
      processors = fields.1.0.1.0.1;
      mutexes = fields.1.1.0.1.0.1;
      firsts = fields.0.1.1.0.1.0.1;
      threads = fields.0.1.1.1.0.1.0.1;
    }

pub session_sized : {r : Session} {vs : List Val} → shadow ((row session.the_type).own_val r vs) → Sized r.state
session_sized {r} g = sized {r = r.state} g.1.1.0
