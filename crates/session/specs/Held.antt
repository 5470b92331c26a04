-- What a record and a journal hold, whoever wrote them, in the words of the reference session.
-- Assumes nothing.
use Rattle.std.specs.Prelude.{ℕ, List}
use Rattle.state.specs.declared.Session.{Session}
use Rattle.reference.specs.Session.{Listed, moves}
use Rattle.session.specs.Contract.{shown}

-- the journal's kept moves, and how many of them stand
abbrev pub listed_in : Session → List ℕ → Listed
listed_in r j = record { kept = moves r.kept j; n = (shown r).applied }
