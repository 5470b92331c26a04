-- `turns::sequence::take_turns` meets its contract. The invariant speaks of any B and number kept, since the loop does not look at the record's.
-- Assumes nothing.
use Prim.Native.Nat.{ℕ}
use mathlib.Core.Path.{◌≡◌}
use Rattle.state.specs.declared.State.{State}
use Rattle.state.specs.declared.Session.{Session}
use Rattle.state.specs.Record.{Sized}
use Rattle.reference.specs.Lists.{tabulate}
use Rattle.session.specs.Contract.{progress_in}
use Rattle.turns.specs.Contract.{class_refusal}
use Rattle.turns.proofs.Loop.{Going}
use Rattle.turns.proofs.sequence.take_turns.Given as goal

-- the record with B and the number kept
abbrev pub with_b : State → ℕ → ℕ → Session
with_b s b k = record { state = s; initial = b; kept = k }

abbrev pub invariant-loop-i : goal.invariant-loop-i
invariant-loop-i l =
    (b k : ℕ) (z : Sized l.initial.state) (none : class_refusal (with_b l.initial.state b k) l.initial.journal l.scripts l.turns l.initial.answers l.initial.pictures ≡ 0) →
    l.initial.calls ≡ tabulate (progress_in (with_b l.initial.state b k) l.initial.journal) 0 33 →
    Going (with_b l.initial.state b k) z l.initial.journal l.scripts l.turns l.initial.answers l.initial.pictures none l.i l.state l.calls l.journal l.answers l.pictures
