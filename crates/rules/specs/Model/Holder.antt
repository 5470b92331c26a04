-- Rule 14 over a record's arrays.
-- Assumes nothing.
use Rattle.std.specs.Prelude.{ℕ, Bool, ◌&&◌, ◌||◌, not, List, eqb}
use Rattle.state.specs.declared.Thread.{Thread}
use Rattle.state.specs.declared.Processor.{Processor}
use Rattle.state.specs.Record.{thread_in, processor_in}

-- register k of processor p, where x is thread k: it is empty, or x has this status and is held by p
abbrev pub register_holds : Thread → ℕ → ℕ → ℕ → Bool
register_holds x status p k = eqb k 0 || eqb x.status status && eqb x.holder p

-- both registers of processor p
abbrev pub registers_hold : List Thread → List Processor → ℕ → Bool
registers_hold threads processors p =
    register_holds (thread_in threads (processor_in processors p).current) 3 p (processor_in processors p).current &&
    register_holds (thread_in threads (processor_in processors p).transit) 4 p (processor_in processors p).transit

-- thread k with the record x is in the register of its holder that its status names
abbrev pub thread_held : Thread → Processor → ℕ → Bool
thread_held x holder k = (not (eqb x.status 3) || eqb holder.current k) && (not (eqb x.status 4) || eqb holder.transit k)
