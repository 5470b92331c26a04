-- `state::Chains::last` meets its contract.
use Rattle.std.proofs.Common.{◌≡◌, ◌-◌}
use Rattle.state.specs.Model.Access.{last_from}
use Rattle.state.proofs.Chains.last.Given as goal

abbrev pub invariant-loop : goal.invariant-loop
invariant-loop l = last_from l.self.threads (32 - l.counter) l.k ≡ last_from l.self.threads 32 l.first
