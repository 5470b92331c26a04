-- `state::start::first_threads` meets its contract.
-- Assumes nothing.
use Rattle.std.proofs.Common.{rules, refl, ◌≡◌}
use Rattle.state.specs.Model.Access.{first_thread}
use Rattle.state.proofs.Tables.{table_of}
use Rattle.state.proofs.start.first_threads.Goals as goal

pub returns : goal.returns
returns c =
    let a = c.args in
    table_of _ (λ f. (f.0.now ≡ a.p) × (f.1.now ≡ a.b) × (f.2.now ≡ a.stealing)) (first_thread a.p a.b a.stealing) (λ p q i y k called. search rules) c.from_fn.result 33 _ (refl, refl, refl) c.from_fn.ensures.items
