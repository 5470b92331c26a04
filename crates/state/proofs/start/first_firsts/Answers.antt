-- `state::start::first_firsts` meets its contract.
-- Assumes nothing.
use Rattle.std.proofs.Common.{rules, refl, ◌≡◌}
use Rattle.state.specs.Model.Access.{first_first}
use Rattle.state.proofs.Tables.{table_of}
use Rattle.state.proofs.start.first_firsts.Goals as goal

pub returns : goal.returns
returns c =
    let a = c.args in
    table_of _ (λ f. (f.0.now ≡ a.p) × (f.1.now ≡ a.b) × (f.2.now ≡ a.stealing)) (first_first a.p a.b a.stealing) (λ p q i y k called. search rules) c.from_fn.result 17 _ (refl, refl, refl) c.from_fn.ensures.items
