-- Sessions whose standing moves differ by exchanged neighbours end alike.
-- Assumes nothing.
use Prim.Native.Nat.{ℕ}
use mathlib.Core.Bool.{true}
use mathlib.Core.List.{List}
use mathlib.Core.Path.{◌≡◌, sym, ap, ◌∙◌}
use Rattle.state.specs.declared.Session.{Session}
use Rattle.state.specs.declared.State.{State as Record}
use Rattle.state.specs.Association.{encode}
use Rattle.reference.specs.Start.{Config, start}
use Rattle.reference.specs.Step.{Move}
use Rattle.reference.specs.Cause.{accepted}
use Rattle.reference.specs.Session.{Opening, opened, standing, state_of}
use Rattle.session.proofs.Holding.{standing-legal}
use Rattle.independence.proofs.Lists.{rearranges}
use Rattle.claim.specs.Implementation.{contract}
use Rattle.claim.specs.Demand3.{Event, IsSession, opening, held_at_end, listed}
use Rattle.claim.specs.Exchange.{EquivalentSessions}
use Rattle.claim.proofs.Demand3.{Reached, first-right, reached, demand3}

-- the moves that stand are accepted
legal : (o : Opening) (j : List ℕ) (e : (contract.begin o j).refusal ≡ 0) (es : List Event) → IsSession contract (opening contract o j) es →
    accepted (start (opened o).config) (standing (listed contract o j es)) ≡ true
unfolding Reached
legal o j e es b = standing-legal (opened o).config (first-right o j e) (listed contract o j es) _ _ (reached o j e es b).1.holds

pub equivalent_sessions : EquivalentSessions contract
equivalent_sessions o o' j j' e e' same es es' b b' ks h l =
    let c : Config = (opened o).config in
    let ms : List Move = standing (listed contract o j es) in
    let states : encode (state_of (opened o').config (standing (listed contract o' j' es'))) ≡ encode (state_of c ms) =
    (λ i. encode (state_of (same i) (l i))) ∙ ap encode (rearranges c ms (first-right o j e) (legal o j e es b) ks h).state in
    let held : (held_at_end contract o' j' es').session.state ≡ (held_at_end contract o j es).session.state =
    ap (λ (r : Session). r.state) (demand3.sessions o' j' e' es' b').state ∙ states ∙ sym (ap (λ (r : Session). r.state) (demand3.sessions o j e es b).state) in
    record { state = held; pictured = λ buffer. ap (λ (r : Record). contract.write r buffer) held }
