-- `state::start::first_first` meets its contract.
use mathlib.Core.Path.{◌∙◌}
use native.Mathlib.Omega.{arith}
use Rattle.state.proofs.Begun.{first-single, first_no_single, first-each, first_no_each}
use Rattle.state.proofs.start.first_first.Goals as goal

pub returns-then-q-eq0 : goal.returns-then-q-eq0
returns-then-q-eq0 c =
    let a = c.args in
    c.up_to.ensures ∙ first-single a.p a.b a.stealing a.q c.if-stealing-eq0.true c.if-q-eq0.true

pub returns-then-stealing-eq0 : goal.returns-then-stealing-eq0
returns-then-stealing-eq0 c = let a = c.args in first_no_single a.p a.b a.stealing a.q c.if-stealing-eq0.true c.if-q-eq0.false

pub returns-then-q-p : goal.returns-then-q-p
returns-then-q-p c =
    let a = c.args in
    c.up_to-then-q-p.ensures ∙ first-each a.p a.b a.stealing a.q c.if-stealing-eq0.false c.if-q-gt8.true c.if-q-p.true

pub returns-else-q-p : goal.returns-else-q-p
returns-else-q-p c =
    let a = c.args in
    first_no_each a.p a.b a.stealing a.q c.if-stealing-eq0.false (λ l h. omega arith)

pub returns-else-q-gt8 : goal.returns-else-q-gt8
returns-else-q-gt8 c = let a = c.args in first_no_each a.p a.b a.stealing a.q c.if-stealing-eq0.false (λ l h. omega arith)
