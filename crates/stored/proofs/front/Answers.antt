-- `stored::front` meets its contract.
-- Assumes nothing.
use native.Mathlib.Omega.{arith}
use Rattle.std.proofs.lemmas.Result.{err_from_is_err_and}
use Rattle.state.specs.Refusal.{outcome}
use Prim.Native.Nat.{ℕ}
use mathlib.Core.List.{List}
use mathlib.Core.Path.{◌≡◌, ap, ◌∙◌}
use lib.ListN.{length}
use Rattle.state.specs.declared.Session.{Session}
use Rattle.stored.specs.Stored.{session_in}
use Rattle.session.specs.Contract.{lent_refusal, front_of}
use Rattle.stored.proofs.Cases.{front-refused, front-taken, front_few}
use Rattle.stored.proofs.front.Goals as goal

-- the refusal is that of the session at the bytes' front
lent : (b j : List ℕ) (r : Session) → r ≡ session_in b → lent_refusal r (length j) ≡ lent_refusal (session_in b) (length j)
lent b j r e = ap (λ (x : Session). lent_refusal x (length j)) e

pub returns-in_err-standing : goal.returns-in_err-standing
unfolding outcome
returns-in_err-standing c =
    let t = err_from_is_err_and c.from_residual.result c.from_residual.ensures.1 in
    let a = c.args in
    rw (t.1, t.2)
    (record {
      number = c.in_err-standing.ensures.number ∙ lent a.session.now a.journal.now c.read.result c.read.ensures;
      shown = front-refused a.session.now a.journal.now c.read.result c.read.ensures c.in_err-standing.field-0.0 c.in_err-standing.ensures.number;
    })

pub overflow_cast-result : goal.overflow_cast-result
unfolding outcome front_of
overflow_cast-result c =
    let a = c.args in
    omega (arith, front_few a.session.now a.journal.now c.read.result c.read.ensures c.in_ok-standing.ensures.number _ c.in_ok-standing.ensures.bytes)

pub returns : goal.returns
unfolding outcome front_of
returns c =
    let a = c.args in
    record {
      number = c.in_ok-standing.ensures.number ∙ lent a.session.now a.journal.now c.read.result c.read.ensures;
      shown = front-taken a.session.now a.journal.now c.read.result c.read.ensures c.in_ok-standing.ensures.number _ c.in_ok-standing.ensures.bytes;
    }
