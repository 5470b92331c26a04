-- `stored::picture` meets its contract.
-- Assumes nothing.
use mathlib.Core.Path.{sym, ◌∙◌}
use Rattle.state.specs.Refusal.{outcome, number}
use Rattle.stored.proofs.Cases.{picture-refused, picture-shown}
use Rattle.stored.proofs.picture.Goals as goal

pub returns-then-not-session_ok : goal.returns-then-not-session_ok
unfolding outcome number
returns-then-not-session_ok c =
    let a = c.args in
    let k = picture-refused a.session.now a.buffer.now c.read-record.result c.read-record.ensures (sym c.session_ok.ensures ∙ c.if-not-session_ok.true) in
    record { number = k.0; written = k.1 }

pub returns : goal.returns
returns c =
    let a = c.args in
    let k = picture-shown a.session.now a.buffer.now c.read-record.result c.read-record.ensures (sym c.session_ok.ensures ∙ c.if-not-session_ok.false) in
    record { number = c.write.ensures.number ∙ k.0; written = c.write.ensures.bytes ∙ k.1 }
