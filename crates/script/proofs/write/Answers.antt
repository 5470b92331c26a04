-- `script::write` meets its contract.
-- Assumes nothing.
use native.Mathlib.Omega.{arith}
use Rattle.script.proofs.Laws.{pieces}
use Rattle.script.proofs.write.Goals as goal

pub returns : goal.returns
returns c =
    let a = c.args in
    pieces a.scripts.now a.calls.now _ _ a.from _ _ c.requires.from_in_bounds c.requires.calls_len_bound c.copy_from_slice.ensures.after (omega arith) (omega arith) (c.fill.ensures.after (λ y h. h))
