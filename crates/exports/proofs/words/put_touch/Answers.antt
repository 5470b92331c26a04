-- `exports::words::put_touch` meets its contract.
-- Assumes nothing.
use Rattle.exports.proofs.Touched.{four_stored}
use Rattle.exports.proofs.words.put_touch.Goals as goal

pub returns : goal.returns
returns c =
    let b = c in
    let a = b in
    rw (← b.kind.ensures, ← c.number.ensures, ← c.kind-2.ensures, ← c.number-2.ensures)
    (four_stored a.args.words.now a.args.at _ _ _ _ a.requires)
