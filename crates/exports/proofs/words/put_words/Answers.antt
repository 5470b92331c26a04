-- `exports::words::put_words` meets its contract.
-- Assumes nothing.
use mathlib.Core.Path.{refl}
use borrow.Author.Rules.{rules}
use Rattle.exports.proofs.Touched.{going_start, going_more, going_end}
use Rattle.exports.proofs.words.put_words.Goals as goal

pub loop-i-init : goal.loop-i-init
loop-i-init c = (refl, going_start _ _ _)

pub loop-i-preserved : goal.loop-i-preserved
loop-i-preserved c =
    let t = c.make_in-touch in
    (search rules, going_more _ _ _ c.loop-i.i _ _ c.loop-i.invariant.1 _ t.ensures.state t.result t.ensures.touch _ c.put_touch.ensures)

pub returns : goal.returns
returns c = going_end _ _ _ c.loop-i.i _ _ c.loop-i.invariant.1 (search rules)
