-- `command::input::next_line` meets its contract.
use mathlib.Core.Path.{refl, ◌∙◌}
use native.Mathlib.Omega.{arith}
use Rattle.command.proofs.Scan.{reading_begun, reading_more, done_input}
use borrow.Author.Rules.{rules}
use Rattle.command.proofs.input.next_line.Goals as goal

pub loop-init : goal.loop-init
loop-init c = (refl, search rules, reading_begun _ _ _ _ _ _ c.empty.ensures c.scan-next.ensures.0 c.scan-next.ensures.1)

pub returns-then-fresh-eq0 : goal.returns-then-fresh-eq0
returns-then-fresh-eq0 c =
    let r = reading_more _ _ _ _ _ _ _ _ _ _ _ c.loop.invariant.2 c.if-not-next.false c.read_chunk-fresh.ensures.0 c.scan-next-in-loop.ensures.0 c.scan-next-in-loop.ensures.1 in
    done_input _ _ _ _ _ _ _ r (omega arith) (c.scan-next-in-loop.ensures.0 ∙ c.if-fresh-eq0.true)

pub loop-preserved : goal.loop-preserved
loop-preserved c =
    (search rules, search rules, reading_more _ _ _ _ _ _ _ _ _ _ _ c.loop.invariant.2 c.if-not-next.false c.read_chunk-fresh.ensures.0 c.scan-next-in-loop.ensures.0 c.scan-next-in-loop.ensures.1)
