-- `command::input::scan` meets its contract.
use native.Mathlib.Omega.{arith}
use mathlib.Core.Path.{refl}
use Rattle.command.proofs.Scan.{scan_begun, scan_more, scan_found, scan_ended, left_more, left-none}
use borrow.Author.Rules.{rules}
use Rattle.command.proofs.input.scan.Goals as goal

pub loop-at-init : goal.loop-at-init
loop-at-init c = (refl, scan_begun _ _ _)

pub returns-then-b-eq10 : goal.returns-then-b-eq10
returns-then-b-eq10 c =
    let a = c.args in
    (refl, scan_found _ _ _ _ _ _ _ _ _ c.loop-at.invariant.1 (left_more c.loop-at.at a.input.end a.chunk.now (omega arith) (omega arith)) c.if-b-eq10.true)

pub loop-at-preserved : goal.loop-at-preserved
loop-at-preserved c =
    let a = c.args in
    (search rules, scan_more _ _ _ _ _ _ _ _ _ _ c.loop-at.invariant.1 (left_more c.loop-at.at a.input.end a.chunk.now (omega arith) (omega arith)) c.if-b-eq10.false c.fed-held.ensures.value c.fed-held.ensures.bytes_after)

pub returns : goal.returns
returns c =
    let a = c.args in
    (refl, scan_ended _ _ _ _ _ _ _ _ c.loop-at.invariant.1 (left-none c.loop-at.at a.input.end a.chunk.now (omega arith)) (left-none a.input.end a.input.end a.chunk.now (omega arith)))
