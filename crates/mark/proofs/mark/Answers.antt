-- `mark::mark` meets its contract.
-- Assumes nothing.
use borrow.Author.Rules.{rules}
use Rattle.mark.proofs.Cases.{accepted, marked-unread, marked-length, passed-both, marked-none}
use Rattle.mark.proofs.mark.Goals as goal

pub returns-in_err-read : goal.returns-in_err-read
returns-in_err-read c =
    let a = c.args in
    let e = marked-unread a.machine.now a.candidate.now c.read.result c.read.ensures _ c.in_err-read.was in
    search rules

pub returns-then-candidate-machine : goal.returns-then-candidate-machine
returns-then-candidate-machine c = let a = c.args in marked-length a.machine.now a.candidate.now c.read.result c.read.ensures _ c.in_ok-read.was c.if-candidate-machine.true

pub mark_of-requires : goal.mark_of-requires
mark_of-requires c =
    let a = c.args in
    accepted a.machine.now a.candidate.now (passed-both a.machine.now a.candidate.now c.read.result c.read.ensures _ c.in_ok-read.was c.if-candidate-machine.false)

pub returns : goal.returns
returns c =
    let a = c.args in
    marked-none a.machine.now a.candidate.now (passed-both a.machine.now a.candidate.now c.read.result c.read.ensures _ c.in_ok-read.was c.if-candidate-machine.false) _ c.mark_of.ensures
