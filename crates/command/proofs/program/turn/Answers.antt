-- `command::program::turn` meets its contract.
use mathlib.Core.Path.{sym}
use lib.Seq.{length-take-le}
use Rattle.command.proofs.Transcript.{text_fits, turn_answered, turn_none}
use Rattle.command.proofs.program.turn.Goals as goal

pub slice_bounds-write_all-end : goal.slice_bounds-write_all-end
slice_bounds-write_all-end g c = text_fits _ _ _ _ (c.requires.fits _ _) c.answered-written.ensures.text

pub slice_bounds-write_all-end-then-next : goal.slice_bounds-write_all-end-then-next
slice_bounds-write_all-end-then-next g c = sym (length-take-le _ _ (text_fits _ _ _ _ (c.requires.fits _ _) c.answered-written.ensures.text))

pub returns-then-next : goal.returns-then-next
returns-then-next g c =
    turn_answered _ _ _ _ _ _ _ _ _ _ _ _ c.requires.fits c.requires.seen c.next_line-next.ensures c.if-next.true c.answered-written.ensures.text c.answered-written.ensures.left

pub returns : goal.returns
returns g c = turn_none _ _ _ _ _ _ _ _ c.next_line-next.ensures c.if-next.false
