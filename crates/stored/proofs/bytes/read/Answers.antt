-- `stored::bytes::read` meets its contract.
-- Assumes nothing.
use mathlib.Core.Path.{◌∙◌}
use Rattle.stored.proofs.Reading.{ends, in_short, in_unread, in_read}
use Rattle.stored.proofs.bytes.read.Goals as goal

pub returns-then-bytes-end : goal.returns-then-bytes-end
returns-then-bytes-end c = c.none.ensures ∙ in_short c.args.bytes.now c.picture_bytes-end.result (ends c.args.bytes.now _ _ _ _ c.at.ensures c.at-2.ensures c.at-3.ensures c.picture_bytes-end.ensures) c.if-bytes-end.true

pub returns-in-Ok : goal.returns-in-Ok
returns-in-Ok c = rw (c.two.ensures, c.at-in-Ok.ensures, c.at-in-Ok-2.ensures, c.at-in-Ok-3.ensures) (in_read c.args.bytes.now c.picture_bytes-end.result (ends c.args.bytes.now _ _ _ _ c.at.ensures c.at-2.ensures c.at-3.ensures c.picture_bytes-end.ensures) c.if-bytes-end.false c.in-Ok.state c.in-Ok.ensures)

pub returns-in-Err : goal.returns-in-Err
returns-in-Err c =
    c.none-in-Err.ensures ∙ in_unread c.args.bytes.now c.picture_bytes-end.result (ends c.args.bytes.now _ _ _ _ c.at.ensures c.at-2.ensures c.at-3.ensures c.picture_bytes-end.ensures) c.if-bytes-end.false c.in-Err.field-0 c.in-Err.ensures
