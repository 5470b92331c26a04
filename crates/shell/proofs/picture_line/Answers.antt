-- `shell::picture_line` meets its contract.
use mathlib.Core.Path.{refl, sym, ap, ◌∙◌}
use native.Mathlib.Omega.{arith}
use Rattle.command.specs.Printing.{written}
use Rattle.state.specs.Refusal.{outcome}
use Rattle.state.proofs.Refused.{numbered}
use Rattle.picture.proofs.Written.{room_for}
use Rattle.shell.proofs.PictureText.{counted, picture_printed, refusal_printed}
use Rattle.shell.proofs.picture_line.Goals as goal

pub slice_bounds-bytes-end : goal.slice_bounds-bytes-end
unfolding outcome
slice_bounds-bytes-end c =
    let h = room_for c.args.state 296 (sym c.in-Ok.ensures.number) in
    omega (arith, c.picture_bytes.ensures, c.write.auto.buffer)

pub slice_bounds-hex_line-end : goal.slice_bounds-hex_line-end
unfolding outcome
slice_bounds-hex_line-end c = counted c.args.state _ _ c.write.auto.buffer c.in-Ok.ensures.number c.picture_bytes.ensures

pub returns-in-Ok : goal.returns-in-Ok
unfolding outcome
returns-in-Ok c = c.hex_line.ensures ∙ ap (written c.args.page.now) (picture_printed c.args.state _ _ _ refl c.in-Ok.ensures.number c.in-Ok.ensures.bytes c.picture_bytes.ensures)

pub returns-in-Err : goal.returns-in-Err
unfolding outcome
returns-in-Err c =
    c.number_line.ensures ∙ ap (written c.args.page.now) (refusal_printed c.args.state _ (c.number.ensures ∙ c.in-Err.ensures.number) (rw c.number.ensures (numbered c.in-Err.refusal)))
