-- `stored::bytes::write` meets its contract.
-- Assumes nothing.
use Rattle.state.proofs.Sized.{session_sized}
use native.Mathlib.Omega.{arith}
use Rattle.session.proofs.Found.{kept_range}
use Rattle.stored.proofs.Writing.{high_byte, low_byte, all-written}
use Rattle.stored.proofs.bytes.write.Goals as goal

pub returns : goal.returns
returns c =
    let a = c.args in
    let high = high_byte a.session.kept (omega (arith, (kept_range a.session c.requires.valid).1)) in
    rw (c.put-3.ensures, c.put-2.ensures, c.put.ensures, c.put-fits.ensures.bytes, c.to_be_bytes.ensures, high, low_byte)
    (all-written a.session a.bytes.now (session_sized c.well_formed.1.0) c.requires c.picture_bytes-end.result c.picture_bytes-end.ensures)
