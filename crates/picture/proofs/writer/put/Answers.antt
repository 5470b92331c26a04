-- `picture::writer::put` meets its contract.
-- Assumes nothing.
use mathlib.Core.Path.{refl, ap, ◌∙◌}
use native.Mathlib.Omega.{arith}
use Rattle.state.specs.Record.{first_of}
use Rattle.picture.specs.Model.Parts.{over, header_bytes, processors_bytes, mutexes_bytes, threads_bytes, record_bytes}
use Rattle.picture.proofs.Over.{no_room, part, four}
use Rattle.picture.proofs.Records.{own_rows, processors-length, mutexes-length, threads-length, record_length}
use Rattle.picture.proofs.writer.put.Goals as goal

pub returns-then-b-picture_bytes-clause-bytes : goal.returns-then-b-picture_bytes-clause-bytes
returns-then-b-picture_bytes-clause-bytes c =
    let r = c.args.s in
    no_room c.args.b.now (record_bytes r) (omega (arith, record_length r, c.picture_bytes.ensures))

pub returns-clause-bytes : goal.returns-clause-bytes
unfolding record_bytes
returns-clause-bytes c =
    let r = c.args.s in
    four c.args.b.now (header_bytes r.p r.t r.m (first_of r 0) r.applied r.stealing) (processors_bytes r) (mutexes_bytes r) (threads_bytes r)
    c.store.new.b c.put_table.new.b c.put_table-2.new.b c.put_table-3.new.b 8 c.mutexes_at.result c.threads_at.result refl
    (omega (arith, processors-length r, c.mutexes_at.ensures)) (omega (arith, mutexes-length r, c.mutexes_at.ensures, c.threads_at.ensures)) (omega (arith, threads-length r, c.threads_at.ensures, c.picture_bytes.ensures))
    c.store.ensures (c.put_table.ensures ∙ ap (over (part c.store.new.b 8)) (own_rows r c.from.result.now c.from.ensures)) c.put_table-2.ensures c.put_table-3.ensures
