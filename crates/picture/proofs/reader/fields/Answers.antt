-- `picture::reader::fields` meets its contract.
-- Assumes nothing.
use Rattle.std.proofs.Common.{rules, refl, ◌≡◌}
use Rattle.state.proofs.Tables.{table_of}
use Rattle.picture.specs.Picture.{first_read, fields}
use Rattle.picture.proofs.reader.fields.Goals as goal

pub returns : goal.returns
unfolding fields
returns c =
    let firsts = table_of _
    (λ f. (f.0.now ≡ c.at-ready.result) × (f.1.now ≡ c.from-processors.result.now) × (f.2.now ≡ c.at-p.result) × (f.3.now ≡ c.from-mutexes.result.now) × (f.4.now ≡ c.at-m.result))
    (first_read c.at-ready.result c.from-processors.result.now c.at-p.result c.from-mutexes.result.now c.at-m.result) (λ p q i y k called. search rules) c.from_fn.result 17 _
    (refl, refl, refl, refl, refl) c.from_fn.ensures.items
    in
    rw (
      firsts,
      c.table.ensures,
      c.table-2.ensures,
      c.table-3.ensures,
      c.two.ensures,
      c.at.ensures,
      c.at-2.ensures,
      c.at-3.ensures,
      c.requires,
      c.from-processors.ensures,
      c.from-mutexes.ensures,
      c.mutexes_at.ensures,
      c.at-ready.ensures,
      c.at-m.ensures,
      c.at-t.ensures,
      c.at-p.ensures,
    )
