-- `fields::field::I32Field::write_at` meets its contract: the library's bytes are the definition's. Assumes nothing.
use Rattle.std.proofs.Common.{ap, ◌∙◌, to_z-of_z}
use Rattle.fields.specs.Bytes.{patch}
use Rattle.fields.specs.Numbers.{i32_bytes}
use Rattle.fields.proofs.Laws.Library.{written_four}
use Rattle.fields.proofs.field.I32Field.write_at.Goals as goal

pub returns : goal.returns
unfolding i32_bytes
returns c =
    let e = rw (to_z-of_z c.ranges.self) at c.to_le_bytes.ensures in
    c.put_bytes.ensures ∙ ap (patch c.args.s.now c.args.o) (e ∙ written_four _)
