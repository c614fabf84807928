-- `fields::field::I64Field::write_at` meets its contract: the library's bytes are the definition's. Assumes nothing.
use Rattle.std.proofs.Common.{ap, ◌∙◌, to_z-of_z}
use Rattle.fields.specs.Bytes.{patch}
use Rattle.fields.specs.Numbers.{i64_bytes}
use Rattle.fields.proofs.Laws.Library.{written_eight}
use Rattle.fields.proofs.field.I64Field.write_at.Goals as goal

pub returns : goal.returns
unfolding i64_bytes
returns c =
    let e = rw (to_z-of_z c.ranges.self) at c.to_le_bytes.ensures in
    c.put_bytes.ensures ∙ ap (patch c.args.s.now c.args.o) (e ∙ written_eight _)
