-- `fields::field::U64Field::write_at` meets its contract: the library's bytes are the definition's. Assumes nothing.
use Rattle.std.proofs.Common.{ap, ◌∙◌}
use Rattle.fields.specs.Bytes.{patch}
use Rattle.fields.proofs.Laws.Library.{written_eight}
use Rattle.fields.proofs.field.U64Field.write_at.Goals as goal

pub returns : goal.returns
returns c = c.put_bytes.ensures ∙ ap (patch c.args.s.now c.args.o) (c.to_le_bytes.ensures ∙ written_eight _)
