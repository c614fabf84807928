-- `fields::field::U32Field::write_at` meets its contract: the library's bytes are the definition's. Assumes nothing.
use Rattle.std.proofs.Common.{ap, ◌∙◌}
use Rattle.fields.specs.Bytes.{patch}
use Rattle.fields.specs.Numbers.{u32_bytes}
use Rattle.fields.proofs.Laws.Library.{written_four}
use Rattle.fields.proofs.field.U32Field.write_at.Goals as goal

pub returns : goal.returns
unfolding u32_bytes
returns c = c.put_bytes.ensures ∙ ap (patch c.args.s.now c.args.o) (c.to_le_bytes.ensures ∙ written_four _)
