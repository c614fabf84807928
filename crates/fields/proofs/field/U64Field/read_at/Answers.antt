-- `fields::field::U64Field::read_at` meets its contract: the library's number is the definition's. Assumes nothing.
use Rattle.std.proofs.Common.{◌∙◌}
use Rattle.fields.proofs.Laws.Parts.{length_part}
use Rattle.fields.proofs.Laws.Library.{read_eight}
use Rattle.fields.proofs.field.U64Field.read_at.Goals as goal

pub returns : goal.returns
returns c =
    let e = rw c.bytes_at.ensures at c.from_le_bytes.ensures in e ∙ read_eight _ (length_part _ _ _ c.requires)
