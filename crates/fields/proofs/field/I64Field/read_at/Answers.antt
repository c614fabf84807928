-- `fields::field::I64Field::read_at` meets its contract: the library's number is the definition's. Assumes nothing.
use Rattle.std.proofs.Common.{ap, ◌∙◌, to_z-of_z, w64, to_z, SFits, rules}
use Rattle.fields.specs.Numbers.{i64_at}
use Rattle.fields.proofs.Laws.Parts.{length_part}
use Rattle.fields.proofs.Laws.Library.{read_eight}
use Rattle.fields.proofs.field.I64Field.read_at.Goals as goal

pub returns : goal.returns
unfolding i64_at
returns c =
    let r : SFits w64 c.from_le_bytes.result = search rules in
    let e = rw c.bytes_at.ensures at c.from_le_bytes.ensures in
    to_z-of_z r ∙ e ∙ ap (to_z w64) (read_eight _ (length_part _ _ _ c.requires))
