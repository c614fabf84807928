-- `fields::field::I32Field::read_at` meets its contract: the library's number is the definition's. Assumes nothing.
use Rattle.std.proofs.Common.{ap, ◌∙◌, to_z-of_z, w32, to_z, SFits, rules}
use Rattle.fields.specs.Numbers.{i32_at}
use Rattle.fields.proofs.Laws.Parts.{length_part}
use Rattle.fields.proofs.Laws.Library.{read_four}
use Rattle.fields.proofs.field.I32Field.read_at.Goals as goal

pub returns : goal.returns
unfolding i32_at
returns c =
    let r : SFits w32 c.from_le_bytes.result = search rules in
    let e = rw c.bytes_at.ensures at c.from_le_bytes.ensures in
    to_z-of_z r ∙ e ∙ ap (to_z w32) (read_four _ (length_part _ _ _ c.requires))
