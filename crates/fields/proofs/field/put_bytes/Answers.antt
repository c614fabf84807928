-- `fields::field::put_bytes` meets its contract: the part that was lent came back with the bytes. Assumes nothing.
use Rattle.std.proofs.Common.{ap, ◌∙◌, arith}
use Rattle.fields.specs.Bytes.{patch}
use Rattle.fields.proofs.Laws.Lent.{back_patch}
use Rattle.fields.proofs.field.put_bytes.Goals as goal

pub returns : goal.returns
returns c =
    back_patch c.args.s.now c.args.o _ _ (omega arith) c.requires c.copy_from_slice.ensures.len
    ∙ ap (patch c.args.s.now c.args.o) c.copy_from_slice.ensures.after
