-- `page::at::sum_bits_at` meets its contract: it is one load. Assumes nothing.
use Rattle.std.proofs.Common.{ap, ◌∙◌, to_z, w64}
use Rattle.fields.specs.Bytes.{part}
use Rattle.fields.specs.Numbers.{num, i64_at}
use Rattle.page.specs.Layout.{pair_at}
use Rattle.page.proofs.at.sum_bits_at.Goals as goal

pub returns : goal.returns
unfolding pair_at i64_at
returns c = ap (to_z w64) (c.read_at.ensures ∙ ap (λ o. num (part c.args.s.now o 8)) c.entry_offset.ensures)
