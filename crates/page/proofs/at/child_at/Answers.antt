-- `page::at::child_at` meets its contract: it is one load. Assumes nothing.
use Rattle.std.proofs.Common.{◌+◌, ap, ◌∙◌}
use Rattle.fields.specs.Numbers.{u32_at}
use Rattle.page.specs.Layout.{child_at}
use Rattle.page.proofs.at.child_at.Goals as goal

pub returns : goal.returns
unfolding child_at
returns c = c.read_at.ensures ∙ ap (λ o. u32_at c.args.s.now (o + 12)) c.entry_offset.ensures
