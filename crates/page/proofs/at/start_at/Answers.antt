-- `page::at::start_at` meets its contract: it is one load. Assumes nothing.
use Rattle.std.proofs.Common.{ap, ◌∙◌}
use Rattle.fields.specs.Numbers.{u32_at}
use Rattle.page.specs.Layout.{start_at}
use Rattle.page.proofs.at.start_at.Goals as goal

pub returns : goal.returns
unfolding start_at
returns c = c.read_at.ensures ∙ ap (u32_at _) c.start_offset.ensures
