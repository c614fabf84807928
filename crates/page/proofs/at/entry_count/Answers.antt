-- `page::at::entry_count` meets its contract: it is one load. Assumes nothing.
use Rattle.page.specs.Layout.{entry_count}
use Rattle.page.proofs.at.entry_count.Goals as goal

pub returns : goal.returns
unfolding entry_count
returns c = c.read_at.ensures
