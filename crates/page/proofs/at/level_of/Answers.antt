-- `page::at::level_of` meets its contract: it is one load. Assumes nothing.
use Rattle.page.specs.Layout.{level_of}
use Rattle.page.proofs.at.level_of.Goals as goal

pub returns : goal.returns
unfolding level_of
returns c = c.read_at.ensures
