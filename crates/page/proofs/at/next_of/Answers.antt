-- `page::at::next_of` meets its contract: it is one load. Assumes nothing.
use Rattle.page.specs.Layout.{next_of}
use Rattle.page.proofs.at.next_of.Goals as goal

pub returns : goal.returns
unfolding next_of
returns c = c.read_at.ensures
