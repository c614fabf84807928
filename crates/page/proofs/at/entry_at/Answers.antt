-- `page::at::entry_at` meets its contract: its numbers are read as they stand. Assumes nothing.
use Rattle.page.specs.Layout.{entry_at}
use Rattle.page.proofs.at.entry_at.Goals as goal

pub returns : goal.returns
unfolding entry_at
returns c = λ j. record { start = c.start_at.ensures j; pair = c.pair_at.ensures j; child = c.child_at.ensures j }
