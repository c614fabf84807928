-- `fit::entry_count::entry_count_ok` meets its contract: it is the definition. Assumes nothing.
use Rattle.std.proofs.Common.{◌&&◌, leb}
use Rattle.page.specs.Fit.{entry_count_ok}
use Rattle.fit.proofs.entry_count.entry_count_ok.Goals as goal

pub returns : goal.returns
unfolding entry_count_ok
returns c =
    λ j. leb (c.fewest.ensures j) (c.entry_count-len.ensures j) && leb (c.entry_count-len.ensures j) (c.capacity.ensures j)
