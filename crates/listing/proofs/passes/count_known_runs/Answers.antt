-- `listing::passes::count_known_runs` meets its contract: where every page is fit, the walk answers a number. Assumes nothing.
use Rattle.listing.specs.Walks.{count}
use Rattle.listing.proofs.passes.count_known_runs.Goals as goal

pub returns : goal.returns
unfolding count
returns c = rw (c.unwrap_or.ensures, c.count_walk.ensures, c.requires.all_fit)
