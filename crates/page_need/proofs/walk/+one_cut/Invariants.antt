-- The measure is the level, which falls from an entry to the page below.
use Rattle.page_need.proofs.walk.+one_cut.Given as goal

abbrev pub decreases-one_cut : goal.decreases-one_cut
decreases-one_cut l = l.level
