-- The measure is the level, which falls from an entry to the page below.
use Rattle.page_need.proofs.walk.+both_cuts.Given as goal

abbrev pub decreases-both_cuts : goal.decreases-both_cuts
decreases-both_cuts l = l.level
