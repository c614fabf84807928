-- The measure is the level, which falls from an entry to the page below.
use Rattle.lookup.proofs.look_up.+look.Given as goal

abbrev pub decreases-look : goal.decreases-look
decreases-look l = l.at.level
