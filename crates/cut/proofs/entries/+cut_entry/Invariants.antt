-- The measure is the level, which falls from an entry to that of the page below.
use Rattle.cut.proofs.entries.+cut_entry.Given as goal

abbrev pub decreases-cut_entry : goal.decreases-cut_entry
decreases-cut_entry l = l.level
