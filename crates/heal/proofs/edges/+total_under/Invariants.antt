-- The measure is the level, which falls from an entry to the one of its page.
use Rattle.heal.proofs.edges.+total_under.Given as goal

abbrev pub decreases-total_under : goal.decreases-total_under
decreases-total_under l = l.level
