-- The measure is the level, which falls from an entry to the page below.
use Rattle.heal.proofs.edges.+edge_met.Given as goal

abbrev pub decreases-edge_met : goal.decreases-edge_met
decreases-edge_met l = l.level
