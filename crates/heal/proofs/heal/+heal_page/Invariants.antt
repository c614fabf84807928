-- The measure is the level, which falls from a page to the one below.
use Rattle.heal.proofs.heal.+heal_page.Given as goal

abbrev pub decreases-heal_page : goal.decreases-heal_page
decreases-heal_page l = l.level
