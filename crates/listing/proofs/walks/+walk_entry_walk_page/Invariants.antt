-- A page's measure is 2·level + 1, an entry's 2·level: the level falls from an entry to the page below. The loop's invariant: the entries
-- passed are walked.
use Rattle.std.proofs.Common.{◌+◌, ◌*◌}
use Rattle.listing.specs.Walks.{page_walk, entry_walk}
use Rattle.listing.proofs.Laws.Ranges.{Turning}
use Rattle.listing.proofs.walks.+walk_entry_walk_page.Given as goal

abbrev pub decreases-walk_entry : goal.decreases-walk_entry
decreases-walk_entry g l = 2 * l.on.at.level

abbrev pub decreases-walk_page : goal.decreases-walk_page
decreases-walk_page g l = 2 * l.on.at.level + 1

abbrev pub invariant-walk_page-loop-i : goal.invariant-walk_page-loop-i
invariant-walk_page-loop-i g l =
    Turning (page_walk l.img l.q l.on) (entry_walk l.img l.q l.on) l.q.known g.P.Pass.writes l.fn.run l.fn.out l.n
    l.initial.i-iterator l.i-iterator l.last l.out
