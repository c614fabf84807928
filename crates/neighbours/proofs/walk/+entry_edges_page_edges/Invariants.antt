-- A page's measure is 2·level + 1, an entry's 2·level: the level falls from an entry to the page below. The loop's invariant: what was
-- found below the entries passed.
use Rattle.std.proofs.Common.{◌+◌, ◌*◌}
use Rattle.neighbours.proofs.Laws.{Passing}
use Rattle.neighbours.proofs.walk.+entry_edges_page_edges.Given as goal

abbrev pub decreases-entry_edges : goal.decreases-entry_edges
decreases-entry_edges l = 2 * l.level

abbrev pub decreases-page_edges : goal.decreases-page_edges
decreases-page_edges l = 2 * l.level + 1

abbrev pub invariant-page_edges-loop-i : goal.invariant-page_edges-loop-i
invariant-page_edges-loop-i l = Passing l.half l.img l.level l.p l.n l.found l.i
