-- The loop's invariant: the entries passed are met.
use Rattle.listing.specs.Walks.{page_walk, entry_walk}
use Rattle.listing.proofs.Laws.Ranges.{Turning}
use Rattle.listing.proofs.leaves.leaf_page.Given as goal

abbrev pub invariant-loop-i : goal.invariant-loop-i
invariant-loop-i g l =
    Turning (page_walk l.img l.q l.on) (entry_walk l.img l.q l.on) l.q.known g.P.Pass.writes l.fn.run l.fn.out l.n
    l.initial.i-iterator l.i-iterator l.last l.out
