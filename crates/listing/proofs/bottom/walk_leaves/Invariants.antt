-- The loop's invariant: the leaves passed are walked.
use Rattle.listing.specs.Walks.{page_walk}
use Rattle.listing.proofs.Laws.Ranges.{Turning}
use Rattle.listing.proofs.Laws.Bottom.{leaf_walk, leaf_count}
use Rattle.listing.proofs.bottom.walk_leaves.Given as goal

abbrev pub invariant-loop-i : goal.invariant-loop-i
invariant-loop-i g l =
    Turning (page_walk l.img l.q l.on) (leaf_walk l.img l.q l.on) l.q.known g.P.Pass.writes l.fn.run l.fn.out (leaf_count l.on l.n)
    l.initial.i-iterator l.i-iterator l.last l.out
