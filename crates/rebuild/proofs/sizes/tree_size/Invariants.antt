-- The loop's invariant: the levels passed are counted, and those above the last of them are left. Each level has fewer pages.
use Rattle.rebuild.proofs.Laws.Sizes.{Counted}
use Rattle.rebuild.proofs.sizes.tree_size.Given as goal

abbrev pub invariant-loop-level : goal.invariant-loop-level
invariant-loop-level l = Counted l.half l.m l.level l.pages l.height

abbrev pub decreases-loop-level : goal.decreases-loop-level
decreases-loop-level l = l.level
