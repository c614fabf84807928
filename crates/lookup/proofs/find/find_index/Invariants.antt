-- The starts counted are those after `t` from the `i`-th on.
use Rattle.lookup.proofs.Laws.Finds.{CountedBack}
use Rattle.lookup.proofs.find.find_index.Given as goal

abbrev pub invariant-loop-i : goal.invariant-loop-i
invariant-loop-i l = CountedBack l.s l.n l.t l.i l.later
