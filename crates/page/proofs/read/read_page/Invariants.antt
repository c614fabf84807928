-- Each slot passed has the entry that stands there. Assumes nothing.
use Rattle.page.proofs.Laws.Decoded.{Got}
use Rattle.page.proofs.read.read_page.Given as goal

abbrev pub invariant-loop-i : goal.invariant-loop-i
invariant-loop-i l = Got l.half l.s l.initial.page.level l.initial.page.len l.i l.page
