-- The loop's invariant: the page has the entries passed.
use Rattle.rebuild.proofs.Laws.Slots.{Slots}
use Rattle.rebuild.proofs.pages.write_page.Given as goal

abbrev pub invariant-loop-i : goal.invariant-loop-i
invariant-loop-i g l = Slots l.half l.p l.level l.size (g.E.Entries.told l.entries) l.initial.img l.i l.img
