-- The page has the entries passed, and nothing else behind its two numbers. Assumes nothing.
use Rattle.std.proofs.Common.{◌≡◌}
use Rattle.lists.specs.Lists.{listed}
use Rattle.page.specs.Decoded.{slot_at}
use Rattle.page.proofs.Laws.Trees.{page_bytes}
use Rattle.page.proofs.write.write_page.Given as goal

abbrev pub invariant-loop-i : goal.invariant-loop-i
invariant-loop-i l = l.s ≡ page_bytes l.half l.p.level l.p.len (listed l.i (λ j. slot_at l.p j))
