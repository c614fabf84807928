-- Those behind the i-th up to the j-th stand a slot lower, and the page says already that it has one less. Assumes nothing.
use Rattle.std.proofs.Common.{◌≡◌, ℕ, ◌+◌, List, [], length}
use Rattle.lists.specs.Lists.{splice}
use Rattle.page.specs.declared.Entry.{Entry}
use Rattle.page.proofs.Laws.Shifts.{closed}
use Rattle.page.proofs.Laws.Trees.{page_bytes}
use Rattle.page.proofs.slots.remove_slot.Given as goal

abbrev pub invariant-loop-j : goal.invariant-loop-j
invariant-loop-j l =
    (level : ℕ) (es : List Entry) → length es ≡ l.n + 1 → l.initial.s ≡ page_bytes l.half level l.n es
    → l.s ≡ page_bytes l.half level l.n (closed l.j (splice l.i [] es) es)
