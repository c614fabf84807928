-- Those from the j-th on stand a slot higher, and the page says already that it has one more. Assumes nothing.
use Rattle.std.proofs.Common.{◌≡◌, ℕ, ◌+◌, ◌≤◌, List, length}
use Rattle.page.specs.declared.Entry.{Entry}
use Rattle.page.proofs.Laws.Shifts.{opened}
use Rattle.page.proofs.Laws.Trees.{page_bytes}
use Rattle.page.proofs.slots.insert_slot.Given as goal

abbrev pub invariant-loop-j : goal.invariant-loop-j
invariant-loop-j l =
    (l.i ≤ l.j)
    × ((level : ℕ) (es : List Entry) → length es ≡ l.n → l.initial.s ≡ page_bytes l.half level (l.n + 1) es
    → l.s ≡ page_bytes l.half level (l.n + 1) (opened l.j es))
