-- The loop's invariant: the tree is written up to the level that `below` and n tell, whatever bytes the leaves were written into. Each level
-- has fewer pages.
use Rattle.std.proofs.Common.{◌≡◌, ℕ, List, length}
use Rattle.fields.specs.Bytes.{patch}
use Rattle.page.specs.Layout.{page_size}
use Rattle.rebuild.specs.Levels.{run_entries, level_bytes}
use Rattle.rebuild.proofs.Laws.Tree.{Grown}
use Rattle.rebuild.proofs.trees.write_tree.Given as goal

abbrev pub invariant-loop-n : goal.invariant-loop-n
invariant-loop-n l =
    (s : List ℕ) → length l.initial.img ≡ length s → l.initial.img ≡ patch s (page_size l.half) (level_bytes l.half 0 (run_entries s l.runs))
    → Grown l.half l.runs s l.n l.level l.below l.img

abbrev pub decreases-loop-n : goal.decreases-loop-n
decreases-loop-n l = l.n
