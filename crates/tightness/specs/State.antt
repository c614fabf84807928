-- The tree and the supply that a tight image shows: its pages as `Rattle.tight.specs.Tight` has them, each with the pages below. A means of
-- proof: no statement of document 02 speaks of it. Assumes nothing.
use Rattle.std.specs.Prelude.{ℕ, zero, suc, ◌+◌, ◌≤◌, ◌≡◌, true, cond, List, [], map, length, leb}
use Rattle.lists.specs.Lists.{listed}
use Rattle.rule.specs.Pairs.{none}
use Rattle.rule.specs.Time.{END, kind_ok, window_ok}
use Rattle.page.specs.Fit.{most_changes}
use Rattle.page.specs.Entries.{entry, at}
use Rattle.image.specs.Listing.{Run}
use Rattle.tight.specs.Tight.{pages_for, in_page, leaf_entry, pages_used}
use Rattle.tree.specs.Tree.{Node, Nodes, flat, Tree}
use Rattle.tree.specs.Cut.{State}
use Rattle.tree.specs.Shape.{Seg, Leaf}
use Rattle.invariant.specs.Invariant.{Bounds}

-- the runs as leaf entries
unfoldable pub leaf_nodes : List Run → Nodes 0
leaf_nodes runs = map (λ r. record { entry = leaf_entry r; subtree = tt }) runs

-- the entry over the i-th page of a level, the first page being page number `first`
unfoldable pub page_node : {A : Type 0} → ℕ → ℕ → List (Node A) → ℕ → Node (List (Node A))
page_node half first ns i =
    let es = in_page half ns i in
    record { entry = entry (at (flat es) 0).start none (first + i); subtree = es }

-- the entries of the level above
unfoldable pub nodes_above : {A : Type 0} → ℕ → ℕ → List (Node A) → List (Node (List (Node A)))
nodes_above half first ns = listed (pages_for half (length ns)) (page_node half first ns)

-- the tree whose level l has these entries, with `most` further levels at most
unfoldable pub tree_over : ℕ → ℕ → (l : ℕ) → ℕ → Nodes l → Tree
tree_over half zero l first ns = record { level = l; root = first; nodes = ns }
tree_over half (suc most) l first ns =
    let p = pages_for half (length ns) in
    let higher = tree_over half most (suc l) (first + p) (nodes_above half first ns) in
    cond (leb p 1) (record { level = l; root = first; nodes = ns }) higher

unfoldable pub tight_state : ℕ → List Run → State
tight_state half runs =
    record {
      tree = tree_over half (length runs) 0 1 (leaf_nodes runs);
      supply = record { chain = []; mark = suc (pages_used half (length runs)) };
    }

-- Numbers and runs that suit a tight image: the runs follow each other from 0 to END, their pairs are bounded for so many changes, and the
-- pages are enough.
pub record Suited (half pages kind window changes : ℕ) (runs : List Run) : Type 0 where
  pub half_least : 2 ≤ half
  pub half_most : half ≤ 12
  pub pages_least : 2 ≤ pages
  pub pages_most : pages ≤ 1024
  pub kind_fits : kind_ok kind ≡ true
  pub window_fits : window_ok window ≡ true
  pub changes_most : changes ≤ most_changes
  pub spans : Seg Leaf 0 END (leaf_nodes runs)
  pub bounded : Bounds kind changes (record { level = 0; root = 0; nodes = leaf_nodes runs })
  pub fits : suc (pages_used half (length runs)) ≤ pages
