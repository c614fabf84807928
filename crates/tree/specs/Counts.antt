-- Numbers of a tree and of its supply: its pages, the pages taken, and how many pages there are at the least. Assumes nothing.
use Rattle.std.specs.Prelude.{ℕ, zero, suc, ◌*◌, ◌≤◌, List, ◌∷◌, length}
use Rattle.lists.specs.Lists.{concat_map, All}
use Rattle.tree.specs.Tree.{Nodes, Tree, pages_under}
use Rattle.tree.specs.Supply.{Supply, without_next}

-- all pages of a tree: the root and those below it
unfoldable pub pages_of : Tree → List ℕ
pages_of T = T.root ∷ concat_map (λ x. pages_under T.level x) T.nodes

-- the supply once k pages are taken
unfoldable pub later : ℕ → Supply → Supply
later zero S = S
later (suc k) S = later k (without_next S)

-- Every inner page from here down has two entries or more: all that the counts ask of a tree's shape.
unfoldable pub Wide : (l : ℕ) → Nodes l → Type 0
Wide zero es = Unit {0}
Wide (suc l) es = (2 ≤ length es) × All (λ x. Wide l x.subtree) es

-- how many pages are at the least below an entry of a page of level l, where no page other than the root has fewer than half
unfoldable pub least_under : ℕ → ℕ → ℕ
least_under half zero = 0
least_under half (suc l) = suc (half * least_under half l)
