-- Which tree and which supply of pages an image shows. A means of proof: it carries what is proved of trees over to images.
-- Assumes nothing.
use Rattle.std.specs.Prelude.{ℕ, zero, suc, ◌≤◌, ◌<◌, ◌≡◌, List, [], ◌∷◌, length}
use Rattle.lists.specs.Lists.{All}
use Rattle.image.specs.Images.{Image, Cell, tree, free, never_used}
use Rattle.rule.specs.Time.{END}
use Rattle.tree.specs.Tree.{Node, Subtree, flat}
use Rattle.tree.specs.Supply.{Supply}
use Rattle.tree.specs.Cut.{State, root_node}
use Rattle.tree.specs.Shape.{Seg, root_least}
use Rattle.tree.specs.Conserved.{held}

-- the pages hold what is below an entry of a page of level l
unfoldable pub Stores : (l : ℕ) → (ℕ → Cell) → Node (Subtree l) → Type 0
Stores zero pages x = Unit {0}
Stores (suc l) pages x =
    (pages x.entry.child ≡ tree l (flat x.subtree)) × All (λ y. Stores l pages y) x.subtree

-- free pages that lead from one to the next, from page p on
pub data Linked (pages : ℕ → Cell) : ℕ → List ℕ → Type 0 where
  ends : Linked pages 0 []
  leads : {p next : ℕ} {ps : List ℕ} → pages p ≡ free next → Linked pages next ps → Linked pages p (p ∷ ps)

-- An image has these pages to be taken.
pub record Supplied (X : Image) (S : Supply) : Type 0 where
  pub length_true : X.head.chain ≡ length S.chain
  pub linked : Linked X.page X.head.free S.chain
  pub mark : X.head.mark ≡ S.mark
  pub unused : (p : ℕ) → X.head.mark ≤ p → p < X.head.pages → X.page p ≡ never_used

-- An image shows a tree and a supply.
pub record Represents (X : Image) (Y : State) : Type 0 where
  pub height : X.head.height ≡ suc Y.tree.level
  pub root : X.head.root ≡ Y.tree.root
  pub below : Stores (suc Y.tree.level) X.page (root_node Y.tree)
  pub supplied : Supplied X Y.supply

-- no page is held twice
unfoldable pub Once : State → Type 0
Once Y = (p : ℕ) → held p Y ≤ 1

-- Every leaf page below an entry has an entry at least, and every inner one two.
unfoldable pub Stocked : (l : ℕ) → Node (Subtree l) → Type 0
Stocked zero x = Unit {0}
Stocked (suc l) x = (root_least l ≤ length x.subtree) × All (λ y. Stocked l y) x.subtree

-- the whole tree
unfoldable pub Full : State → Type 0
Full Y = Stocked (suc Y.tree.level) (root_node Y.tree)

-- The entries below follow each other from lo to hi with no gap, on every level.
unfoldable pub Ordered : (l : ℕ) → ℕ → ℕ → Node (Subtree l) → Type 0
Ordered zero lo hi x = Unit {0}
Ordered (suc l) lo hi x = Seg (λ a b y. Ordered l a b y) lo hi x.subtree

unfoldable pub Gapless : State → Type 0
Gapless Y = Ordered (suc Y.tree.level) 0 END (root_node Y.tree)
