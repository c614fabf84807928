-- The tree that an image shows: every page with the pages below it. A means of proof: no statement of document 01 speaks of it.
-- Assumes nothing.
use Rattle.std.specs.Prelude.{ℕ, zero, suc, List, [], ◌∷◌, map, get_or}
use Rattle.lists.specs.Lists.{concat_map}
use Rattle.rule.specs.declared.Pair.{Pair}
use Rattle.page.specs.declared.Entry.{Entry}
use Rattle.page.specs.Entries.{no_entry, index_of}

-- An entry with what is below it.
pub record Node (A : Type 0) : Type 0 where
  pub entry : Entry
  pub subtree : A

-- What is below an entry of a page of level l: nothing below a leaf's, else the entries of a page one level down.
abbrev pub Subtree : ℕ → Type 0
Subtree zero = Unit {0}
Subtree (suc l) = List (Node (Subtree l))

-- the entries of a page of level l
abbrev pub Nodes : ℕ → Type 0
Nodes l = List (Node (Subtree l))

-- what stands for what is below an entry that is not there
abbrev pub no_subtree : (l : ℕ) → Subtree l
no_subtree zero = tt
no_subtree (suc l) = []

-- what stands for an entry that is not there
abbrev pub no_node : (l : ℕ) → Node (Subtree l)
no_node l = record { entry = no_entry; subtree = no_subtree l }

-- the entries as the page holds them
abbrev pub flat : {A : Type 0} → List (Node A) → List Entry
flat es = map (λ x. x.entry) es

-- the entry that has t
unfoldable pub node_of : (l : ℕ) → ℕ → Nodes l → Node (Subtree l)
node_of l t es = get_or es (index_of t (flat es)) (no_node l)

module _ (◌⊕◌ : Pair → Pair → Pair) where
  infixl 60 ◌⊕◌
  -- an instant's pair: that of the entry that has it, combined with what is below
  unfoldable pub pair_under : (l : ℕ) → ℕ → Node (Subtree l) → Pair
  pair_under zero t x = x.entry.pair
  pair_under (suc l) t x = x.entry.pair ⊕ pair_under l t (node_of l t x.subtree)

  unfoldable pub pair_in : (l : ℕ) → ℕ → Nodes l → Pair
  pair_in l t es = pair_under l t (node_of l t es)

-- the pages below an entry: its child, and those below that; none below a leaf's
unfoldable pub pages_under : (l : ℕ) → Node (Subtree l) → List ℕ
pages_under zero x = []
pages_under (suc l) x = x.entry.child ∷ concat_map (λ y. pages_under l y) x.subtree

-- A whole tree: the level and number of the root page, and its entries.
pub record Tree : Type 0 where
  pub level : ℕ
  pub root : ℕ
  pub nodes : Nodes level

-- an instant's pair in a tree
abbrev pub pair_at : (Pair → Pair → Pair) → Tree → ℕ → Pair
pair_at ◌⊕◌ T t = pair_in ◌⊕◌ T.level t T.nodes
