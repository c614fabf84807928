-- The cut at t, on trees: what `Rattle.steps.specs.Cut` does to the tree that the image shows. Assumes nothing.
use Rattle.std.specs.Prelude.{ℕ, zero, suc, cond, List, [], ◌∷◌, length, take, drop, get_or, eqb, leb}
use Rattle.rule.specs.Pairs.{none}
use Rattle.rule.specs.Time.{END}
use Rattle.page.specs.Entries.{entry, at, index_of}
use Rattle.lists.specs.Lists.{splice}
use Rattle.page.specs.Layout.{capacity}
use Rattle.tree.specs.Tree.{Node, Subtree, no_node, flat, Tree}
use Rattle.tree.specs.Supply.{Supply, next_page, without_next}

pub record Cutting (A : Type 0) : Type 0 where
  pub became : List (Node A)
  pub supply : Supply

unfoldable pub cut_leaf : ℕ → Node (Subtree 0) → List (Node (Subtree 0))
cut_leaf t x =
    cond (eqb x.entry.start t) (x ∷ [])
    (x ∷ record { entry = entry t x.entry.pair x.entry.child; subtree = tt } ∷ [])

-- the page under x has the entries es
unfoldable pub not_split : {A : Type 0} → Node (List (Node A)) → List (Node A) → Supply → Cutting (List (Node A))
not_split x es S = record { became = record { entry = x.entry; subtree = es } ∷ []; supply = S }

unfoldable pub split : {A : Type 0} → ℕ → Node (List (Node A)) → List (Node A) → Supply → Cutting (List (Node A))
split half x es S =
    let right = drop half es in
    record {
      became =
          record { entry = x.entry; subtree = take half es }
          ∷ record { entry = entry (at (flat right) 0).start x.entry.pair (next_page S); subtree = right }
          ∷ [];
      supply = without_next S;
    }

unfoldable pub split_if_full : {A : Type 0} → ℕ → Node (List (Node A)) → List (Node A) → Supply → Cutting (List (Node A))
split_if_full half x es S = cond (leb (length es) (capacity half)) (not_split x es S) (split half x es S)

unfoldable pub cut_node : ℕ → ℕ → (l : ℕ) → Node (Subtree l) → Supply → Cutting (Subtree l)
cut_node half t zero x S = record { became = cut_leaf t x; supply = S }
cut_node half t (suc l) x S =
    let i = index_of t (flat x.subtree) in
    let r = cut_node half t l (get_or x.subtree i (no_node l)) S in
    let es = splice i r.became x.subtree in
    cond (eqb (length r.became) 1) (not_split x es r.supply) (split_if_full half x es r.supply)

-- a tree with its supply
pub record State : Type 0 where
  pub tree : Tree
  pub supply : Supply

-- the root as an entry
unfoldable pub root_node : (T : Tree) → Node (Subtree (suc T.level))
root_node T = record { entry = entry 0 none T.root; subtree = T.nodes }

-- one entry is the root again, two stand in a new one
unfoldable pub grow_if_split : (l : ℕ) → List (Node (Subtree (suc l))) → Supply → State
grow_if_split l [] S = record { tree = record { level = l; root = 0; nodes = [] }; supply = S }
grow_if_split l (x ∷ []) S = record { tree = record { level = l; root = x.entry.child; nodes = x.subtree }; supply = S }
grow_if_split l (x ∷ y ∷ zs) S =
    record { tree = record { level = suc l; root = next_page S; nodes = x ∷ y ∷ zs }; supply = without_next S }

unfoldable pub cut : ℕ → ℕ → State → State
cut half t Y =
    let T = Y.tree in
    let r = cut_node half t (suc T.level) (root_node T) Y.supply in
    cond (leb END t) Y (grow_if_split T.level r.became r.supply)
