-- The tree and the supply of an image, read page by page. Assumes nothing.
use Prim.Native.Nat.{ℕ, zero, suc, ◌-◌, ◌≤◌, min}
use mathlib.Core.Path.{◌≡◌, refl, ap, ◌∙◌}
use mathlib.Core.List.{List, [], ◌∷◌, map}
use native.Mathlib.Omega.{arith}
use lib.ListN.{length, length-map}
use Rattle.page.specs.declared.Entry.{Entry}
use Rattle.page.specs.Layout.{capacity, entry_count, entry_at, entries_of}
use Rattle.lists.specs.Lists.{listed}
use Rattle.page.proofs.Laws.Trees.{length_entries_of}
use Rattle.image.specs.Images.{page_at}
use Rattle.tree.specs.Tree.{Node, Subtree, Nodes, flat, Tree}
use Rattle.tree.specs.Cut.{State}
use Rattle.soundness.proofs.Sound.{the_head, the_chain}

module _ (half : ℕ) (img : List ℕ) where
  -- what is below an entry of level l that leads to page p
  unfoldable pub below : (l : ℕ) → ℕ → Subtree l
  below zero p = tt
  below (suc l) p = map (λ e. record { entry = e; subtree = below l e.child }) (entries_of half (page_at half img p))

  -- an entry of level l with what is below it
  abbrev pub loaded : (l : ℕ) → Entry → Node (Subtree l)
  loaded l e = record { entry = e; subtree = below l e.child }

  -- the entries of page p, of level l
  abbrev pub load : (l : ℕ) → ℕ → Nodes l
  load l p = below (suc l) p

  abbrev pub tree_in : Tree
  tree_in = record {
    level = (the_head half img).height - 1;
    root = (the_head half img).root;
    nodes =
        load ((the_head half img).height - 1) (the_head half img).root;
  }

  abbrev pub state_in : State
  state_in = record { tree = tree_in; supply = record { chain = the_chain half img; mark = (the_head half img).mark } }

  pub load_is : (l p : ℕ) → load l p ≡ map (loaded l) (entries_of half (page_at half img p))
  unfolding below
  load_is l p = refl

  pub load_listed : (l p : ℕ) → entry_count (page_at half img p) ≤ capacity half
      → load l p ≡ map (loaded l) (listed (entry_count (page_at half img p)) (λ i. entry_at half (page_at half img p) i))
  unfolding below entries_of
  load_listed l p m =
      let s : List ℕ = page_at half img p in
      let all : min (entry_count s) (capacity half) ≡ entry_count s = omega arith in
      ap (λ n. map (loaded l) (listed n (λ i. entry_at half s i))) all

  pub load_length : (l p : ℕ) → entry_count (page_at half img p) ≤ capacity half → length (load l p) ≡ entry_count (page_at half img p)
  load_length l p m =
      ap length (load_is l p) ∙ length-map (entries_of half (page_at half img p)) (loaded l)
      ∙ length_entries_of half (page_at half img p) ∙ omega arith

  flat_all : (l : ℕ) (es : List Entry) → flat (map (loaded l) es) ≡ es
  flat_all l [] = refl
  flat_all l (e ∷ es) = ap (λ (r : List Entry). e ∷ r) (flat_all l es)

  pub flat_load : (l p : ℕ) → flat (load l p) ≡ entries_of half (page_at half img p)
  flat_load l p = ap (λ r. flat r) (load_is l p) ∙ flat_all l (entries_of half (page_at half img p))
