-- What a walk over all instants finds in a sound image is a run for each leaf entry of the tree that it shows. Assumes nothing.
use Prim.Native.Nat.{ℕ, zero, suc, ◌-◌, ◌≤◌, ◌<◌, max}
use mathlib.Core.Path.{◌≡◌, refl, sym, ap, ◌∙◌}
use mathlib.Core.Bool.{true}
use mathlib.Core.List.{List, [], ◌∷◌, ◌++◌, map}
use native.Mathlib.Omega.{arith}
use lib.ListN.{length, get_or, length-map}
use Rattle.lists.specs.Lists.{listed, concat_map}
use Rattle.lists.proofs.All.{all_at}
use Rattle.lists.proofs.Concat.{concat_map_more, concat_map_same}
use Rattle.lists.proofs.Listed.{listed_get_or}
use Rattle.rule.specs.declared.Pair.{Pair}
use Rattle.rule.specs.Pairs.{combine}
use Rattle.rule.specs.Time.{END}
use Rattle.page.specs.declared.Entry.{Entry}
use Rattle.page.specs.declared.Head.{Head}
use Rattle.page.specs.Entries.{at as entry_in}
use Rattle.page.specs.Layout.{entry_count, start_at, pair_at, child_at, entry_at, entries_of, free_level}
use Rattle.page.specs.Fit.{PageContext, root_context, context_below}
use Rattle.page.proofs.Laws.Trees.{length_entries_of, at_entries_of}
use Rattle.image.specs.Images.{entries_in, page_at, image_of}
use Rattle.image.specs.Sound.{tree_fit}
use Rattle.image.specs.Listing.{Run, Walked, nothing, then, in_turn, under, leaf_run, walk, walk_over}
use Rattle.image.proofs.Cells.{cell_tree}
use Rattle.fit.proofs.Laws.Pages.{PageFit}
use Rattle.soundness.proofs.Tree.{tree_top, tree_parts}
use Rattle.soundness.proofs.Sound.{the_head, SoundFacts}
use Rattle.soundness.proofs.Entries.{leaf_walked, inner_walked, entry_within}
use Rattle.tree.specs.Tree.{Node, Subtree, Nodes, no_node, flat}
use Rattle.tree.specs.Cut.{State, root_node}
use Rattle.tree.specs.Runs.{runs_under, runs_in, runs_of}
use Rattle.refinement.specs.Represents.{Stores, Represents}
use Rattle.refinement.proofs.Paths.{at_flat}

-- walks in turn find the runs of each, one behind another
in_turn_runs : (n : ℕ) (f : ℕ → Walked) → (in_turn n f).runs ≡ concat_map (λ i. (f i).runs) (listed n (λ i. i))
unfolding in_turn then nothing concat_map listed
in_turn_runs zero f = refl
in_turn_runs (suc n) f = ap (λ rs. rs ++ (f n).runs) (in_turn_runs n f) ∙ sym (concat_map_more (λ i. (f i).runs) (λ i. i) n)

turns_runs : {A : Type 0} (f : ℕ → Walked) (xs : List A) (d : A) (g : A → List Run)
    → ((i : ℕ) → i < length xs → (f i).runs ≡ g (get_or xs i d)) → (in_turn (length xs) f).runs ≡ concat_map g xs
turns_runs f xs d g h =
    in_turn_runs (length xs) f
    ∙ (concat_map_same (λ i. (f i).runs) (λ i. i) g (λ i. get_or xs i d) (length xs) h ∙ ap (concat_map g) (listed_get_or xs d))

module _ (half : ℕ) (h : Head) (img : List ℕ) where
  abbrev rule : Pair → Pair → Pair
  rule = combine h.kind

  -- the page under x has the tree's entries
  record SamePage (l : ℕ) (x : Node (Subtree (suc l))) : Type 0 where
    number : entry_count (page_at half img x.entry.child) ≡ length x.subtree
    entry : (i : ℕ) → i < length x.subtree
        → entry_at half (page_at half img x.entry.child) i ≡ (get_or x.subtree i (no_node l)).entry

  same_page : (l : ℕ) (at : PageContext) (x : Node (Subtree (suc l))) → at.level ≡ l → l < free_level
      → PageFit half h at (page_at half img x.entry.child) → Stores (suc l) (image_of half img).page x → SamePage l x
  unfolding Stores image_of entries_in
  same_page l at x v small f shown =
      let s : List ℕ = page_at half img x.entry.child in
      let es : entries_of half s ≡ flat x.subtree = sym (ap entries_in (cell_tree half s (omega (arith, f.level))))
      ∙ ap entries_in shown.0 in
      let n : length (entries_of half s) ≡ entry_count s = length_entries_of half s ∙ omega (arith, f.most) in
      let m : length (flat x.subtree) ≡ length x.subtree = length-map x.subtree (λ y. y.entry) in
      let number : entry_count s ≡ length x.subtree = sym n ∙ (ap length es ∙ m) in
      record {
        number = number;
        entry = λ i lt.
            sym (at_entries_of half s i (omega arith) (omega (arith, f.most)))
            ∙ (ap (λ (r : List Entry). entry_in r i) es ∙ at_flat l x.subtree i);
      }

  walk_runs : (l : ℕ) (at : PageContext) (x : Node (Subtree (suc l))) → at.level ≡ l → l < free_level → at.hi ≤ END
      → tree_fit half h img l at x.entry.child ≡ true → Stores (suc l) (image_of half img).page x
      → (walk half h img 0 END l at x.entry.child).runs ≡ runs_in rule l x.subtree
  unfolding runs_in runs_under entry_at leaf_run under Stores context_below
  walk_runs zero at x v small high e shown =
      let s : List ℕ = page_at half img x.entry.child in
      let f = tree_top half h img zero at x.entry.child e in
      let k = same_page zero at x v small f shown in
      let d = no_node 0 in
      ap (λ w. w.runs) (leaf_walked half h img at x.entry.child f high)
      ∙ (ap (λ n. (in_turn n (λ i. leaf_run 0 (start_at s i) (pair_at half s i))).runs) k.number
      ∙ turns_runs (λ i. leaf_run 0 (start_at s i) (pair_at half s i)) x.subtree d (λ y. runs_under rule 0 y)
      (λ i lt.
      let from : max 0 (start_at s i) ≡ (get_or x.subtree i d).entry.start = omega arith ∙ ap (λ (z : Entry). z.start) (k.entry i lt) in
      let pair : pair_at half s i ≡ (get_or x.subtree i d).entry.pair = ap (λ (z : Entry). z.pair) (k.entry i lt) in
      λ j. record { start = from j; pair = pair j } ∷ []))
  walk_runs (suc l) at x v small high e shown =
      let s : List ℕ = page_at half img x.entry.child in
      let f = tree_parts half h img l at x.entry.child e in
      let k = same_page (suc l) at x v small f.0 shown in
      let d = no_node (suc l) in
      let below : ℕ → Walked = λ i.
      under rule (pair_at half s i) (walk half h img 0 END l (context_below half s at i) (child_at half s i)) in
      ap (λ w. w.runs) (inner_walked half h img l at x.entry.child f.0 high)
      ∙ (ap (λ n. (in_turn n below).runs) k.number
      ∙ turns_runs below x.subtree d (λ y. runs_under rule (suc l) y)
      (λ i lt.
      let y = get_or x.subtree i d in
      let m : i < entry_count s = omega (arith, k.number) in
      let child : child_at half s i ≡ y.entry.child = ap (λ (z : Entry). z.child) (k.entry i lt) in
      let pair : pair_at half s i ≡ y.entry.pair = ap (λ (z : Entry). z.pair) (k.entry i lt) in
      let c : PageContext = context_below half s at i in
      let runs : (walk half h img 0 END l c (child_at half s i)).runs ≡ runs_in rule l y.subtree =
      ap (λ p. (walk half h img 0 END l c p).runs) child
      ∙ walk_runs l c y (omega arith) (omega arith) (entry_within f.0 high i m)
      (sym (ap (λ p. tree_fit half h img l c p) child) ∙ f.1 i m) (all_at i d shown.1 lt) in
      λ j. map (λ r. record { start = r.start; pair = rule (pair j) r.pair }) (runs j)))

-- from the root
pub walked_runs : (half : ℕ) (img : List ℕ) → SoundFacts half img → (Y : State) → Represents (image_of half img) Y
    → (walk_over half img 0 END).runs ≡ runs_of (combine (the_head half img).kind) Y.tree
unfolding walk_over image_of root_node root_context
walked_runs half img f Y shown =
    let h : Head = the_head half img in
    let l : ℕ = Y.tree.level in
    let v : h.height - 1 ≡ l = omega (arith, shown.height) in
    let fits : tree_fit half h img l (root_context h) Y.tree.root ≡ true =
    (λ j. tree_fit half h img (sym v j) (root_context h) (sym shown.root j)) ∙ f.fit.tree in
    (λ j. (walk half h img 0 END (v j) (root_context h) (shown.root j)).runs)
    ∙ walk_runs half h img l (root_context h) (root_node Y.tree) v (omega (arith, f.fit.head.height_most)) (omega arith) fits
    shown.below
