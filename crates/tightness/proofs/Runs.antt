-- Below the entries of every level of a tight tree stand the runs, and no inner entry has a pair. Assumes nothing.
use Prim.Native.Nat.{ℕ, zero, suc, ◌+◌, ◌≤◌}
use mathlib.Core.Path.{◌≡◌, refl, sym, ap, ◌∙◌}
use mathlib.Core.List.{List, [], ◌∷◌, ◌++◌, map}
use native.Mathlib.Omega.{arith}
use lib.Dec.{leb}
use lib.ListN.{length, take}
use borrow.Author.Tests.{leb-false}
use Rattle.lists.specs.Lists.{listed, concat_map, total, All, all_none, all_more}
use Rattle.lists.proofs.All.{all_listed}
use Rattle.lists.proofs.Choices.{cond_one}
use Rattle.lists.proofs.Concat.{concat_map_append, concat_map_more}
use Rattle.rule.specs.declared.Pair.{Pair}
use Rattle.rule.specs.Pairs.{none}
use Rattle.image.specs.Images.{Image}
use Rattle.image.specs.Listing.{Run, run}
use Rattle.tight.specs.Tight.{pages_for, entries_before, leaf_entry}
use Rattle.tight.proofs.Levels.{in_page_more, in_page_all, all_in_page}
use Rattle.tree.specs.Tree.{Node, Subtree, Nodes, Tree}
use Rattle.tree.specs.Runs.{runs_under as walked_under, runs_in}
use Rattle.tree.proofs.Seg.{least_one}
use Rattle.tightness.specs.State.{leaf_nodes, page_node, nodes_above, tree_over}
use Rattle.tightness.proofs.Levels.{Level, up}

-- ---- what is below an entry

-- its leaf entries, as runs
unfoldable pub runs_under : (l : ℕ) → Node (Subtree l) → List Run
runs_under zero x = run x.entry.start x.entry.pair ∷ []
runs_under (suc l) x = concat_map (λ y. runs_under l y) x.subtree

-- neither it nor an inner entry below it has a pair
unfoldable pub Bare : (l : ℕ) → Node (Subtree l) → Type 0
Bare zero x = Unit {0}
Bare (suc l) x = (x.entry.pair ≡ none) × All (λ y. Bare l y) x.subtree

-- so a walk finds the leaf entries as they are
module _ (◌⊕◌ : Pair → Pair → Pair) (unit : (p : Pair) → ◌⊕◌ none p ≡ p) where
  nothing_above : (rs : List Run) → map (λ (r : Run). run r.start (◌⊕◌ none r.pair)) rs ≡ rs
  nothing_above [] = refl
  nothing_above (r ∷ rs) = λ j. run r.start (unit r.pair j) ∷ nothing_above rs j

  each_bare : (l : ℕ) → ((x : Node (Subtree l)) → Bare l x → walked_under ◌⊕◌ l x ≡ runs_under l x) → (es : Nodes l) → All (λ x. Bare l x) es
      → runs_in ◌⊕◌ l es ≡ concat_map (runs_under l) es
  unfolding runs_in concat_map
  each_bare l each [] all_none = refl
  each_bare l each (x ∷ es) (all_more b a) = λ j. each x b j ++ each_bare l each es a j

  pub bare_runs : (l : ℕ) (es : Nodes l) → All (λ x. Bare l x) es → runs_in ◌⊕◌ l es ≡ concat_map (runs_under l) es
  unfolding runs_under walked_under runs_in Bare
  bare_runs zero es a = each_bare 0 (λ x b. refl) es a
  bare_runs (suc l) es a =
      each_bare (suc l)
      (λ x b.
      ap (λ p. map (λ (r : Run). run r.start (◌⊕◌ p r.pair)) (runs_in ◌⊕◌ l x.subtree)) b.0
      ∙ (nothing_above (runs_in ◌⊕◌ l x.subtree) ∙ bare_runs l x.subtree b.1)) es a

pub runs_again : (runs : List Run) → concat_map (runs_under 0) (leaf_nodes runs) ≡ runs
unfolding concat_map runs_under leaf_nodes leaf_entry
runs_again [] = refl
runs_again (r ∷ rs) = ap (λ rest. r ∷ rest) (runs_again rs)

pub leaves_bare : (runs : List Run) → All (Bare 0) (leaf_nodes runs)
unfolding Bare leaf_nodes
leaves_bare [] = all_none
leaves_bare (r ∷ rs) = all_more tt (leaves_bare rs)

module _ (half first l : ℕ) (ns : Nodes l) where
  -- below the first i entries of the level above
  runs_first : (i : ℕ)
      → concat_map (runs_under (suc l)) (listed i (page_node half first ns))
      ≡ concat_map (runs_under l) (take (entries_before (length ns) (pages_for half (length ns)) i) ns)
  unfolding listed total entries_before page_node concat_map runs_under
  runs_first zero = refl
  runs_first (suc i) =
      let before : List (Node (Subtree l)) = take (entries_before (length ns) (pages_for half (length ns)) i) ns in
      concat_map_more (runs_under (suc l)) (page_node half first ns) i
      ∙ ap (λ r. r ++ runs_under (suc l) (page_node half first ns i)) (runs_first i)
      ∙ sym (concat_map_append (runs_under l) before (page_node half first ns i).subtree)
      ∙ sym (ap (concat_map (runs_under l)) (in_page_more half ns i))

  runs_above : 1 ≤ half → 1 ≤ length ns → concat_map (runs_under (suc l)) (nodes_above half first ns) ≡ concat_map (runs_under l) ns
  unfolding nodes_above
  runs_above some one = runs_first (pages_for half (length ns)) ∙ ap (concat_map (runs_under l)) (in_page_all half ns some one)

  bare_above : All (Bare l) ns → All (Bare (suc l)) (nodes_above half first ns)
  unfolding nodes_above page_node Bare
  bare_above a = all_listed (pages_for half (length ns)) (page_node half first ns) (λ i lt. (refl, all_in_page half ns i a))

-- ---- level by level

module _ (half : ℕ) (X : Image) (runs : List Run) where
  -- the entries of level l, as `Level` has them
  pub record Laid (most l first : ℕ) (ns : Nodes l) : Type 0 where
    pub holds : Level half X (leaf_nodes runs) most l first ns
    pub bare : All (Bare l) ns
    pub below : concat_map (runs_under l) ns ≡ runs

  -- those of the root
  pub record RootLaid (T : Tree) : Type 0 where
    pub bare : All (Bare T.level) T.nodes
    pub below : concat_map (runs_under T.level) T.nodes ≡ runs

  module _ (some : 1 ≤ half) where
    -- one level up
    pub laid_above : (most l first : ℕ) (ns : Nodes l) → Laid (suc most) l first ns → 2 ≤ pages_for half (length ns)
        → Laid most (suc l) (first + pages_for half (length ns)) (nodes_above half first ns)
    laid_above most l first ns v two =
        record {
          holds = up half X (leaf_nodes runs) some most l first ns v.holds two;
          bare = bare_above half first l ns v.bare;
          below = runs_above half first l ns some (omega (arith, v.holds.least, least_one l)) ∙ v.below;
        }

    -- up to the root
    pub root_laid : (most l first : ℕ) (ns : Nodes l) → Laid most l first ns → RootLaid (tree_over half most l first ns)
    unfolding tree_over
    root_laid zero l first ns v = record { bare = v.bare; below = v.below }
    root_laid (suc most) l first ns v =
        cond_one RootLaid (leb (pages_for half (length ns)) 1)
        (λ e. record { bare = v.bare; below = v.below })
        (λ e. root_laid most (suc l) _ _ (laid_above most l first ns v (leb-false _ _ e)))
