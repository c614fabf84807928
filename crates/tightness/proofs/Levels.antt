-- From the leaves up to the root: what holds of a level holds of the one above it, and of the root, which is one page. Assumes nothing.
use Prim.Native.Nat.{ℕ, zero, suc, ◌+◌, ◌*◌, ◌≤◌, ◌<◌}
use mathlib.Core.Path.{◌≡◌, refl, sym, ap, ◌∙◌, subst}
use mathlib.Core.Logic.{inl}
use mathlib.Core.List.{◌∷◌}
use native.Mathlib.Omega.{arith}
use lib.Dec.{leb}
use lib.IntN.{nat_abs}
use lib.ListN.{length, get_or, length-map}
use borrow.Author.Tests.{leb-true, leb-false}
use Rattle.lists.specs.Lists.{sum, All}
use Rattle.lists.proofs.Choices.{cond_one}
use Rattle.lists.proofs.Listed.{length_listed}
use Rattle.lists.proofs.Totals.{from}
use Rattle.rule.specs.declared.Pair.{Pair}
use Rattle.rule.specs.Pairs.{none}
use Rattle.rule.specs.Time.{END, most_value}
use Rattle.rule.proofs.Laws.{value_or_none_is}
use Rattle.image.specs.Images.{Image, tree, never_used}
use Rattle.tight.specs.Tight.{pages_for, in_page, level_sizes, cells}
use Rattle.tight.proofs.Pages.{pages_fewer, pages_several}
use Rattle.tight.proofs.Levels.{map_in_page, all_in_page, sizes_more, cell_here, cell_above}
use Rattle.tree.specs.Tree.{Nodes, flat, pair_under, Tree}
use Rattle.tree.specs.Shape.{Seg, Shaped, Leaf, root_least}
use Rattle.tree.specs.Conserved.{PathBounded, times_below}
use Rattle.tree.proofs.Seg.{least_one}
use Rattle.tree.proofs.Look.{look}
use Rattle.refinement.specs.Represents.{Stores}
use Rattle.invariant.specs.Invariant.{AnyPair, ValueOrNone, Bounds}
use Rattle.tightness.specs.State.{page_node, nodes_above, tree_over}
use Rattle.lists.proofs.All.{all_listed}
use Rattle.tightness.proofs.Pages.{flat_above, below_above, spans_above, answers_above}

-- ---- the pairs on every path

module _ (half first l : ℕ) (ns : Nodes l) where
  path_above : (norm : Pair → ℕ) (Each : Pair → Type 0) (most : ℕ) → norm none ≡ 0 → Each none
      → All (PathBounded norm Each most l 0) ns → All (PathBounded norm Each most (suc l) 0) (nodes_above half first ns)
  unfolding PathBounded nodes_above page_node
  path_above norm Each most zeroed fits a =
      let e : 0 + norm none ≡ 0 = omega (arith, zeroed) in
      all_listed (pages_for half (length ns)) (page_node half first ns)
      (λ i lt. (
        fits,
        omega (arith, e),
        subst (λ n. All (PathBounded norm Each most l n) (in_page half ns i)) (sym e) (all_in_page half ns i a),
      ))

  bounds_above : (kind changes p : ℕ) → Bounds kind changes (record { level = l; root = first; nodes = ns })
      → Bounds kind changes (record { level = suc l; root = p; nodes = nodes_above half first ns })
  bounds_above kind changes p b =
      record {
        sums = λ one. path_above (λ p. nat_abs p.sum) AnyPair (most_value * changes) refl tt (b.sums one);
        counts = λ one. path_above (λ p. nat_abs p.count) AnyPair changes refl tt (b.counts one);
        values = λ other. path_above (λ p. 0) ValueOrNone 0 refl ((value_or_none_is none).1 (inl refl)) (b.values other);
      }

-- ---- a level

module _ (half : ℕ) (X : Image) (leaves : Nodes 0) where
  -- The entries of level l: the pages below them are those before `first`, and those from there on are this level's own and the ones
  -- above, of `most` levels at most. Every instant has the pair that the leaves give it.
  pub record Level (most l first : ℕ) (ns : Nodes l) : Type 0 where
    pub least : root_least l ≤ length ns
    pub enough : length ns ≤ most
    pub spans : Seg (Shaped half Leaf l) 0 END ns
    pub stored : All (Stores l X.page) ns
    pub follow : (i : ℕ) → X.page (first + i) ≡ get_or (cells half most l first (flat ns)) i never_used
    pub once : (q : ℕ) → times_below l q ns + from first q ≡ from 1 q
    pub bounds : Bounds X.head.kind X.head.changes (record { level = l; root = first; nodes = ns })
    pub pairs : (◌⊕◌ : Pair → Pair → Pair) → ((p : Pair) → ◌⊕◌ none p ≡ p) → (u : ℕ) (d : Pair)
        → look (pair_under ◌⊕◌ l u) u d ns ≡ look (pair_under ◌⊕◌ 0 u) u d leaves
    pub height : l + length (level_sizes half most (length ns)) ≡ X.head.height
    pub mark : first + sum (λ p. p) (level_sizes half most (length ns)) ≡ X.head.mark

  -- the root: its entries are a level of one page
  pub record Top (T : Tree) : Type 0 where
    pub most : ℕ
    pub holds : Level (suc most) T.level T.root T.nodes
    pub few : pages_for half (length T.nodes) ≤ 1

  module _ (some : 1 ≤ half) (most l first : ℕ) (ns : Nodes l) (v : Level (suc most) l first ns) where
    abbrev count : ℕ
    count = pages_for half (length ns)

    one : 1 ≤ length ns
    one = omega (arith, v.least, least_one l)

    flat_length : length (flat ns) ≡ length ns
    flat_length = length-map ns (λ x. x.entry)

    -- the page at its place
    pub page_here : (i : ℕ) → i < count → X.page (first + i) ≡ tree l (flat (in_page half ns i))
    page_here i lt =
        v.follow i
        ∙ cell_here half most l first (flat ns) i (omega (arith, ap (pages_for half) flat_length))
        ∙ ap (tree l) (sym (map_in_page (λ x. x.entry) half ns i))

    module _ (two : 2 ≤ count) where
      abbrev higher : Nodes (suc l)
      higher = nodes_above half first ns

      length_higher : length higher ≡ count
      unfolding nodes_above
      length_higher = length_listed count (page_node half first ns)

      stored_above : All (Stores (suc l) X.page) higher
      unfolding nodes_above page_node Stores
      stored_above =
          all_listed count (page_node half first ns) (λ i lt. (page_here i lt, all_in_page half ns i v.stored))

      follow_above : (i : ℕ) → X.page (first + count + i) ≡ get_or (cells half most (suc l) (first + count) (flat higher)) i never_used
      follow_above i =
          let p : ℕ = pages_for half (length (flat ns)) in
          let e : p ≡ count = ap (pages_for half) flat_length in
          let at : first + count + i ≡ first + (p + i) = omega arith in
          ap X.page at
          ∙ v.follow (p + i)
          ∙ cell_above half most l first (flat ns) i (omega arith)
          ∙ (λ j. get_or (cells half most (suc l) (first + e j) (sym (flat_above half first l ns) j)) i never_used)

      -- one level up
      pub up : Level most (suc l) (first + count) higher
      unfolding root_least sum
      up =
          let n : length higher ≡ count = length_higher in
          let few : count < length ns = pages_fewer half (length ns) some (pages_several half (length ns) some two) in
          let sizes : level_sizes half (suc most) (length ns) ≡ count ∷ level_sizes half most (length higher) =
          sizes_more half most (length ns) two ∙ ap (λ m. count ∷ level_sizes half most m) (sym n) in
          record {
            least = omega arith;
            enough = omega (arith, v.enough);
            spans = spans_above half first l ns some one two v.spans;
            stored = stored_above;
            follow = follow_above;
            once = λ q. below_above half first l ns some one q ∙ v.once q;
            bounds = bounds_above half first l ns X.head.kind X.head.changes (first + count) v.bounds;
            pairs = λ ◌⊕◌ unit u d. answers_above half first l ns some one ◌⊕◌ unit two v.spans u d ∙ v.pairs ◌⊕◌ unit u d;
            height = omega (arith, ap length sizes, v.height);
            mark = omega (arith, ap (sum (λ p. p)) sizes, v.mark);
          }

  -- up to the root
  pub top : 1 ≤ half → (most l first : ℕ) (ns : Nodes l) → Level most l first ns → Top (tree_over half most l first ns)
  unfolding tree_over
  top some zero l first ns v = absurd (omega (arith, v.least, v.enough, least_one l))
  top some (suc most) l first ns v =
      cond_one Top (leb (pages_for half (length ns)) 1)
      (λ e. record { most = most; holds = v; few = leb-true _ _ e })
      (λ e. top some most (suc l) _ _ (up some most l first ns v (leb-false _ _ e)))
