-- A tight image has the structure of a sound one. Assumes nothing.
use Prim.Native.Nat.{ℕ, suc, ◌+◌, ◌-◌, ◌*◌, ◌≤◌}
use mathlib.Core.Path.{◌≡◌, refl, sym, ap, ◌∙◌}
use mathlib.Core.Bool.{cond}
use mathlib.Core.List.{List, [], ◌∷◌, map}
use native.Mathlib.Omega.{arith}
use native.Mathlib.Nat.{one-mul}
use lib.Dec.{leb-suc-zero}
use lib.ListN.{length, get_or, length-map, get_or-eq_default}
use borrow.Author.Tests.{eq-eqb, le-leb}
use Rattle.lists.specs.Lists.{sum}
use Rattle.lists.proofs.Times.{times_none, times_cons}
use Rattle.lists.proofs.Totals.{from, hit_from}
use Rattle.rule.specs.declared.Pair.{Pair}
use Rattle.rule.specs.Pairs.{none}
use Rattle.page.specs.Layout.{capacity}
use Rattle.page.proofs.Laws.Capacities.{names_itself, capacity_of_half, field_by_half}
use Rattle.image.specs.Images.{Image, tree, never_used}
use Rattle.image.specs.Listing.{Run}
use Rattle.tight.specs.Tight.{pages_for, level_sizes, sizes, pages_used, cells, leaf_entry, tight_cells, tight}
use Rattle.tight.proofs.Pages.{pages_enough, pages_some}
use Rattle.tight.proofs.Levels.{in_page_one, sizes_one, length_cells}
use Rattle.tree.specs.Tree.{flat, pair_in, pair_at, Tree}
use Rattle.tree.specs.Cut.{State, root_node}
use Rattle.tree.specs.Shape.{Shaped, Leaf, root_least, Formed}
use Rattle.tree.specs.Conserved.{times_spare, held}
use Rattle.tree.proofs.Seg.{least_one, seg_all, seg_some}
use Rattle.tree.proofs.Look.{pair_in_look}
use Rattle.refinement.specs.Represents.{Stores, ends, Represents}
use Rattle.refinement.proofs.Below.{below_leaf}
use Rattle.invariant.specs.Invariant.{Structure}
use Rattle.tightness.specs.State.{leaf_nodes, tight_state, Suited}
use Rattle.tightness.proofs.Levels.{Level, Top, page_here, top}

flat_leaves : (runs : List Run) → flat (leaf_nodes runs) ≡ map leaf_entry runs
unfolding leaf_nodes
flat_leaves [] = refl
flat_leaves (r ∷ rs) = ap (λ es. leaf_entry r ∷ es) (flat_leaves rs)

length_leaves : (runs : List Run) → length (leaf_nodes runs) ≡ length runs
unfolding leaf_nodes
length_leaves runs = length-map runs _

module _ (half pages kind window changes : ℕ) (runs : List Run) (g : Suited half pages kind window changes runs) where
  abbrev X : Image
  X = tight half pages kind window changes runs

  abbrev Y : State
  Y = tight_state half runs

  abbrev m : ℕ
  m = length runs

  some : 1 ≤ half
  some = omega (arith, g.half_least)

  -- ---- the leaves

  pub leaf_level : Level half X (leaf_nodes runs) m 0 1 (leaf_nodes runs)
  unfolding Shaped Stores root_least tight tight_cells sizes pages_used
  leaf_level =
      let n : length (leaf_nodes runs) ≡ m = length_leaves runs in
      record {
        least = seg_some g.spans (omega arith);
        enough = omega arith;
        spans = g.spans;
        stored = seg_all (λ a b x q. tt) g.spans;
        follow =
            λ i.
            let e : 1 + i - 1 ≡ i = omega arith in
            λ j. get_or (cells half m 0 1 (sym (flat_leaves runs) j)) (e j) never_used;
        once = λ q. omega (arith, below_leaf q (leaf_nodes runs));
        bounds = record { sums = g.bounded.sums; counts = g.bounded.counts; values = g.bounded.values };
        pairs = λ ◌⊕◌ unit u d. refl;
        height = omega (arith, ap (λ k. length (level_sizes half m k)) n);
        mark = omega (arith, ap (λ k. sum (λ p. p) (level_sizes half m k)) n);
      }

  -- ---- the root

  abbrev T : Tree
  T = Y.tree

  root : Top half X (leaf_nodes runs) T
  unfolding tight_state
  root = top half X (leaf_nodes runs) some m 0 1 (leaf_nodes runs) leaf_level

  root_entries : 1 ≤ length T.nodes
  root_entries = omega (arith, root.holds.least, least_one T.level)

  root_alone : pages_for half (length T.nodes) ≡ 1
  root_alone = omega (arith, root.few, pages_some half (length T.nodes) some root_entries)

  root_sizes : level_sizes half (suc root.most) (length T.nodes) ≡ 1 ∷ []
  root_sizes = sizes_one half root.most (length T.nodes) root.few ∙ ap (λ p. p ∷ []) root_alone

  root_high : X.head.height ≡ suc T.level
  root_high = omega (arith, root.holds.height, ap length root_sizes)

  root_last : X.head.root ≡ T.root
  unfolding tight sum
  root_last = omega (arith, root.holds.mark, ap (sum (λ p. p)) root_sizes)

  root_page : X.page T.root ≡ tree T.level (flat T.nodes)
  root_page =
      let e : T.root ≡ T.root + 0 = omega arith in
      ap X.page e
      ∙ page_here half X (leaf_nodes runs) some root.most
      T.level T.root T.nodes root.holds 0 (omega (arith, root_alone))
      ∙ ap (λ es. tree T.level (flat es)) (in_page_one half T.nodes some root_entries root.few)

  -- ---- the structure

  unused_above : (p : ℕ) → suc (pages_used half m) ≤ p → X.page p ≡ never_used
  unfolding tight tight_cells pages_used sizes
  unused_above p past =
      let n : length (map leaf_entry runs) ≡ m = length-map runs leaf_entry in
      get_or-eq_default (cells half m 0 1 (map leaf_entry runs)) never_used {n = p - 1}
      (omega (arith, length_cells half m 0 1 (map leaf_entry runs), ap (λ k. sum (λ q. q) (level_sizes half m k)) n))

  shown : Represents X Y
  unfolding Stores root_node tight tight_state
  shown =
      record {
        height = root_high;
        root = root_last;
        below = (root_page, root.holds.stored);
        supplied = record { length_true = refl; linked = ends; mark = refl; unused = λ p past below. unused_above p past };
      }

  formed : Formed half Leaf T
  formed =
      record {
        least = root.holds.least;
        most =
            omega (arith, pages_enough half (length T.nodes) some, ap (λ p. p * capacity half) root_alone, one-mul (capacity half));
        spans = root.holds.spans;
      }

  held_from : (p : ℕ) → held p Y ≡ from 1 p
  unfolding held times_spare tight tight_state
  held_from p =
      omega (
        arith,
        times_cons p T.root [],
        times_none p,
        hit_from p T.root,
        root.holds.once p,
        ap (λ n. from (suc n) p) root_last,
      )

  pub tight_structure : Structure half kind changes X Y
  unfolding tight
  tight_structure =
      record {
        shown = shown;
        formed = formed;
        once = λ p l. held_from p ∙ ap (λ b. cond b 1 0) (le-leb 1 p l);
        head_apart = held_from 0 ∙ ap (λ b. cond b 1 0) (leb-suc-zero 0);
        kind_is = refl;
        bounds = root.holds.bounds;
        changes_most = g.changes_most;
        ranges =
            record {
              pages_least = g.pages_least;
              pages_most = g.pages_most;
              mark_most = g.fits;
              kind_fits = g.kind_fits;
              window_fits = g.window_fits;
              field_fits =
                  sym (field_by_half half (capacity half) g.half_least g.half_most)
                  ∙ eq-eqb _ _ (names_itself (capacity_of_half half g.half_least g.half_most));
            };
      }

  -- every instant has the pair that the runs give it
  pub tight_pair : (◌⊕◌ : Pair → Pair → Pair) → ((p : Pair) → ◌⊕◌ none p ≡ p) → (t : ℕ)
      → pair_at ◌⊕◌ T t ≡ pair_in ◌⊕◌ 0 t (leaf_nodes runs)
  tight_pair ◌⊕◌ unit t =
      pair_in_look ◌⊕◌ T.level t none root.holds.spans (omega arith) (omega arith)
      ∙ root.holds.pairs ◌⊕◌ unit t none
      ∙ sym (pair_in_look ◌⊕◌ 0 t none g.spans (omega arith) (omega arith))
