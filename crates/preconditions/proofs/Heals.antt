-- An image with the structure is ready for a heal: each page on the path can be searched, a page that was healed has a first start to be
-- carried up, one that is left short has a sibling, and the pairs above the two can be combined into their entries. Assumes nothing.
use Prim.Native.Nat.{ℕ, zero, suc, ◌+◌, ◌*◌, ◌-◌, ◌≤◌, ◌<◌, ◌^◌}
use mathlib.Core.Path.{◌≡◌, sym, ap, ◌∙◌, subst, subst₂, subst⁻¹}
use mathlib.Core.Bool.{Bool, true}
use mathlib.Core.List.{List, [], ◌∷◌}
use native.Mathlib.Omega.{arith}
use lib.Dec.{eqb}
use lib.ListN.{length, length-map}
use lib.IntN.{nat_abs}
use borrow.Author.Tests.{ltb-true}
use Rattle.lists.specs.Lists.{All, all_none, all_more, hit}
use Rattle.lists.proofs.All.{all_splice, all_weaken, all_at}
use Rattle.lists.proofs.Totals.{hit_self}
use Rattle.rule.specs.declared.Pair.{Pair}
use Rattle.rule.specs.Pairs.{combine}
use Rattle.rule.specs.Time.{END, most_value}
use Rattle.rule.specs.Bounds.{Combinable}
use Rattle.page.specs.declared.Entry.{Entry}
use Rattle.page.specs.declared.Head.{Head}
use Rattle.page.specs.Entries.{at, index_of}
use Rattle.lists.specs.Lists.{splice}
use Rattle.page.specs.Fit.{most_changes}
use Rattle.image.specs.Images.{Image}
use Rattle.steps.specs.Supply.{entries, with_supply}
use Rattle.steps.specs.Heal.{short, left_of, joins_edge, carried, carry, heal_page}
use Rattle.store.specs.Preconditions.{InImage, TreePage, HasEntry, entry_for, PushReady}
use Rattle.rebalance.specs.Siblings.{Rebalanceable}
use Rattle.heal.specs.Edges.{Carriable}
use Rattle.heal.specs.Healable.{RebalanceableIfShort, InnerHealable, PageHealable, Collapsible, CollapsibleIfSingle, Healable}
use Rattle.tree.specs.Tree.{Node, Subtree, Nodes, no_node, flat}
use Rattle.tree.specs.Supply.{Supply}
use Rattle.tree.specs.Cut.{State, root_node}
use Rattle.tree.specs.Heal.{Healing, heal_nodes}
use Rattle.tree.specs.Conserved.{PathBounded}
use Rattle.tree.proofs.Conservation.Bounds.{nodes_within}
use Rattle.tree.proofs.Conservation.Measures.{sums_bounded, counts_bounded, values_bounded}
use Rattle.refinement.specs.Represents.{Stores, Supplied}
use Rattle.refinement.proofs.Below.{node_at, under_suc, below_two}
use Rattle.refinement.proofs.Moves.{lasting}
use Rattle.refinement.proofs.Paths.{page_entries, entries_are, subtrees_represented, at_flat, there, has_index, from_root}
use Rattle.refinement.proofs.Stepped.{steady_of}
use Rattle.refinement.proofs.Rebalance.{Healed, left_in}
use Rattle.refinement.proofs.Edges.{entry_there}
use Rattle.refinement.proofs.Heal.{stocked_two, Risen, may, may_within, risen, heal_node_is}
use Rattle.invariant.specs.Invariant.{Structure}
use Rattle.invariant.proofs.To.Weights.{Weighed, weighed_all, weighed_below}
use Rattle.invariant.proofs.To.Known.{chain_short}
use Rattle.invariant.proofs.To.Height.{height_most}
use Rattle.preconditions.proofs.Pairs.{below_combinable}
use Rattle.preconditions.proofs.Paths.{page_shows, page_is, Known, here_inside, child_inside, known_searchable, Below, known_below}
use Rattle.preconditions.proofs.Paths.{structure_known}
use Rattle.preconditions.proofs.Shrinks.{heal_loses, heal_chain}
use Rattle.preconditions.proofs.Joins.{structure_joins}
use Rattle.preconditions.proofs.Edges.{structure_readable}

-- ---- pages that show their part of the tree

module _ (Z : Image) (l : ℕ) (x : Node (Subtree (suc l))) (s : Stores (suc l) Z.page x) where
  tree_page : InImage x.entry.child Z → TreePage l x.entry.child Z
  tree_page i = record { within = i; page = page_is l Z x s }

  length_is : length (entries Z x.entry.child) ≡ length x.subtree
  length_is = ap length (entries_are l Z x s) ∙ length-map x.subtree (λ y. y.entry)

  entry_is : (j : ℕ) → at (entries Z x.entry.child) j ≡ (node_at l x.subtree j).entry
  entry_is j = ap (λ (es : List Entry). at es j) (entries_are l Z x s) ∙ at_flat l x.subtree j

-- the pair of z can be combined into its page's entries
push_ready : (kind changes : ℕ) → changes ≤ most_changes → (Z : Image) (l sums counts : ℕ) (z : Node (Subtree (suc l)))
    → Stores (suc l) Z.page z
    → InImage z.entry.child Z
    → Weighed kind changes (suc l) sums counts z
    → PushReady l z.entry Z
push_ready kind changes slow Z l sums counts z s i w =
    record {
      tree_page = tree_page Z l z s i;
      each =
          λ j n. subst⁻¹ (λ (e : Entry). Combinable z.entry.pair e.pair) (entry_is Z l z s j)
          (all_at j (no_node l) (below_combinable kind changes slow l sums counts z w) (omega (arith, length_is Z l z s)));
    }

-- and that of the j-th entry of x
push_ready_at : (kind changes : ℕ) → changes ≤ most_changes → (Z : Image) (l sums counts : ℕ) (x : Node (Subtree (suc (suc l))))
    → Stores (suc (suc l)) Z.page x
    → All (λ y. Weighed kind changes (suc l) sums counts y) x.subtree
    → (j : ℕ)
    → j < length x.subtree
    → InImage (node_at (suc l) x.subtree j).entry.child Z
    → PushReady l (at (entries Z x.entry.child) j) Z
push_ready_at kind changes slow Z l sums counts x s w j n i =
    let z = node_at (suc l) x.subtree j in
    subst⁻¹ (λ (e : Entry). PushReady l e Z) (entry_is Z (suc l) x s j)
    (push_ready kind changes slow Z l sums counts z (all_at j (no_node (suc l)) (subtrees_represented (suc l) Z x s) n) i
    (all_at j (no_node (suc l)) w n))

module _ (half kind changes : ℕ) (edge : Bool) (t : ℕ) (S : Supply) where
  abbrev rule : Pair → Pair → Pair
  rule = combine kind

  -- ---- the pairs

  -- what a heal leaves of the entries of a page is bounded as they were
  nodes_weighed : (l sums counts : ℕ) (es : Nodes l)
      → (eqb kind 1 ≡ true → sums ≤ most_value * changes)
      → (eqb kind 1 ≡ true → counts ≤ changes)
      → All (λ x. Weighed kind changes l sums counts x) es
      → All (λ x. Weighed kind changes l sums counts x) (heal_nodes half rule edge t l es S).nodes
  nodes_weighed l sums counts es a b w =
      weighed_all kind changes l sums counts (heal_nodes half rule edge t l es S).nodes
      (λ e. nodes_within (sums_bounded kind) (most_value * changes) half edge t l sums es S (a e) (all_weaken (λ x v. v.by_sum e) w))
      (λ e. nodes_within (counts_bounded kind e) changes half edge t l counts es S (b e) (all_weaken (λ x v. v.by_count e) w))
      (λ e. nodes_within (values_bounded kind e) 0 half edge t l 0 es S (omega arith) (all_weaken (λ x v. v.by_value e) w))

  -- what it leaves of the page under x
  abbrev left : (l : ℕ) → Node (Subtree (suc l)) → Healing (Subtree l)
  left l x = heal_nodes half rule edge t l x.subtree S

  abbrev with_left : (l : ℕ) → Node (Subtree (suc l)) → Node (Subtree (suc l))
  with_left l x = record { entry = x.entry; subtree = (left l x).nodes }

  -- and x, once what starts there is carried up
  abbrev moved : (l : ℕ) → Node (Subtree (suc l)) → Node (Subtree (suc l))
  moved l x = record { entry = carried edge t (flat (left l x).nodes) x.entry; subtree = (left l x).nodes }

  moved_weighed : (l sums counts : ℕ) (x : Node (Subtree (suc l))) → Weighed kind changes (suc l) sums counts x
      → Weighed kind changes (suc l) sums counts (moved l x)
  unfolding PathBounded carried
  moved_weighed l sums counts x w =
      let k =
      nodes_weighed l (sums + nat_abs x.entry.pair.sum) (counts + nat_abs x.entry.pair.count) x.subtree
      (λ e. (w.by_sum e).1) (λ e. (w.by_count e).1) (weighed_below kind changes l sums counts x w) in
      record {
        by_sum = λ e. ((w.by_sum e).0, (w.by_sum e).1, all_weaken (λ y v. v.by_sum e) k);
        by_count = λ e. ((w.by_count e).0, (w.by_count e).1, all_weaken (λ y v. v.by_count e) k);
        by_value = λ e. ((w.by_value e).0, (w.by_value e).1, all_weaken (λ y v. v.by_value e) k);
      }

  module _ (two : 2 ≤ half) (X : Image) (slow : changes ≤ most_changes) (s : Supplied X S) (few : length S.chain ≤ 1024) where
    -- ---- the image once the page under x is healed

    abbrev after : (l : ℕ) → Node (Subtree (suc l)) → Image
    after l x = heal_page half rule edge t l x.entry.child X

    module _ {l lo hi sums counts : ℕ} {x : Node (Subtree (suc l))} (k : Known half kind changes t X S l lo hi sums counts x) where
      healed : Healed l x X (after l x) S (left l x) (may half rule edge t l x X)
      healed = heal_node_is half rule edge t l x X S k.shown k.stocked s k.once

      same_pages : (after l x).head.pages ≡ X.head.pages
      same_pages = (steady_of healed.head).pages

      tree_page_after : TreePage l x.entry.child (after l x)
      tree_page_after = tree_page (after l x) l (with_left l x) healed.shows (omega (arith, here_inside k, same_pages))

      room_after : l < 254 → suc (after l x).head.chain < 2 ^ 32
      room_after low = omega (arith, healed.supplied.length_true, heal_chain half rule edge t l x.subtree S, few)

    -- ---- one level up

    module _ (l lo hi sums counts : ℕ) (x : Node (Subtree (suc (suc l)))) (low : suc l < 254)
        (k : Known half kind changes t X S (suc l) lo hi sums counts x) where
      abbrev i : ℕ
      i = index_of t (flat x.subtree)

      abbrev y : Node (Subtree (suc l))
      y = there (suc l) t x.subtree

      abbrev p : ℕ
      p = x.entry.child

      abbrev Z : Image
      Z = after l y

      abbrev Z' : Image
      Z' = carry edge t (suc l) p i Z

      abbrev x' : Node (Subtree (suc (suc l)))
      x' = record { entry = x.entry; subtree = splice i (moved l y ∷ []) x.subtree }

      below : Below half kind changes t X S l sums counts x
      below = known_below k

      has : i < length x.subtree
      has = has_index (suc l) t x k.stocked

      w : Risen l i x x' Z Z'
      w = risen half rule edge t l x X S k.shown k.stocked k.once Z (left l y) (healed below.known)

      shown : Stores (suc (suc l)) Z'.page x'
      shown = w.up.shows

      child_at : (j : ℕ) → (at (entries Z' p) j).child ≡ (node_at (suc l) x.subtree j).entry.child
      child_at j = ap (λ (e : Entry). e.child) (entry_is Z' (suc l) x' shown j) ∙ w.same_child j

      pages : Z'.head.pages ≡ X.head.pages
      pages = ap (λ (h : Head). h.pages) w.up.head ∙ same_pages below.known

      -- ---- the start that is carried up

      carriable : Carriable l p i Z
      carriable =
          let shows : entries Z p ≡ flat x.subtree = page_entries p Z w.still in
          let n : length (flat x.subtree) ≡ length x.subtree = length-map x.subtree (λ z. z.entry) in
          let m : length (entries Z p) ≡ length (flat x.subtree) = ap length shows in
          let c : (at (entries Z p) i).child ≡ y.entry.child =
          ap (λ (es : List Entry). (at es i).child) shows ∙ ap (λ (e : Entry). e.child) (at_flat (suc l) x.subtree i) in
          record {
            has =
                record {
                  tree_page =
                      record { within = omega (arith, here_inside k, same_pages below.known); page = page_shows Z w.still };
                  inside = omega (arith, has);
                };
            first =
                subst⁻¹ (λ (q : ℕ). HasEntry l q 0 Z) c
                (record {
                  tree_page = tree_page_after below.known;
                  inside =
                      omega (
                        arith,
                        two,
                        below.filled,
                        heal_loses half rule edge t l y.subtree S,
                        length_is Z l (with_left l y) (healed below.known).shows,
                      );
                });
          }

      -- ---- the siblings

      sinks : (j : ℕ) → j < length x.subtree → PushReady l (at (entries Z' p) j) Z'
      sinks j n =
          let y_weighed = moved_weighed l sums counts y (all_at i (no_node (suc l)) k.weighed has) in
          push_ready_at kind changes slow Z' l sums counts x' shown (all_splice i (all_more y_weighed all_none) k.weighed) j
          (omega (arith, w.as_long)) (omega (arith, w.same_child j, child_inside k j n, pages))

      -- two siblings are two pages: each page is held once
      apart : (j : ℕ) → suc j < length x.subtree → (at (entries Z' p) j).child ≡ (at (entries Z' p) (suc j)).child → ⊥
      apart j n e =
          let z = node_at (suc l) x.subtree in
          let q = (z j).entry.child in
          let same : hit q q ≡ hit q (z (suc j)).entry.child = ap (hit q) (sym (child_at j) ∙ e ∙ child_at (suc j)) in
          omega (
            arith,
            hit_self q,
            same,
            under_suc l q (z j),
            under_suc l q (z (suc j)),
            below_two (suc l) q j x.subtree n,
            under_suc (suc l) q x,
            k.once q,
          )

      -- the child page was left short
      rebalanceable : short half y.entry.child Z' ≡ true → Rebalanceable half l p i Z'
      unfolding short
      rebalanceable e =
          let n : suc (left_of i) < length x.subtree = left_in i (length x.subtree) (stocked_two l x k.stocked) has in
          let chain : Z'.head.chain ≡ Z.head.chain = ap (λ (h : Head). h.chain) w.up.head in
          record {
            siblings =
                record {
                  parent =
                      record {
                        tree_page = tree_page Z' (suc l) x' shown (omega (arith, here_inside k, pages));
                        inside = omega (arith, length_is Z' (suc l) x' shown, w.as_long);
                      };
                  left = sinks (left_of i) (omega arith);
                  right = sinks (suc (left_of i)) n;
                  apart = apart (left_of i) n;
                };
            short =
                subst⁻¹ (λ (q : ℕ). length (entries Z' q) < half) (child_at i)
                (ltb-true (length (entries Z' y.entry.child)) half e);
            room = omega (arith, room_after below.known (omega arith));
          }

      child_page : TreePage l y.entry.child Z'
      child_page =
          record {
            within = omega (arith, child_inside k i has, pages);
            page =
                page_shows Z' (w.below_still ∙ page_is l Z (with_left l y) (healed below.known).shows);
          }

      inner : PageHealable half kind edge t l y.entry.child X
          → InnerHealable half kind edge t l p (λ q U. PageHealable half kind edge t l q U) X
      inner heals_below =
          let e : entries X p ≡ flat x.subtree = entries_are (suc l) X x k.shown in
          let c : (entry_for t p X).child ≡ y.entry.child = ap (λ (z : Entry). z.child) (entry_there t (suc l) X x k.shown) in
          let after_q : ℕ → Image = λ q. heal_page half rule edge t l q X in
          let rebalances : RebalanceableIfShort half l p i y.entry.child Z' =
          record { tree_page = child_page; rebalances = rebalanceable } in
          record {
            searchable = known_searchable k;
            below = subst⁻¹ (λ (q : ℕ). PageHealable half kind edge t l q X) c heals_below;
            carries =
                λ _.
                subst⁻¹ (λ (q : ℕ). Carriable l p (index_of t (entries X p)) (after_q q)) c
                (subst⁻¹ (λ (es : List Entry). Carriable l p (index_of t es) Z) e carriable);
            rebalances =
                subst⁻¹
                (λ (q : ℕ).
                RebalanceableIfShort half l p (index_of t (entries X p)) q
                (carry edge t (suc l) p (index_of t (entries X p)) (after_q q)))
                c
                (subst⁻¹
                (λ (es : List Entry).
                RebalanceableIfShort half l p (index_of t es) y.entry.child (carry edge t (suc l) p (index_of t es) Z)) e rebalances);
          }

    page_heals : (l lo hi sums counts : ℕ) (x : Node (Subtree (suc l))) → l < 254 → Known half kind changes t X S l lo hi sums counts x
        → PageHealable half kind edge t l x.entry.child X
    unfolding PageHealable
    page_heals zero lo hi sums counts x low k = known_searchable k
    page_heals (suc l) lo hi sums counts x low k =
        let b = known_below k in
        inner l lo hi sums counts x low k (page_heals l b.lo b.hi _ _ (there (suc l) t x.subtree) (omega arith) b.known)

    -- ---- the root

    -- its only entry leads to one of the image's pages
    only_inside : {l hi : ℕ} {x : Node (Subtree (suc l))} → Known half kind changes t X S l 0 hi 0 0 x → 1 ≤ l
        → length (left l x).nodes ≡ 1
        → InImage (node_at l (left l x).nodes 0).entry.child (after l x)
    only_inside {l} {x = x} k some one =
        let q = (node_at l (left l x).nodes 0).entry.child in
        let e : (at (flat (left l x).nodes) 0).child ≡ q = ap (λ (z : Entry). z.child) (at_flat l (left l x).nodes 0) in
        let w : hit q q ≤ may half rule edge t l x X q =
        subst (λ (c : ℕ). hit q c ≤ may half rule edge t l x X q) e ((healed k).only some one q) in
        let d = k.inside q (omega (arith, w, hit_self q, may_within half rule edge t q l x X k.shown k.stocked)) in
        omega (arith, d, same_pages k)

    collapsible : (l hi : ℕ) (x : Node (Subtree (suc l))) → l < 254 → Known half kind changes t X S l 0 hi 0 0 x
        → (after l x).head.height ≡ suc l
        → (after l x).head.root ≡ x.entry.child
        → 1 ≤ l
        → length (left l x).nodes ≡ 1
        → Collapsible (after l x)
    collapsible zero hi x low k height root tall one = absurd (omega arith)
    collapsible (suc l) hi x low k height root tall one =
        let Z = after (suc l) x in
        let w = nodes_weighed (suc l) 0 0 x.subtree (λ e. omega arith) (λ e. omega arith) k.weighed in
        let level : Z.head.height - 2 ≡ l = omega arith in
        let above : Z.head.height - 1 ≡ suc l = omega arith in
        record {
          inner = omega arith;
          root =
              subst₂ (λ (m q : ℕ). HasEntry m q 0 Z) (sym above) (sym root)
              (record {
                tree_page = tree_page_after k;
                inside =
                    omega (arith, length_is Z (suc l) (with_left (suc l) x) (healed k).shows);
              });
          child =
              subst⁻¹ (λ (m : ℕ). PushReady m (at (entries Z Z.head.root) 0) Z) level
              (subst⁻¹ (λ (q : ℕ). PushReady l (at (entries Z q) 0) Z) root
              (push_ready_at kind changes slow Z l 0 0 (with_left (suc l) x) (healed k).shows w 0 (omega arith) (only_inside k tall one)));
          room = room_after k low;
        }

    shrinkable : (l hi : ℕ) (x : Node (Subtree (suc l))) → l < 254 → Known half kind changes t X S l 0 hi 0 0 x
        → X.head.height ≡ suc l
        → X.head.root ≡ x.entry.child
        → CollapsibleIfSingle (after l x)
    unfolding lasting with_supply
    shrinkable l hi x low k height root =
        let Z = after l x in
        let tall : Z.head.height ≡ suc l = ap (λ (f : Head). f.height) (healed k).head ∙ height in
        let level : Z.head.height - 1 ≡ l = omega arith in
        let there : Z.head.root ≡ x.entry.child = ap (λ (f : Head). f.root) (healed k).head ∙ root in
        let n : length (entries Z Z.head.root) ≡ length (left l x).nodes =
        ap (λ (p : ℕ). length (entries Z p)) there ∙ length_is Z l (with_left l x) (healed k).shows in
        record {
          root =
              subst⁻¹ (λ (m : ℕ). TreePage m Z.head.root Z) level
              (subst⁻¹ (λ (p : ℕ). TreePage l p Z) there (tree_page_after k));
          collapses = λ inner one. collapsible l hi x low k tall there (omega arith) (sym n ∙ one);
        }

-- "Heal at t": an image with the structure is ready for it.
pub structure_healable : {half kind changes : ℕ} {X : Image} {Y : State} → 2 ≤ half → (t : ℕ) → Structure half kind changes X Y
    → Healable half kind t X
unfolding root_node
structure_healable {half} {kind} {changes} {X} {Y} two t g =
    let l : ℕ = Y.tree.level in
    let x = root_node Y.tree in
    let sh = g.shown in
    let level : X.head.height - 1 ≡ l = omega (arith, sh.height) in
    let k = structure_known two t g in
    let low : l < 254 = omega (arith, sh.height, height_most X Y g two) in
    let few : length Y.supply.chain ≤ 1024 = omega (arith, chain_short g, g.ranges.mark_most, g.ranges.pages_most) in
    let slow = g.changes_most in
    let edge : Bool = joins_edge (combine kind) t X in
    record {
      some = omega (arith, sh.height);
      joins = structure_joins two t g;
      readable = structure_readable two t g;
      page =
          subst⁻¹ (λ (n : ℕ). PageHealable half kind edge t n X.head.root X) level
          (subst⁻¹ (λ (p : ℕ). PageHealable half kind edge t l p X) sh.root
          (page_heals half kind changes edge t Y.supply two X slow sh.supplied few l 0 END 0 0 x low k));
      collapses =
          subst⁻¹ (λ (Z : Image). CollapsibleIfSingle Z) (from_root sh (λ n p. heal_page half (combine kind) edge t n p X))
          (shrinkable half kind changes edge t Y.supply two X slow sh.supplied few l END x low k sh.height sh.root);
    }
