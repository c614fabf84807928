-- What the structure says of single pages: which there are, and, for the changes that the head counts, that each is read back.
-- Assumes nothing.
use Prim.Native.Nat.{ℕ, zero, suc, ◌+◌, ◌-◌, ◌≤◌, ◌<◌}
use mathlib.Core.Path.{◌≡◌, refl, ap, ◌∙◌}
use mathlib.Core.Bool.{cond, and-eq-true_iff}
use mathlib.Core.List.{List, ◌∷◌}
use native.Mathlib.Omega.{arith}
use native.Mathlib.Decide.{ℕ_discrete, dec_le}
use lib.Dec.{leb}
use lib.ListN.{length}
use borrow.Author.Tests.{leb-true, le-leb, lt-leb}
use Rattle.lists.specs.Lists.{concat_map, hit}
use Rattle.lists.proofs.Totals.{hit_self}
use Rattle.rule.specs.Time.{END, kind_ok, window_ok}
use Rattle.page.specs.declared.Head.{Head}
use Rattle.page.specs.Fit.{most_height}
use Rattle.page.proofs.Laws.Capacities.{field_fits, field_is}
use Rattle.page.specs.Widths.{HeadFits}
use Rattle.image.specs.Images.{Image, Cell, free, Canonical}
use Rattle.lists.specs.Lists.{times}
use Rattle.image.proofs.Cells.{canonical_free, canonical_never}
use Rattle.tree.specs.Tree.{pages_under}
use Rattle.tree.specs.Cut.{State, root_node}
use Rattle.tree.specs.Conserved.{times_below, times_spare, held}
use Rattle.refinement.specs.Represents.{Stores, Linked, ends, leads, Once}
use Rattle.lists.proofs.Times.{times_none, times_same, times_other, times_cons, short_of_once}
use Rattle.invariant.specs.Invariant.{Structure}
use Rattle.invariant.proofs.To.Weights.{Weighed, bounds_weighed}
use Rattle.invariant.proofs.To.Ready.{Paged, Ready, ready, seg_ready}
use Rattle.invariant.proofs.To.Canonical.{kept_page, kept_under}

-- ---- the chain

-- a free page, whose next is below n
pub record Freed (pages : ℕ → Cell) (n p : ℕ) : Type 0 where
  pub next : ℕ
  pub is : pages p ≡ free next
  pub small : next < n

module _ {pages : ℕ → Cell} (n : ℕ) (some : 1 ≤ n) where
  pub linked_first : {q : ℕ} {ps : List ℕ} → ((r : ℕ) → 1 ≤ times r ps → r < n) → Linked pages q ps → q < n
  linked_first inside ends = omega arith
  linked_first inside (leads {p = q} {ps = ps} e r) = inside q (omega (arith, times_same q q ps refl))

  pub linked_free : {q : ℕ} {ps : List ℕ} (p : ℕ) → ((r : ℕ) → 1 ≤ times r ps → r < n) → Linked pages q ps → 1 ≤ times p ps
      → Freed pages n p
  linked_free p inside ends m = absurd (omega (arith, times_none p))
  linked_free p inside (leads {p = q} {next} {ps} e r) m =
      go (ℕ_discrete p q) (linked_first later r) (linked_free p later r)
    where
      later : (s : ℕ) → 1 ≤ times s ps → s < n
      later s k = inside s (omega (arith, times_cons s q ps))

      go : Dec (p ≡ q) → next < n → (1 ≤ times p ps → Freed pages n p) → Freed pages n p
      go (yes c) small rest = record { next = next; is = ap pages c ∙ e; small = small }
      go (no c) small rest = rest (omega (arith, times_other p q ps c))

-- ---- the pages, for any number of changes

module _ {half kind changes : ℕ} {X : Image} {Y : State} (g : Structure half kind changes X Y) where
  -- no page is held twice
  pub structure_once : Once Y
  unfolding Once
  structure_once zero = omega (arith, g.head_apart)
  structure_once (suc p) = omega (arith, g.once (suc p) (omega arith))

  -- as often as the tree has it
  abbrev pub in_tree : ℕ → ℕ
  in_tree p = hit p Y.tree.root + times_below Y.tree.level p Y.tree.nodes

  pub held_is : (p : ℕ) → held p Y ≡ in_tree p + times p Y.supply.chain + cond (leb X.head.mark p) 1 0
  unfolding held times_spare times
  held_is p = rw g.shown.supplied.mark (omega arith)

  used_inside : (p k : ℕ) → k + cond (leb X.head.mark p) 1 0 ≤ held p Y → 1 ≤ k → (1 ≤ p) × (p < X.head.mark)
  used_inside zero k e m = absurd (omega (arith, g.head_apart))
  used_inside (suc p) k e m = go (dec_le X.head.mark (suc p))
    where
      go : Dec (X.head.mark ≤ suc p) → (1 ≤ suc p) × (suc p < X.head.mark)
      go (yes l) = absurd (omega (arith, rw (le-leb X.head.mark (suc p) l) at e, g.once (suc p) (omega arith)))
      go (no l) = omega arith

  pub tree_inside : (p : ℕ) → 1 ≤ in_tree p → (1 ≤ p) × (p < X.head.mark)
  tree_inside p m = used_inside p (in_tree p) (omega (arith, held_is p)) m

  pub chain_inside : (p : ℕ) → 1 ≤ times p Y.supply.chain → (1 ≤ p) × (p < X.head.mark)
  chain_inside p m = used_inside p (times p Y.supply.chain) (omega (arith, held_is p)) m

  pub root_inside : (1 ≤ X.head.root) × (X.head.root < X.head.mark)
  root_inside = rw g.shown.root (tree_inside Y.tree.root (omega (arith, hit_self Y.tree.root)))

  pub free_inside : X.head.free < X.head.pages
  free_inside =
      linked_first X.head.pages (omega (arith, g.ranges.pages_least))
      (λ r m. omega (arith, chain_inside r m, g.ranges.mark_most)) g.shown.supplied.linked

  used_once : (p : ℕ) → in_tree p + times p Y.supply.chain ≤ 1
  used_once zero = omega (arith, held_is zero, g.head_apart)
  used_once (suc p) = omega (arith, held_is (suc p), g.once (suc p) (omega arith))

  pub chain_short : length Y.supply.chain ≤ X.head.mark - 1
  chain_short =
      short_of_once (X.head.mark - 1) Y.supply.chain (λ p m. omega (arith, chain_inside p m)) (λ p. omega (arith, used_once p))

  -- the pages of the tree
  abbrev pub tree_list : List ℕ
  tree_list = Y.tree.root ∷ concat_map (λ x. pages_under Y.tree.level x) Y.tree.nodes

  pub times_tree : (p : ℕ) → times p tree_list ≡ in_tree p
  unfolding times times_below
  times_tree p = refl

  pub page_free : (p : ℕ) → 1 ≤ times p Y.supply.chain → Freed X.page X.head.pages p
  page_free p m =
      linked_free X.head.pages (omega (arith, g.ranges.pages_least)) p (λ r k. omega (arith, chain_inside r k, g.ranges.mark_most))
      g.shown.supplied.linked m

-- ---- the cells, for the changes that the head counts

module _ {half : ℕ} {X : Image} {Y : State} (g : Structure half X.head.kind X.head.changes X Y) where
  pub tree_ready : Paged half X.head X.page Y.tree.level (Ready half X.head X.page Y.tree.level 0 0) 0 END
      Y.tree.root Y.tree.nodes
  unfolding Stores root_node
  tree_ready =
      let h : Head = X.head in
      let r = tree_inside g Y.tree.root (omega (arith, hit_self Y.tree.root)) in
      record {
        least = r.0;
        below = omega (arith, g.ranges.mark_most);
        page = g.shown.below.0;
        most = g.formed.most;
        spans =
            seg_ready half h X.page Y.tree.level (Ready half h X.page Y.tree.level 0 0)
            (λ y. Weighed h.kind h.changes Y.tree.level 0 0 y)
            (λ a b y s w v i. ready half h X.page Y.tree.level 0 0 a b y s w v i)
            g.formed.spans (bounds_weighed _ _ Y.tree g.bounds) g.shown.below.1
            (λ p m. omega (arith, tree_inside g p (omega arith), g.ranges.mark_most));
      }

  -- ---- the head

  pub head_fits : X.head.height ≤ most_height → HeadFits X.head
  unfolding kind_ok window_ok
  head_fits tall =
      let k = simp and-eq-true_iff at g.ranges.kind_fits in
      let kind : X.head.kind ≤ 3 = leb-true _ _ k.1 in
      let window : X.head.window ≤ 1000000000 = leb-true _ _ g.ranges.window_fits in
      let most : X.head.pages ≤ 1024 = g.ranges.pages_most in
      omega (
        arith,
        root_inside g,
        free_inside g,
        chain_short g,
        g.shown.supplied.length_true,
        g.ranges.mark_most,
        g.changes_most,
        field_fits (field_is half X.head.capacity g.ranges.field_fits).0,
      )

  -- ---- every page

  pub page_kept : X.head.height ≤ most_height → (p : ℕ) → 1 ≤ p → p < X.head.pages → Canonical half (X.page p)
  page_kept tall p l b = go (dec_le X.head.mark p) (dec_le 1 (times p Y.supply.chain))
    where
      go : Dec (X.head.mark ≤ p) → Dec (1 ≤ times p Y.supply.chain) → Canonical half (X.page p)
      go (yes k) c = rw (g.shown.supplied.unused p k b) (canonical_never half)
      go (no k) (yes c) =
          let f : Freed X.page X.head.pages p = page_free g p c in
          rw f.is (canonical_free half f.next (omega (arith, f.small, g.ranges.pages_most)))
      go (no k) (no c) =
          kept_page half X.head X.page g.ranges g.changes_most p Y.tree.level 0 0 0 END Y.tree.root Y.tree.nodes
          (omega arith) (omega (arith, g.shown.height)) tree_ready
          (λ a b x m r t.
          kept_under half X.head X.page g.ranges g.changes_most p Y.tree.level 0 0 a b x m
          (omega (arith, g.shown.height)) r t)
          (omega (arith, held_is g p, g.once p l, unmarked))
        where
          unmarked : ◌≡◌ {A = ℕ} (cond (leb X.head.mark p) 1 0) 0
          unmarked = ap (λ t. cond t 1 0) (lt-leb X.head.mark p (omega arith))
