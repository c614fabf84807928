-- Every image before a cut of a change that no row turns back can be cut. Assumes nothing.
use Prim.Native.Nat.{ℕ, zero, suc, ◌+◌, ◌≤◌, ◌<◌}
use mathlib.Core.Path.{◌≡◌, refl, sym, ap, ◌∙◌, subst₂, subst⁻¹}
use mathlib.Core.Bool.{cond}
use mathlib.Core.List.{List, [], ◌∷◌}
use native.Mathlib.Omega.{arith}
use lib.ListN.{length, length-map}
use borrow.Author.Tests.{ne_eqb, lt-leb}
use Rattle.lists.proofs.Edits.{length_splice}
use Rattle.lists.proofs.Totals.{hit_self}
use Rattle.rule.specs.Time.{END}
use Rattle.rule.specs.Pairs.{none, combine}
use Rattle.page.specs.declared.Entry.{Entry}
use Rattle.page.specs.Layout.{capacity}
use Rattle.page.specs.Entries.{entry, index_of}
use Rattle.image.specs.Images.{Image}
use Rattle.lists.specs.Lists.{times}
use Rattle.steps.specs.Supply.{entries}
use Rattle.steps.specs.Cut.{Cutting as CuttingX, cut_entry, root_entry, cut as cut_x}
use Rattle.steps.specs.Change.{cut_names}
use Rattle.store.specs.Preconditions.{entry_for, Takable}
use Rattle.cut.specs.Cuttable.{from_root, PageCuttable, EntryCuttable, RootCuttable, Cuttable}
use Rattle.tree.specs.Tree.{Node, Subtree, flat}
use Rattle.tree.specs.Supply.{Supply, without_next}
use Rattle.tree.specs.Cut.{Cutting, not_split, split, split_if_full, cut_node, State, root_node, grow_if_split, cut}
use Rattle.tree.specs.Shape.{Leaf}
use Rattle.tree.specs.Conserved.{times_spare}
use Rattle.tree.proofs.Conservation.Cut.{inner, inner_nodes, cut_case}
use Rattle.refinement.specs.Represents.{Supplied, Stocked, Full}
use Rattle.refinement.proofs.Below.{under_suc, below_at}
use Rattle.refinement.proofs.Taking.{firsts, later_held}
use Rattle.refinement.proofs.Stepped.{Stepped, steady_of, held_is}
use Rattle.refinement.proofs.Split.{EntryCut}
use Rattle.refinement.proofs.Cut.{CutIs, once_there, cut_node_is, cut_is}
use Rattle.refinement.proofs.Paths.{there, entries_are, at_flat, has_index, stocked_on, stores_on, path_below}
use Rattle.refinement.proofs.Formed.{formed_full}
use Rattle.invariant.specs.Invariant.{Structure}
use Rattle.invariant.proofs.To.Known.{structure_once}
use Rattle.invariant.proofs.To.Height.{height_most}
use Rattle.preconditions.proofs.Paths.{Known, known_searchable, known_below, structure_known}
use Rattle.preconditions.proofs.Spares.{Single, next_mark, takable}

-- ---- the supply, level by level

-- from the image that the cut of an entry leaves, if the high mark then stays within the image
grew_takable : {l : ℕ} {e : Entry} {X : Image} {S : Supply} {before W : ℕ → ℕ} {r : CuttingX} {r' : Cutting (Subtree l)}
    → EntryCut l e X S before W r r'
    → Single (λ q. times_spare q S)
    → (without_next r'.supply).mark ≤ X.head.pages
    → Takable r.image
grew_takable {S = S} {r' = r'} g single h =
    let k : (q : ℕ) → times q (firsts g.took S) + times_spare q r'.supply ≡ times_spare q S =
    λ q. rw g.rest (later_held q g.took S) in
    takable g.supplied (λ q. omega (arith, single q, k q)) (omega (arith, (steady_of g.head).pages))

module _ (half t l : ℕ) (x : Node (Subtree (suc l))) (S : Supply) where
  -- the high mark is never lower than what the pages below left
  inner_mark : (inner half t l x S).supply.mark ≤ (cut_node half t (suc l) x S).supply.mark
  unfolding not_split split
  inner_mark =
      let R = (inner half t l x S).supply in
      cut_case half t l x S (λ C. R.mark ≤ C.supply.mark) (omega arith) (next_mark R)

  -- a page of one entry more than its capacity splits: it takes one more
  splits : Stocked (suc l) x → 1 < length (inner half t l x S).became → capacity half ≤ length x.subtree
      → (cut_node half t (suc l) x S).supply ≡ without_next (inner half t l x S).supply
  unfolding cut_node split_if_full split
  splits k two full =
      let r = inner half t l x S in
      let es = inner_nodes half t l x S in
      let n : length es + 1 ≡ length r.became + length x.subtree =
      length_splice (index_of t (flat x.subtree)) r.became x.subtree (has_index l t x k) in
      ap (λ b. (cond b (not_split x es r.supply) (split_if_full half x es r.supply)).supply)
      (ne_eqb (length r.became) 1 (λ e. omega arith))
      ∙ ap (λ b. (cond b (not_split x es r.supply) (split half x es r.supply)).supply)
      (lt-leb (length es) (capacity half) (omega arith))

-- ---- the pages on the path

module _ {half kind changes : ℕ} (t : ℕ) {X : Image} {S : Supply} (s : Supplied X S) (single : Single (λ q. times_spare q S)) where
  module _ (l : ℕ) (x : Node (Subtree (suc l))) {lo hi sums counts : ℕ} (k : Known half kind changes t X S l lo hi sums counts x) where
    abbrev p : ℕ
    p = x.entry.child

    abbrev y : Node (Subtree l)
    y = there l t x.subtree

    entry_there : entry_for t p X ≡ y.entry
    entry_there = rw (entries_are l X x k.shown) (at_flat l x.subtree (index_of t (flat x.subtree)))

    grew : CutIs half t l y X S
    grew =
        let n = k.stocked in
        cut_node_is half t l y X S (stores_on l t x n X k.shown) (stocked_on l t x n) s (once_there t l x S n k.once)

    -- where the entry below becomes two in a full page, a page can be taken
    abbrev Room : Entry → Type 0
    Room e = 1 < length (cut_entry half t l e X).became → capacity half ≤ length (entries X p) → Takable (cut_entry half t l e X).image

    page_room : (cut_node half t (suc l) x S).supply.mark ≤ X.head.pages → Room y.entry
    page_room m two full =
        let a : length (cut_entry half t l y.entry X).became ≡ length (inner half t l x S).became =
        ap length grew.same ∙ length-map (inner half t l x S).became (λ z. z.entry) in
        let n : length (entries X p) ≡ length x.subtree = ap length (entries_are l X x k.shown)
        ∙ length-map x.subtree (λ z. z.entry) in
        let e = splits half t l x S k.stocked (omega arith) (omega arith) in
        grew_takable grew single (omega (arith, ap (λ (R : Supply). R.mark) e))

    -- no page is held twice, so what is cut below writes neither this page nor takes it
    abbrev Kept : Entry → Type 0
    Kept e = (cut_entry half t l e X).image.page p ≡ X.page p

    page_kept : Kept y.entry
    page_kept =
        let i = index_of t (flat x.subtree) in
        grew.frame p
        (omega (
          arith,
          k.once p,
          under_suc l p x,
          hit_self p,
          below_at l p i x.subtree (has_index l t x k.stocked),
          path_below p t l y (stocked_on l t x k.stocked),
          later_held p grew.took S,
        ))

    page_cuttable : l < 255 → (cut_node half t (suc l) x S).supply.mark ≤ X.head.pages → PageCuttable half l p t X
    page_cuttable low m =
        record {
          searchable = known_searchable k;
          low = low;
          kept = subst⁻¹ Kept entry_there page_kept;
          room = subst⁻¹ Room entry_there (page_room m);
        }

  entry_cuttable : (l : ℕ) (x : Node (Subtree (suc l))) {lo hi sums counts : ℕ}
      → Known half kind changes t X S l lo hi sums counts x → l < 255
      → (cut_node half t (suc l) x S).supply.mark ≤ X.head.pages
      → EntryCuttable half (suc l) x.entry t X
  unfolding EntryCuttable
  entry_cuttable zero x k low m = (page_cuttable zero x k low m, tt)
  entry_cuttable (suc l) x k low m = (
    page_cuttable (suc l) x k low m,
    subst⁻¹ (λ e. EntryCuttable half (suc l) e t X) (entry_there (suc l) x k)
        (entry_cuttable l (there (suc l) t x.subtree) (known_below k).known (omega arith)
        (omega (arith, inner_mark half t (suc l) x S))),
  )

-- ---- from the root

-- a new root takes a page
grown_mark : (l : ℕ) (es : List (Node (Subtree (suc l)))) (R : Supply) → R.mark ≤ (grow_if_split l es R).supply.mark
unfolding grow_if_split
grown_mark l [] R = omega arith
grown_mark l (x ∷ []) R = omega arith
grown_mark l (x ∷ y ∷ es) R = next_mark R

grown_two : (l : ℕ) (es : List (Node (Subtree (suc l)))) (R : Supply) → 1 < length es → (grow_if_split l es R).supply ≡ without_next R
unfolding grow_if_split
grown_two l [] R h = absurd (omega arith)
grown_two l (x ∷ []) R h = absurd (omega arith)
grown_two l (x ∷ y ∷ es) R h = refl

module _ {half kind changes : ℕ} (two : 2 ≤ half) (t : ℕ) (X : Image) (Y : State) (g : Structure half kind changes X Y) where
  abbrev l : ℕ
  l = Y.tree.level

  abbrev x₀ : Node (Subtree (suc l))
  x₀ = root_node Y.tree

  abbrev r₀ : Cutting (Subtree (suc l))
  r₀ = cut_node half t (suc l) x₀ Y.supply

  low : X.head.height ≤ 10
  low = height_most X Y g two

  full : Full Y
  full = formed_full half Leaf two Y g.formed

  single : Single (λ q. times_spare q Y.supply)
  single zero = omega (arith, held_is 0 Y, g.head_apart)
  single (suc q) = omega (arith, held_is (suc q) Y, g.once (suc q) (omega arith))

  root_grew : CutIs half t (suc l) x₀ X Y.supply
  unfolding Full
  root_grew =
      cut_node_is half t (suc l) x₀ X Y.supply g.shown.below full g.shown.supplied (structure_known two t g).once

  root_entry_is : root_entry X ≡ x₀.entry
  unfolding root_entry root_node
  root_entry_is = ap (λ (p : ℕ). entry 0 none p) g.shown.root

  from_root_is : from_root half t X ≡ cut_entry half t (suc l) x₀.entry X
  from_root_is = λ j. cut_entry half t (g.shown.height j) (root_entry_is j) X

  -- the supply after the cut, where t is no END
  cut_supply : t < END → (cut half t Y).supply ≡ (grow_if_split l r₀.became r₀.supply).supply
  unfolding cut
  cut_supply h = ap (λ b. (cond b Y (grow_if_split l r₀.became r₀.supply)).supply) (lt-leb END t h)

  abbrev RootRoom : CuttingX → Type 0
  RootRoom r = 1 < length r.became → Takable r.image

  root_room : (grow_if_split l r₀.became r₀.supply).supply.mark ≤ X.head.pages → RootRoom (cut_entry half t (suc l) x₀.entry X)
  root_room m more =
      let k : length (cut_entry half t (suc l) x₀.entry X).became ≡ length r₀.became =
      ap length root_grew.same ∙ length-map r₀.became (λ z. z.entry) in
      let e = grown_two l r₀.became r₀.supply (omega arith) in
      grew_takable root_grew single (omega (arith, ap (λ (R : Supply). R.mark) e))

  root_cuttable : t < END → (cut half t Y).supply.mark ≤ X.head.pages → RootCuttable half t X
  root_cuttable h m =
      let c = ap (λ (R : Supply). R.mark) (cut_supply h) in
      record {
        low = omega (arith, low);
        entry =
            subst₂ (λ n e. EntryCuttable half n e t X) (sym g.shown.height) (sym root_entry_is)
            (entry_cuttable t g.shown.supplied single l x₀ (structure_known two t g) (omega (arith, low, g.shown.height))
            (omega (arith, grown_mark l r₀.became r₀.supply)));
        room = subst⁻¹ RootRoom from_root_is (root_room (omega arith));
      }

  after : Stepped X (cut_x half t X) Y (cut half t Y) (cut_names half (combine 1) t X)
  after = cut_is half (combine 1) t X Y g.shown (structure_once g) full

  -- An image as it is before a cut can be cut, if the high mark then stays within the image.
  pub cuttable : (cut_x half t X).head.mark ≤ X.head.pages → Cuttable half t X
  cuttable m = record { root = λ h. root_cuttable h (omega (arith, after.shown.supplied.mark)) }

  -- so it does if the image after the cut has the structure
  pub structure_cuttable : {Z : State} → Structure half kind changes (cut_x half t X) Z → Cuttable half t X
  structure_cuttable h = cuttable (omega (arith, h.ranges.mark_most, after.steady.pages))
