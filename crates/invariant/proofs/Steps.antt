-- Each step of a change keeps the structure: it does to the tree and the supply that the image shows what it does to trees, and the tree
-- that it leaves is formed and bounded. C alone raises the number of changes that the bounds are for. Nothing here is about what holds only
-- before and after a change. Assumes nothing.
use Prim.Native.Nat.{ℕ, suc, ◌+◌, ◌*◌, ◌-◌, ◌≤◌, ◌<◌}
use mathlib.Core.Path.{◌≡◌, refl, ap, ◌∙◌, subst}
use mathlib.Core.Bool.{Bool, false}
use mathlib.Core.List.{List}
use native.Mathlib.Omega.{arith}
use lib.Dec.{eqb}
use lib.IntN.{nat_abs}
use borrow.Author.Tests.{ltb-false}
use Rattle.rule.specs.declared.Pair.{Pair}
use Rattle.rule.specs.Time.{most_value, kind_ok, window_ok}
use Rattle.rule.specs.Pairs.{combine}
use Rattle.rule.specs.Bounds.{Effective}
use Rattle.rule.proofs.Laws.{lawful, kind_inverse}
use Rattle.page.specs.Fit.{most_changes, field_ok}
use Rattle.page.specs.declared.Head.{Head}
use Rattle.image.specs.Images.{Image}
use Rattle.steps.specs.Supply.{count_change, pages_taken}
use Rattle.steps.specs.Change.{cuts, lacks_pages, cut_names, combine_names, heal_names}
use Rattle.steps.specs.Cut.{cut as cut_x}
use Rattle.steps.specs.Combine.{combine_span as combine_span_x}
use Rattle.steps.specs.Heal.{heal as heal_x}
use Rattle.tree.specs.Tree.{Tree}
use Rattle.tree.specs.Cut.{State, cut}
use Rattle.tree.specs.Combine.{combine_span}
use Rattle.tree.specs.Heal.{heal}
use Rattle.tree.specs.Shape.{Formed, Leaf}
use Rattle.tree.proofs.Shapes.{leaf_cuttable, leaf_pairless, leaf_stretchable, formed_map}
use Rattle.tree.proofs.Cut.{cut_formed}
use Rattle.tree.proofs.Combine.{combine_formed}
use Rattle.tree.proofs.Heal.{heal_formed}
use Rattle.tree.proofs.Conservation.Bounds.{within_more, cut_within, combine_within, heal_within}
use Rattle.tree.proofs.Conservation.Measures.{sums_bounded, counts_bounded, values_bounded}
use Rattle.tree.proofs.Conservation.Taken.{taken_both, taken_number, taken_fits, cut_takes}
use Rattle.tree.proofs.Conservation.Given.{heal_gives}
use Rattle.refinement.specs.Represents.{Full}
use Rattle.refinement.proofs.Stepped.{Stepped, once_after, counted_represented}
use Rattle.refinement.proofs.Cut.{cut_is}
use Rattle.refinement.proofs.Order.{combine_is}
use Rattle.refinement.proofs.Heal.{heal_is}
use Rattle.refinement.proofs.Formed.{formed_full, formed_gapless}
use Rattle.invariant.specs.Invariant.{AnyPair, Bounds, Ranges, Structure}
use Rattle.invariant.proofs.To.Known.{structure_once}

-- ---- the bounds of the pairs

module _ (half kind n : ℕ) where
  cut_bounds : (t : ℕ) (Y : State) → Bounds kind n Y.tree → Bounds kind n (cut half t Y).tree
  cut_bounds t Y b =
      record {
        sums = λ k. cut_within (sums_bounded kind) (most_value * n) half t Y (b.sums k);
        counts = λ k. cut_within (counts_bounded kind k) n half t Y (b.counts k);
        values = λ k. cut_within (values_bounded kind k) 0 half t Y (b.values k);
      }

  heal_bounds : (totals : Bool) (t : ℕ) (Y : State) → Bounds kind n Y.tree → Bounds kind n (heal half (combine kind) totals t Y).tree
  heal_bounds totals t Y b =
      record {
        sums = λ k. heal_within (sums_bounded kind) (most_value * n) half totals t Y (b.sums k);
        counts = λ k. heal_within (counts_bounded kind k) n half totals t Y (b.counts k);
        values = λ k. heal_within (values_bounded kind k) 0 half totals t Y (b.values k);
      }

combine_bounds : (kind n s e : ℕ) (p : Pair) (Y : State) → Effective kind p → Bounds kind n Y.tree
    → Bounds kind (suc n) (combine_span (combine kind) s e p Y).tree
combine_bounds kind n s e p Y f b =
    let T : Tree = (combine_span (combine kind) s e p Y).tree in
    record {
      sums =
          λ k.
          within_more (λ q. nat_abs q.sum) AnyPair (most_value * n + nat_abs p.sum) (most_value * suc n) T (omega (arith, f.sum))
          (combine_within (sums_bounded kind) (most_value * n) s e p tt Y (b.sums k));
      counts =
          λ k.
          within_more (λ q. nat_abs q.count) AnyPair (n + nat_abs p.count) (suc n) T (omega (arith, f.count))
          (combine_within (counts_bounded kind k) n s e p tt Y (b.counts k));
      values = λ k. combine_within (values_bounded kind k) 0 s e p (f.value k) Y (b.values k);
    }

-- ---- the head's ranges: they go by its pages, high mark, kind, window and capacity

ranged : {half : ℕ} {h g : Head} → Ranges half h → g.pages ≡ h.pages → g.mark ≤ g.pages → g.kind ≡ h.kind → g.window ≡ h.window
    → g.capacity ≡ h.capacity
    → Ranges half g
ranged {half} r pages mark kind window capacity =
    record {
      pages_least = omega (arith, r.pages_least);
      pages_most = omega (arith, r.pages_most);
      mark_most = mark;
      kind_fits = ap kind_ok kind ∙ r.kind_fits;
      window_fits = ap window_ok window ∙ r.window_fits;
      field_fits = ap (field_ok half) capacity ∙ r.field_fits;
    }

-- ---- what a step leaves, if its tree is formed and bounded and its high mark lies in the image

kept : {half kind n m : ℕ} {X X' : Image} {Y Y' : State} {names : List ℕ} → Structure half kind n X Y → Stepped X X' Y Y' names
    → Formed half Leaf Y'.tree
    → Bounds kind m Y'.tree
    → m ≤ most_changes
    → Y'.supply.mark ≤ X.head.pages
    → Structure half kind m X' Y'
kept g d formed bounds few mark =
    let h = d.steady in
    record {
      shown = d.shown;
      formed = formed;
      once = λ p l. d.same_held p ∙ g.once p l;
      head_apart = d.same_held 0 ∙ g.head_apart;
      kind_is = h.kind ∙ g.kind_is;
      bounds = bounds;
      changes_most = few;
      ranges =
          ranged g.ranges h.pages (omega (arith, h.pages, d.shown.supplied.mark, mark)) h.kind h.window h.capacity;
    }

-- counting the change sets nothing that the structure speaks of
pub counted_keeps : {half kind n : ℕ} {X : Image} {Y : State} → Structure half kind n X Y → Structure half kind n (count_change X) Y
unfolding count_change
counted_keeps g =
    record {
      shown = counted_represented g.shown;
      formed = g.formed;
      once = g.once;
      head_apart = g.head_apart;
      kind_is = g.kind_is;
      bounds = g.bounds;
      changes_most = g.changes_most;
      ranges = ranged g.ranges refl g.ranges.mark_most refl refl refl;
    }

-- ---- the steps

module _ {half kind n : ℕ} (two : 2 ≤ half) {X : Image} {Y : State} (g : Structure half kind n X Y) where
  abbrev rule : Pair → Pair → Pair
  rule = combine kind

  full : Full Y
  full = formed_full half Leaf two Y g.formed

  module _ (t : ℕ) where
    -- A and B
    pub cut_step : Stepped X (cut_x half t X) Y (cut half t Y) (cut_names half rule t X)
    cut_step = cut_is half rule t X Y g.shown (structure_once g) full

    cut_leaves : Formed half Leaf (cut half t Y).tree
    cut_leaves = formed_map (λ u v x q. q.0) (cut_formed two (leaf_cuttable t) (lawful kind) Y g.formed)

    pub cut_keeps : (cut half t Y).supply.mark ≤ X.head.pages → Structure half kind n (cut_x half t X) (cut half t Y)
    cut_keeps mark = kept g cut_step cut_leaves (cut_bounds half kind n t Y g.bounds) g.changes_most mark

    -- D and E
    pub heal_step : Stepped X (heal_x half rule t X) Y (heal half rule (eqb kind 1) t Y) (heal_names half rule t X)
    heal_step =
        subst (λ k. Stepped X (heal_x half rule t X) Y (heal half rule (eqb k 1) t Y) (heal_names half rule t X)) g.kind_is
        (heal_is half rule t X Y g.shown (structure_once g) full g.formed)

    pub heal_keeps : Structure half kind n (heal_x half rule t X) (heal half rule (eqb kind 1) t Y)
    heal_keeps =
        kept g heal_step (heal_formed two leaf_pairless leaf_stretchable (lawful kind) (kind_inverse kind) t Y g.formed)
        (heal_bounds half kind n (eqb kind 1) t Y g.bounds) g.changes_most
        (omega (arith, (heal_gives half rule (eqb kind 1) t Y).mark, g.shown.supplied.mark, g.ranges.mark_most))

  -- C
  module _ (s e : ℕ) (p : Pair) where
    pub combine_step : Stepped X (combine_span_x rule s e p X) Y (combine_span rule s e p Y) (combine_names half rule s e X)
    combine_step = combine_is half rule s e p X Y g.shown (structure_once g) full (formed_gapless half Leaf Y g.formed)

    pub combine_keeps : Effective kind p → n < most_changes
        → Structure half kind (suc n) (combine_span_x rule s e p X) (combine_span rule s e p Y)
    unfolding combine_span
    combine_keeps f few =
        kept g combine_step (combine_formed rule s e p Y g.formed leaf_pairless) (combine_bounds kind n s e p Y f g.bounds) few
        (omega (arith, g.shown.supplied.mark, g.ranges.mark_most))

  -- A and B leave the high mark in the image where 24 doesn't turn them back: it rises by what they take
  pub marks_fit : (s e : ℕ) → lacks_pages half s e X ≡ false
      → ((cut half s Y).supply.mark ≤ X.head.pages) × ((cut half e (cut half s Y)).supply.mark ≤ X.head.pages)
  unfolding lacks_pages pages_taken cuts
  marks_fit s e enough =
      let A : Image = cut_x half s X in
      let U : State = cut half s Y in
      let d = cut_step s in
      let u = g.shown.supplied in
      let again = cut_is half rule e A U d.shown (once_after d (structure_once g)) (formed_full half Leaf two U (cut_leaves s)) in
      let v = again.shown.supplied in
      let b = (cut_takes half e U).1 in
      let t = taken_both Y U (cut half e U) (cut_takes half s Y).1 b in
      let k = taken_number Y (cut half e U) t in
      let fits : pages_taken X (cut_x half e A) ≤ X.head.chain + (X.head.pages - X.head.mark) = ltb-false _ _ enough in
      let w =
      (taken_fits X.head.pages Y (cut half e U) t (omega (arith, u.mark, g.ranges.mark_most))).0
      (omega (arith, k, fits, u.length_true, u.mark, v.length_true, v.mark)) in
      (omega (arith, w, b.mark), w)
