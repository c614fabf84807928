-- Every page of a tree that is ready and written is fit in its context. Assumes nothing.
use Prim.Native.Nat.{ℕ, zero, suc, ◌+◌, ◌-◌, ◌≤◌, ◌<◌, ◌^◌}
use mathlib.Core.Path.{◌≡◌, refl, sym, ap, ◌∙◌}
use mathlib.Core.Bool.{true, and-eq-true_iff}
use mathlib.Core.List.{List, [], ◌∷◌}
use native.Mathlib.Omega.{arith}
use lib.ListN.{length, get_or, length-map}
use lib.IntN.{nat_abs}
use borrow.Author.Tests.{eq-eqb, le-leb, lt-ltb}
use Rattle.lists.specs.Lists.{concat_map}
use Rattle.rule.specs.Time.{END}
use Rattle.fields.proofs.Laws.Tests.{every_of}
use Rattle.page.specs.declared.Entry.{Entry}
use Rattle.page.specs.declared.Head.{Head}
use Rattle.page.specs.Layout.{capacity, level_of, entry_count, start_at, pair_at, child_at, entry_at, entries_of, unused_ok, free_level}
use Rattle.page.specs.Layout.{tree_bytes}
use Rattle.page.specs.Fit.{PageContext, context_below, fewest, entry_count_ok, starts_ok, child_ok, children_ok, pair_ok, pairs_ok}
use Rattle.page.specs.Fit.{page_fit, most_changes}
use Rattle.page.specs.Widths.{EntriesFit}
use Rattle.page.proofs.Laws.Trees.{level_of_tree, number_of_tree, entry_at_tree, entries_of_tree, unused_ok_tree}
use Rattle.image.specs.Images.{Cell, page_at, cell_bytes}
use Rattle.image.specs.Sound.{tree_fit, tree_pages}
use Rattle.tree.specs.Tree.{Node, Subtree, Nodes, no_node, flat, pages_under}
use Rattle.tree.specs.Shape.{Seg}
use Rattle.refinement.proofs.Paths.{at_flat}
use Rattle.fit.proofs.Laws.Spans.{bound, bound_next, bound_in, bound_past}
use Rattle.invariant.specs.Invariant.{Ranges}
use Rattle.invariant.proofs.To.Weights.{pair_passes}
use Rattle.invariant.proofs.To.Ready.{seg_length, Paged, Ready, ready_weighed, ready_child, entries_fit}
use Rattle.invariant.proofs.To.Contexts.{seg_first, seg_at, seg_over}

-- ---- what is read from a tree page's bytes

pub record Read (half : ℕ) (s : List ℕ) (l : ℕ) (es : Nodes l) : Type 0 where
  pub level : level_of s ≡ l
  pub len : entry_count s ≡ length es
  pub entry : (i : ℕ) → i < length es → entry_at half s i ≡ (get_or es i (no_node l)).entry
  pub entries : entries_of half s ≡ flat es
  pub unused : unused_ok half s ≡ true

read : (half l : ℕ) (es : Nodes l) → length es ≤ capacity half → length es < 2 ^ 32 → l < free_level → EntriesFit (flat es)
    → (s : List ℕ) → s ≡ tree_bytes half l (flat es) → Read half s l es
read half l es within narrow low fits s e =
    let n : length (flat es) ≡ length es = length-map es (λ x. x.entry) in
    let w : length (flat es) ≤ capacity half = omega arith in
    let k : length (flat es) < 2 ^ 32 = omega arith in
    rw e
    (record {
      level = level_of_tree half l (flat es) w (omega arith);
      len = number_of_tree half l (flat es) w k ∙ n;
      entry = λ i m. entry_at_tree half l (flat es) w k i (omega arith) (fits i) ∙ at_flat l es i;
      entries = entries_of_tree half l (flat es) w k fits;
      unused = unused_ok_tree half l (flat es) w k;
    })

-- ---- a leaf has no pages below it

over_none : (es : Nodes 0) → concat_map (λ x. pages_under 0 x) es ≡ []
unfolding concat_map pages_under
over_none [] = refl
over_none (x ∷ es) = over_none es

-- ---- a page in its context

pub record Stands (at : PageContext) (l a b m n : ℕ) : Type 0 where
  pub level : at.level ≡ l
  pub sums : at.sums ≡ a
  pub counts : at.counts ≡ b
  pub lo : at.lo ≡ m
  pub hi : at.hi ≡ n

module _ (half : ℕ) (h : Head) (pages : ℕ → Cell) where
  module _ (l sums counts lo hi : ℕ) (at : PageContext) (s : List ℕ) (es : Nodes l) (r : Read half s l es)
      (st : Stands at l sums counts lo hi)
      (spans : Seg (Ready half h pages l sums counts) lo hi es) where
    start_is : (i : ℕ) → i < length es → bound s at.hi i ≡ (get_or es i (no_node l)).entry.start
    unfolding entry_at
    start_is i m = bound_in s at.hi i (omega (arith, r.len)) ∙ ap (λ (e : Entry). e.start) (r.entry i m)

    end_is : bound s at.hi (length es) ≡ hi
    end_is = bound_past s at.hi (length es) (omega (arith, r.len)) ∙ st.hi

    spanned : (i : ℕ) → i < entry_count s
        → (bound s at.hi i < bound s at.hi (suc i)) × (bound s at.hi (suc i) ≤ hi)
        × Ready half h pages l sums counts (bound s at.hi i) (bound s at.hi (suc i)) (get_or es i (no_node l))
    spanned i m = seg_at (no_node l) (bound s at.hi) start_is end_is spans i (omega (arith, r.len))

    page_passes : fewest half at ≤ length es → 1 ≤ length es → length es ≤ capacity half → page_fit half h at s ≡ true
    unfolding page_fit entry_count_ok starts_ok children_ok pairs_ok entry_at
    page_passes few some most =
        let n : entry_count s ≡ length es = r.len in
        let b : ℕ → ℕ = bound s at.hi in
        let least : fewest half at ≤ entry_count s = omega arith in
        let within : entry_count s ≤ capacity half = omega arith in
        let first : start_at s 0 ≡ at.lo = sym (bound_in s at.hi 0 (omega arith)) ∙ seg_first (no_node l) b start_is end_is spans
        ∙ sym st.lo in
        let rising : (i : ℕ) → i < entry_count s - 1 → start_at s i < start_at s (suc i) =
        λ i m. omega (arith, (spanned i (omega arith)).0, bound_in s at.hi i (omega arith), bound_in s at.hi (suc i) (omega arith)) in
        let last : start_at s (entry_count s - 1) < at.hi =
        omega (
          arith,
          (spanned (entry_count s - 1) (omega arith)).0,
          bound_in s at.hi (entry_count s - 1) (omega arith),
          bound_past s at.hi (suc (entry_count s - 1)) (omega arith),
        ) in
        let children : (i : ℕ) → i < entry_count s → child_ok h.pages at.level (child_at half s i) ≡ true =
        λ i m.
        ap (λ (e : Entry). child_ok h.pages at.level e.child) (r.entry i (omega arith))
        ∙ ap (λ k. child_ok h.pages k (get_or es i (no_node l)).entry.child) st.level
        ∙ ready_child half h pages l sums counts (b i) (b (suc i)) (get_or es i (no_node l)) (spanned i m).2 in
        let pairs : (i : ℕ) → i < entry_count s → pair_ok h at (pair_at half s i) ≡ true =
        λ i m.
        ap (λ (e : Entry). pair_ok h at e.pair) (r.entry i (omega arith))
        ∙ pair_passes h l sums counts (get_or es i (no_node l))
        (ready_weighed half h pages l sums counts (b i) (b (suc i)) (get_or es i (no_node l)) (spanned i m).2) at st.sums st.counts in
        simp and-eq-true_iff (
          eq-eqb _ _ (r.level ∙ sym st.level),
          (
            (le-leb _ _ least, le-leb _ _ within),
            (
              (eq-eqb _ _ first, (every_of _ _ (λ i m. lt-ltb _ _ (rising i m)), lt-ltb _ _ last)),
              (r.unused, (every_of _ _ children, every_of _ _ pairs)),
            ),
          ),
        )

    -- the context of the page below an entry
    stands_below : (i : ℕ) → i < entry_count s → (k : ℕ) → l ≡ suc k
        → Stands (context_below half s at i) k (sums + nat_abs (get_or es i (no_node l)).entry.pair.sum)
        (counts + nat_abs (get_or es i (no_node l)).entry.pair.count)
        (bound s at.hi i) (bound s at.hi (suc i))
    unfolding context_below entry_at
    stands_below i m k e =
        let same : entry_at half s i ≡ (get_or es i (no_node l)).entry = r.entry i (omega (arith, r.len)) in
        record {
          level = omega (arith, st.level);
          sums = λ j. st.sums j + nat_abs (same j).pair.sum;
          counts = λ j. st.counts j + nat_abs (same j).pair.count;
          lo = sym (bound_in s at.hi i m);
          hi = bound_next s at.hi i;
        }

  -- ---- the pages below

  module _ (img : List ℕ) (ranges : Ranges half h) (slow : h.changes ≤ most_changes) (some : 1 ≤ half)
      (written : (p : ℕ) → 1 ≤ p → p < h.pages → page_at half img p ≡ cell_bytes half (pages p)) where
    page_read : (l sums counts lo hi p : ℕ) (es : Nodes l) → hi ≤ END → l < free_level
        → Paged half h pages l (Ready half h pages l sums counts) lo hi p es
        → Read half (page_at half img p) l es
    unfolding cell_bytes
    page_read l sums counts lo hi p es m low P =
        read half l es P.most (omega (arith, seg_length P.spans)) low
        (entries_fit half h pages ranges slow l sums counts P.spans m) (page_at half img p)
        (written p P.least P.below ∙ ap (cell_bytes half) P.page)

    pub fit_tree : (l sums counts lo hi p : ℕ) (at : PageContext) (es : Nodes l) → Stands at l sums counts lo hi → hi ≤ END
        → l < free_level
        → 1 ≤ fewest half at → fewest half at ≤ length es → Paged half h pages l (Ready half h pages l sums counts) lo hi p es
        → tree_fit half h img l at p ≡ true
    unfolding tree_fit fewest context_below Ready entry_at
    fit_tree zero sums counts lo hi p at es st m low one few P =
        page_passes zero sums counts lo hi at (page_at half img p) es (page_read zero sums counts lo hi p es m low P) st
        P.spans few (omega arith) P.most
    fit_tree (suc l) sums counts lo hi p at es st m low one few P =
        let s : List ℕ = page_at half img p in
        let r : Read half s (suc l) es = page_read (suc l) sums counts lo hi p es m low P in
        simp and-eq-true_iff (
          page_passes (suc l) sums counts lo hi at s es r st P.spans few (omega arith) P.most,
          every_of _ _
              (λ i k.
              let x : Node (Subtree (suc l)) = get_or es i (no_node (suc l)) in
              let q = spanned (suc l) sums counts lo hi at s es r st P.spans i k in
              ap (λ (e : Entry). tree_fit half h img l (context_below half s at i) e.child) (r.entry i (omega (arith, r.len)))
              ∙ fit_tree l (sums + nat_abs x.entry.pair.sum) (counts + nat_abs x.entry.pair.count) (bound s at.hi i)
              (bound s at.hi (suc i)) x.entry.child
              (context_below half s at i) x.subtree (stands_below (suc l) sums counts lo hi at s es r st P.spans i k l refl)
              (omega arith) (omega arith) some q.2.1
              q.2.2),
        )

    -- ---- which pages they are

    pub pages_are : (l sums counts lo hi p : ℕ) (es : Nodes l) → hi ≤ END → l < free_level
        → Paged half h pages l (Ready half h pages l sums counts) lo hi p es
        → tree_pages half img l p ≡ p ∷ concat_map (λ x. pages_under l x) es
    unfolding tree_pages pages_under Ready
    pages_are zero sums counts lo hi p es m low P = ap (λ (r : List ℕ). p ∷ r) (sym (over_none es))
    pages_are (suc l) sums counts lo hi p es m low P =
        ap (λ (r : List ℕ). p ∷ r)
        (ap (concat_map (λ e. tree_pages half img l e.child)) (page_read (suc l) sums counts lo hi p es m low P).entries
        ∙ seg_over (λ e. tree_pages half img l e.child) (λ x. pages_under (suc l) x)
        (λ a b x k r.
        pages_are l (sums + nat_abs x.entry.pair.sum) (counts + nat_abs x.entry.pair.count) a b x.entry.child
        x.subtree (omega arith) (omega arith) r.2)
        P.spans)
