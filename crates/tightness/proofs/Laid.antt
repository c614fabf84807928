-- The theorem: how the bytes of a tight image are laid out. Assumes nothing.
use Prim.Native.Nat.{ℕ, zero, suc, ◌+◌, ◌-◌, ◌≤◌, ◌<◌}
use mathlib.Core.Path.{◌≡◌, refl, sym, ap, ◌∙◌}
use mathlib.Core.Logic.{◌≢◌, ◌⊎◌, inl, inr}
use mathlib.Core.Bool.{true}
use mathlib.Core.List.{List}
use native.Mathlib.Omega.{arith}
use lib.Dec.{eqb}
use lib.ListN.{length, get_or, length-map}
use Rattle.lists.proofs.All.{all_at}
use Rattle.lists.proofs.Totals.{rises}
use Rattle.rule.specs.Pairs.{none, combine}
use Rattle.rule.proofs.Laws.{lawful}
use Rattle.rule.specs.Time.{END}
use Rattle.page.specs.declared.Entry.{Entry}
use Rattle.page.specs.declared.Head.{Head}
use Rattle.page.specs.Entries.{at}
use Rattle.page.specs.Layout.{capacity, level_of, entry_count, start_at, pair_at, entry_at, tree_bytes}
use Rattle.page.proofs.Laws.Trees.{tree_count, length_entries_of, at_entries_of}
use Rattle.image.specs.Images.{Image, tree, page_at, cell_bytes, image_of, image_bytes}
use Rattle.image.specs.Listing.{Run, neighbours_differ, walk_over}
use Rattle.image.specs.Neighbours.{neighbours_apart}
use Rattle.image.specs.Sound.{sound}
use Rattle.image.proofs.Cells.{tree_cell}
use Rattle.tight.specs.Tight.{pages_for, page_entries, entries_before, in_page, pages_used, tight}
use Rattle.tight.specs.Layout.{LaidOut}
use Rattle.tight.proofs.Pages.{before_more, before_most, page_some, size_least, size_most, size_falls}
use Rattle.tight.proofs.Levels.{length_in_page, at_in_page, all_in_page}
use Rattle.soundness.proofs.Sound.{the_head, sound_parts}
use Rattle.tree.specs.Tree.{Node, Subtree, Nodes, no_node, flat}
use Rattle.tree.specs.Cut.{State}
use Rattle.tree.proofs.Seg.{seg_rises, least_one}
use Rattle.refinement.proofs.Paths.{at_flat}
use Rattle.invariant.proofs.To.Sound.{page_written, read_back, runs_written}
use Rattle.tightness.specs.State.{leaf_nodes, tight_state, Suited}
use Rattle.tightness.proofs.Levels.{page_here}
use Rattle.tightness.proofs.Structure.{leaf_level}
use Rattle.tightness.proofs.Sound.{structure, tall, tight_sound_before, tight_head_read_back}
use Rattle.tightness.proofs.Runs.{Bare, bare_runs, runs_again, leaves_bare, Laid, RootLaid, root_laid}
use Rattle.tightness.proofs.Places.{Place, beside, Before, along, above, place, before}

-- an inner entry without a pair
bare_pair : (l : ℕ) (x : Node (Subtree l)) → l ≢ 0 → Bare l x → x.entry.pair ≡ none
unfolding Bare
bare_pair zero x inner b = absurd (inner refl)
bare_pair (suc l) x inner b = b.0

-- A page's bytes show a level and entries.
pub record Shown (half : ℕ) (s : List ℕ) (l : ℕ) (es : List Entry) : Type 0 where
  pub level : level_of s ≡ l
  pub count : entry_count s ≡ length es
  pub entry : (i : ℕ) → i < length es → entry_at half s i ≡ at es i

module _ (half pages kind window changes : ℕ) (runs : List Run) (g : Suited half pages kind window changes runs) where
  abbrev X : Image
  X = tight half pages kind window changes runs

  abbrev Y : State
  Y = tight_state half runs

  abbrev img : List ℕ
  img = image_bytes half X

  some : 1 ≤ half
  some = omega (arith, g.half_least)

  laid : Laid half X runs (length runs) 0 1 (leaf_nodes runs)
  laid = record { holds = leaf_level half pages kind window changes runs g; bare = leaves_bare runs; below = runs_again runs }

  mark_most : X.head.mark ≤ X.head.pages
  mark_most = (structure half pages kind window changes runs g).ranges.mark_most

  -- ---- what is read from a page

  shown : (p l : ℕ) (es : List Entry) → 1 ≤ p → p < X.head.pages → X.page p ≡ tree l es → Shown half (page_at half img p) l es
  unfolding image_of cell_bytes
  shown p l es one small is =
      let s : List ℕ = page_at half img p in
      let st = structure half pages kind window changes runs g in
      let high = tall half pages kind window changes runs g in
      let read = tree_cell half s (read_back half X Y some st high p one small ∙ is) in
      let bytes : s ≡ tree_bytes half l es = page_written half X Y some st high p one small ∙ ap (cell_bytes half) is in
      let within : length es ≤ capacity half = omega (arith, length_entries_of half s, ap length read.1) in
      let n : entry_count s ≡ length es = tree_count half l es within (omega (arith, g.half_most)) bytes in
      record {
        level = read.0;
        count = n;
        entry = λ i m. sym (at_entries_of half s i (omega arith) (omega arith)) ∙ ap (λ fs. at fs i) read.1;
      }

  -- ---- "the runs of the full listing become the leaf entries"

  pub tight_leaves : (walk_over half img 0 END).runs ≡ runs
  unfolding tight_state
  tight_leaves =
      let st = structure half pages kind window changes runs g in
      let top : RootLaid half X runs Y.tree = root_laid half X runs some (length runs) 0 1 (leaf_nodes runs) laid in
      let k : ℕ = X.head.kind in
      runs_written half X Y some st (tall half pages kind window changes runs g)
      ∙ (bare_runs (combine k) (lawful k).unit Y.tree.level Y.tree.nodes top.bare ∙ top.below)

  -- document 02's soundness, of runs of which no two neighbours have the same pair
  pub tight_sound : (eqb kind 1 ≡ true → neighbours_differ runs ≡ true) → sound half img ≡ true
  unfolding neighbours_apart image_of
  tight_sound differ =
      let k : (the_head half img).kind ≡ kind =
      ap (λ (h : Head). h.kind) (tight_head_read_back half pages kind window changes runs g) ∙ unfold tight in refl in
      (sound_parts half img).1
      (record {
        old = tight_sound_before half pages kind window changes runs g;
        apart = λ e. ap neighbours_differ tight_leaves ∙ differ (ap (λ n. eqb n 1) (sym k) ∙ e);
      })

  -- ---- a page in its place

  module _ {least p : ℕ} (a : Place half X runs least p) where
    abbrev ns : Nodes a.level
    ns = a.nodes

    abbrev m : ℕ
    m = length a.nodes

    abbrev count : ℕ
    count = pages_for half (length a.nodes)

    some_entries : 1 ≤ m
    some_entries = omega (arith, a.laid.holds.least, least_one a.level)

    -- the pages of a level begin one behind another
    begins : (i : ℕ) → i < count → entries_before m count i < entries_before m count (suc i)
    begins i lt = omega (arith, before_more m count i, page_some half m some some_entries i lt)

    module _ (one : 1 ≤ p) (below : p < X.head.mark) where
      abbrev here : List ℕ
      here = page_at half img p

      abbrev es : Nodes a.level
      es = in_page half ns a.index

      page_shown : Shown half here a.level (flat es)
      page_shown =
          shown p a.level (flat es) one (omega (arith, mark_most))
          (ap X.page a.is
          ∙ page_here half X (leaf_nodes runs) some a.most a.level a.first ns a.laid.holds a.index a.small)

      page_count : entry_count here ≡ page_entries m count a.index
      page_count = page_shown.count ∙ length-map es (λ x. x.entry) ∙ length_in_page half ns a.index some a.small

      page_entry : (j : ℕ) → j < entry_count here → entry_at half here j ≡ (get_or es j (no_node a.level)).entry
      page_entry j small = page_shown.entry j (omega (arith, page_shown.count)) ∙ at_flat a.level es j

      page_start : start_at here 0 ≡ (get_or ns (entries_before m count a.index) (no_node a.level)).entry.start
      unfolding entry_at
      page_start =
          let i : ℕ = a.index in
          let none_less : 1 ≤ page_entries m count i = page_some half m some some_entries i a.small in
          let e : entries_before m count i + 0 ≡ entries_before m count i = omega arith in
          ap (λ (x : Entry). x.start) (page_entry 0 (omega (arith, page_count)))
          ∙ ap (λ (x : Node (Subtree a.level)). x.entry.start) (at_in_page half ns i some a.small 0 (no_node a.level) none_less)
          ∙ ap (λ k. (get_or ns k (no_node a.level)).entry.start) e

      page_pairs : level_of here ≢ 0 → (j : ℕ) → j < entry_count here → pair_at half here j ≡ none
      unfolding entry_at
      page_pairs inner j small =
          let n : length (flat es) ≡ length es = length-map es (λ x. x.entry) in
          ap (λ (x : Entry). x.pair) (page_entry j small)
          ∙ bare_pair a.level (get_or es j (no_node a.level)) (λ z. inner (page_shown.level ∙ z))
          (all_at j (no_node a.level) (all_in_page half ns a.index a.laid.bare) (omega (arith, page_shown.count)))

    -- of a later page of the level
    start_rises : (k : ℕ) → a.index < k → k < count
        → (get_or ns (entries_before m count a.index) (no_node a.level)).entry.start
        < (get_or ns (entries_before m count k) (no_node a.level)).entry.start
    start_rises k lt small =
        seg_rises (no_node a.level) a.laid.holds.spans (entries_before m count a.index) (entries_before m count k)
        (omega (
          arith,
          begins a.index a.small,
          rises count (λ j. entries_before m count j) begins (suc a.index) k (omega arith) (omega arith),
        ))
        (omega (arith, begins k small, before_most m count (omega arith) (suc k) small))

  -- ---- the pages from page 1 up to the high mark

  module _ (p q : ℕ) (one : 1 ≤ p) (lt : p < q) (below : q < X.head.mark) where
    abbrev s : List ℕ
    s = page_at half img p

    abbrev t : List ℕ
    t = page_at half img q

    -- a page of a higher level
    apart : (a : Place half X runs 0 p) → Place half X runs (suc a.level) q → level_of s < level_of t
    apart a b = omega (arith, b.high, (page_shown a one (omega arith)).level, (page_shown b (omega arith) below).level)

    ordered : Before half X runs p q
        → (level_of s < level_of t) ⊎ ((level_of s ≡ level_of t) × (start_at s 0 < start_at t 0))
    ordered (along a k after small is) =
        let b : Place half X runs 0 q = beside half X runs a k small is in
        inr (
          (page_shown a one (omega arith)).level ∙ sym (page_shown b (omega arith) below).level,
          omega (arith, page_start a one (omega arith), page_start b (omega arith) below, start_rises a k after small),
        )
    ordered (above a b) = inl (apart a b)

    even : Before half X runs p q → level_of s ≡ level_of t → (entry_count t ≤ entry_count s) × (entry_count s ≤ suc (entry_count t))
    even (along a k after small is) same =
        omega (
          arith,
          page_count a one (omega arith),
          page_count (beside half X runs a k small is) (omega arith) below,
          size_falls (m a) (count a) a.index k (omega arith),
          size_most (m a) (count a) a.index,
          size_least (m a) (count a) k,
        )
    even (above a b) same = absurd (omega (arith, apart a b))

    compared : Before half X runs p q
    compared = before half X runs some (length runs) 0 1 (leaf_nodes runs) laid p q one lt below

  pub tight_laid_out : LaidOut half img (suc (pages_used half (length runs))) runs
  unfolding tight
  tight_laid_out =
      record {
        leaves = tight_leaves;
        in_order = λ p q one lt below. ordered p q one lt below (compared p q one lt below);
        evenly = λ p q one lt below. even p q one lt below (compared p q one lt below);
        no_pairs =
            λ p i one below inner small.
            let a : Place half X runs 0 p = place half X runs some (length runs) 0 1 (leaf_nodes runs) laid 0 p (omega arith) one below in
            page_pairs a one below inner i small;
      }
