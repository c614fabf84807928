-- A walk over all instants goes into every entry of a fit tree: it finds a run for each leaf entry. So no two neighbouring leaf entries
-- have equal totals exactly where these number the runs. Assumes nothing.
use mathlib.Core.Path.{◌≡◌, refl, ap, ap₂, sym, ◌∙◌}
use mathlib.Core.Bool.{true, cond, and-eq-true_iff}
use mathlib.Core.List.{List}
use mathlib.Core.Logic.{◌↔◌}
use Prim.Native.Nat.{ℕ, zero, suc, ◌-◌, ◌≤◌, ◌<◌}
use native.Mathlib.Omega.{arith}
use lib.ListN.{length, length-append}
use borrow.Author.Tests.{lt-ltb}
use Rattle.lists.specs.Lists.{total}
use Rattle.lists.proofs.Totals.{total_ones}
use Rattle.rule.specs.Pairs.{combine}
use Rattle.rule.specs.Time.{END, overlaps}
use Rattle.page.specs.declared.Head.{Head}
use Rattle.page.specs.Layout.{entry_count, start_at, pair_at, child_at}
use Rattle.page.specs.Fit.{PageContext, root_context, context_below, end_at}
use Rattle.fit.proofs.Laws.Pages.{PageFit, page_fit_is}
use Rattle.fit.proofs.Laws.Spans.{end_after, end_within}
use Rattle.image.specs.Images.{page_at}
use Rattle.image.specs.Sound.{tree_fit, sound_before}
use Rattle.image.specs.Listing.{Walked, nothing, stopped, then, in_turn, under, leaf_run, walk_page, walk, walk_over, join}
use Rattle.image.specs.Neighbours.{neighbours_apart, entries_below, leaf_entries}
use Rattle.image.proofs.Runs.{length_under, join_none, all_differ}
use Rattle.soundness.proofs.Sound.{the_head, sound_facts}
use Rattle.soundness.proofs.Tree.{tree_parts, tree_top}

-- ---- walks in turn

in_turn_same : (n : ℕ) (f g : ℕ → Walked) → ((i : ℕ) → i < n → f i ≡ g i) → in_turn n f ≡ in_turn n g
unfolding in_turn
in_turn_same zero f g e = refl
in_turn_same (suc n) f g e = ap₂ then (in_turn_same n f g (λ i l. e i (omega arith))) (e n (omega arith))

in_turn_length : (n : ℕ) (f : ℕ → Walked) (g : ℕ → ℕ) → ((i : ℕ) → i < n → length (f i).runs ≡ g i)
    → length (in_turn n f).runs ≡ total n g
unfolding in_turn then nothing total
in_turn_length zero f g e = refl
in_turn_length (suc n) f g e =
    omega (arith, length-append (in_turn n f).runs (f n).runs, in_turn_length n f g (λ i l. e i (omega arith)), e n (omega arith))

-- ---- one page: all instants overlap each entry of a page that ends by END

module _ {half : ℕ} {h : Head} {at : PageContext} {s : List ℕ} (f : PageFit half h at s) (within : at.hi ≤ END) where
  entry_overlaps : (i : ℕ) → i < entry_count s → overlaps 0 END (start_at s i) (end_at s at.hi i) ≡ true
  unfolding overlaps
  entry_overlaps i l =
      (and-eq-true_iff _ _).1 (
        lt-ltb (start_at s i) END (omega (arith, end_after f i l, end_within f i l)),
        lt-ltb 0 (end_at s at.hi i) (omega (arith, end_after f i l)),
      )

  pub entry_within : (i : ℕ) → i < entry_count s → (context_below half s at i).hi ≤ END
  unfolding context_below
  entry_within i l = omega (arith, end_within f i l)

  -- a walk finds what each entry gives, in turn
  page_walked : (below : ℕ → Walked) → walk_page half h 0 END at s below ≡ in_turn (entry_count s) below
  unfolding walk_page
  page_walked below =
      let found : ℕ → Walked = λ i. cond (overlaps 0 END (start_at s i) (end_at s at.hi i)) (below i) nothing in
      ap (λ t. cond t (in_turn (entry_count s) found) stopped) ((page_fit_is half h at s).1 f)
      ∙ in_turn_same (entry_count s) found below (λ i l. ap (λ t. cond t (below i) nothing) (entry_overlaps i l))

-- ---- by the level

module _ (half : ℕ) (h : Head) (img : List ℕ) where
  pub leaf_walked : (at : PageContext) (p : ℕ) → PageFit half h at (page_at half img p) → at.hi ≤ END
      → walk half h img 0 END 0 at p
      ≡ in_turn (entry_count (page_at half img p))
      (λ i. leaf_run 0 (start_at (page_at half img p) i) (pair_at half (page_at half img p) i))
  unfolding walk
  leaf_walked at p f within = page_walked f within _

  pub inner_walked : (l : ℕ) (at : PageContext) (p : ℕ) → PageFit half h at (page_at half img p) → at.hi ≤ END
      → walk half h img 0 END (suc l) at p
      ≡ in_turn (entry_count (page_at half img p))
      (λ i.
      under (combine h.kind) (pair_at half (page_at half img p) i)
      (walk half h img 0 END l (context_below half (page_at half img p) at i) (child_at half (page_at half img p) i)))
  unfolding walk
  inner_walked l at p f within = page_walked f within _

  -- a run for each leaf entry
  pub walk_entries : (l : ℕ) (at : PageContext) (p : ℕ) → at.hi ≤ END → tree_fit half h img l at p ≡ true
      → length (walk half h img 0 END l at p).runs ≡ entries_below half img l p
  unfolding entries_below leaf_run
  walk_entries zero at p within t =
      let n : ℕ = entry_count (page_at half img p) in
      ap (λ w. length w.runs) (leaf_walked at p (tree_top half h img 0 at p t) within)
      ∙ in_turn_length n _ (λ i. 1) (λ i m. refl)
      ∙ total_ones n (λ i. 1) (λ i m. refl)
  walk_entries (suc l) at p within t =
      let parts = tree_parts half h img l at p t in
      let s : List ℕ = page_at half img p in
      ap (λ w. length w.runs) (inner_walked l at p parts.0 within)
      ∙ in_turn_length (entry_count s) _ (λ i. entries_below half img l (child_at half s i))
      (λ i m.
      length_under (combine h.kind) (pair_at half s i) _
      ∙ walk_entries l (context_below half s at i) (child_at half s i) (entry_within parts.0 within i m) (parts.1 i m))

-- ---- from the root of a sound image

pub full_entries : (half : ℕ) (img : List ℕ) → sound_before half img ≡ true → length (walk_over half img 0 END).runs ≡ leaf_entries half img
unfolding walk_over leaf_entries root_context
full_entries half img e =
    let h : Head = the_head half img in
    walk_entries half h img (h.height - 1) (root_context h) h.root (omega arith) (sound_facts half img e).fit.tree

-- "so its leaf entries number exactly the runs"
pub apart_number : (half : ℕ) (img : List ℕ) → sound_before half img ≡ true
    → (neighbours_apart half img ≡ true) ↔ (length (join (walk_over half img 0 END).runs) ≡ leaf_entries half img)
unfolding neighbours_apart
apart_number half img e = (
  λ a. ap length (join_none (walk_over half img 0 END).runs a) ∙ full_entries half img e,
  λ n. all_differ (walk_over half img 0 END).runs (n ∙ sym (full_entries half img e)),
)
