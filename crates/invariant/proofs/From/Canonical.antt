-- The bytes of a sound image are those of its head and cells: nothing stands in it that they do not show. Assumes nothing.
use Prim.Native.Nat.{ℕ, zero, suc, ◌+◌, ◌*◌, ◌-◌, ◌≤◌, ◌<◌}
use mathlib.Core.Path.{◌≡◌, sym, ap, ◌∙◌}
use mathlib.Core.Bool.{true, and-eq-true_iff}
use mathlib.Core.List.{List, []}
use native.Mathlib.Nat.{mul-zero, mul-suc, add_comm}
use native.Mathlib.Omega.{arith}
use native.Mathlib.Decide.{ℕ_discrete, dec_le}
use lib.ListN.{length}
use lib.Dec.{eqb}
use Rattle.lists.proofs.Choices.{cond_one}
use Rattle.fields.specs.Bytes.{Bytes, part}
use Rattle.fields.proofs.Laws.Parts.{part_whole}
use Rattle.fields.proofs.Laws.Digits.{bytes_part}
use Rattle.fields.proofs.Laws.Tests.{length_unused}
use Rattle.page.specs.declared.Head.{Head}
use Rattle.page.specs.Layout.{page_size, level_of, entry_count, child_at, entries_of, next_of, free_level, never_used_ok, free_ok}
use Rattle.page.specs.Layout.{head_bytes}
use Rattle.lists.specs.Lists.{listed, concat_map}
use Rattle.page.specs.Fit.{PageContext, root_context, context_below, head_fit}
use Rattle.page.proofs.Laws.Concat.{joined_parts}
use Rattle.page.proofs.Laws.Pieces.{part_pieces}
use Rattle.page.proofs.Laws.Trees.{length_tree, length_entries_of, tree_again}
use Rattle.page.proofs.Laws.Frees.{length_free, free_again, unused_again}
use Rattle.page.proofs.Laws.Heads.{head_again}
use Rattle.image.specs.Images.{page_at, pages_in, length_ok, never_used_level, cell_of, cell_bytes, image_of, image_bytes, Canonical}
use Rattle.image.specs.Sound.{tree_fit, tree_pages, sound_before}
use Rattle.lists.specs.Lists.{times}
use Rattle.image.proofs.Sizes.{sized, page_length}
use Rattle.image.proofs.Cells.{cell_tree, cell_free, cell_never, never_level}
use Rattle.lists.proofs.Totals.{total_some, hit_other}
use Rattle.lists.proofs.Times.{times_none, times_other}
use Rattle.fit.proofs.Laws.Pages.{PageFit}
use Rattle.soundness.proofs.Levels.{free_level_is}
use Rattle.soundness.proofs.Tree.{tree_parts, tree_times, tree_top}
use Rattle.soundness.proofs.Sound.{the_head, the_tree, SoundFacts, sound_facts}
use Rattle.soundness.proofs.Used.{tree_level}

-- ---- a page of the tree is fit in some context

record Placed (half : ℕ) (h : Head) (s : List ℕ) : Type 0 where
  context : PageContext
  fit : PageFit half h context s

module _ (half : ℕ) (h : Head) (img : List ℕ) (p : ℕ) where
  here : (at : PageContext) (q : ℕ) → p ≡ q → PageFit half h at (page_at half img q) → Placed half h (page_at half img p)
  here at q e f = rw e (record { context = at; fit = f })

  placed : (l : ℕ) (at : PageContext) (q : ℕ) → tree_fit half h img l at q ≡ true → 1 ≤ times p (tree_pages half img l q)
      → Placed half h (page_at half img p)
  unfolding tree_pages
  placed zero at q t n = go (ℕ_discrete p q)
    where
      go : Dec (p ≡ q) → Placed half h (page_at half img p)
      go (yes e) = here at q e (tree_top half h img zero at q t)
      go (no d) = absurd (omega (arith, times_other p q [] d, times_none p))
  placed (suc l) at q t n =
      go (ℕ_discrete p q) (λ i m. placed l (context_below half (page_at half img q) at i) (child_at half (page_at half img q) i) (k.1 i m))
    where
      k : PageFit half h at (page_at half img q)
          × ((i : ℕ) → i < entry_count (page_at half img q)
          → tree_fit half h img l (context_below half (page_at half img q) at i) (child_at half (page_at half img q) i) ≡ true)
      k = tree_parts half h img l at q t

      go : Dec (p ≡ q)
          → ((i : ℕ) → i < entry_count (page_at half img q)
          → 1 ≤ times p (tree_pages half img l (child_at half (page_at half img q) i)) → Placed half h (page_at half img p))
          → Placed half h (page_at half img p)
      go (yes e) deeper = here at q e k.0
      go (no d) deeper =
          total_some (entry_count (page_at half img q)) (λ i. times p (tree_pages half img l (child_at half (page_at half img q) i))) deeper
          (omega (arith, tree_times half img l q k.0.most p, hit_other p q d))

-- ---- every page

module _ (half : ℕ) (img : List ℕ) (b : Bytes img) (f : SoundFacts half img) where
  bytes_page : (p : ℕ) → Bytes (page_at half img p)
  unfolding page_at
  bytes_page p = bytes_part img (page_size half * p) (page_size half) b

  module _ (p : ℕ) (l : 1 ≤ p) (r : p < pages_in half img) where
    tree_cell : 1 ≤ times p (the_tree half img) → cell_bytes half (cell_of half (page_at half img p)) ≡ page_at half img p
    unfolding cell_bytes
    tree_cell n =
        let h : Head = the_head half img in
        let s : List ℕ = page_at half img p in
        let w = placed half h img p (h.height - 1) (root_context h) h.root f.fit.tree n in
        ap (cell_bytes half) (cell_tree half s (omega (arith, tree_level f.fit p n, f.fit.head.height_most)))
        ∙ tree_again half s (page_length (sized half img f.fit.whole) p r) (bytes_page p) w.fit.most w.fit.unused

    free_cell : free_ok half (page_at half img p) ≡ true → cell_bytes half (cell_of half (page_at half img p)) ≡ page_at half img p
    unfolding cell_bytes
    free_cell e =
        let s : List ℕ = page_at half img p in
        ap (cell_bytes half) (cell_free half s (free_level_is half s e))
        ∙ free_again half s (page_length (sized half img f.fit.whole) p r) (bytes_page p) e

    never_cell : never_used_ok (page_at half img p) ≡ true → cell_bytes half (cell_of half (page_at half img p)) ≡ page_at half img p
    unfolding cell_bytes
    never_cell e =
        let s : List ℕ = page_at half img p in
        let n : length s ≡ page_size half = page_length (sized half img f.fit.whole) p r in
        ap (cell_bytes half) (cell_never half s (never_level (page_size half) s (omega arith) n e))
        ∙ sym (unused_again (page_size half) s n e)

    page_again : cell_bytes half (cell_of half (page_at half img p)) ≡ page_at half img p
    page_again = go (dec_le (the_head half img).mark p) (dec_le 1 (times p (the_tree half img)))
      where
        go : Dec ((the_head half img).mark ≤ p) → Dec (1 ≤ times p (the_tree half img))
            → cell_bytes half (cell_of half (page_at half img p)) ≡ page_at half img p
        go (yes k) t = never_cell (f.fit.never p k r)
        go (no k) (yes t) = tree_cell t
        go (no k) (no t) = free_cell (f.free p (omega (arith, f.once p l (omega arith))))

-- ---- all of them, one after the other

-- whatever a page holds, its cell has the bytes of a page
length_cell : (half : ℕ) (s : List ℕ) → length (cell_bytes half (cell_of half s)) ≡ page_size half
unfolding cell_of cell_bytes
length_cell half s =
    cond_one (λ c. length (cell_bytes half c) ≡ page_size half) (eqb (level_of s) free_level) (λ e. length_free half (next_of s))
    (λ e.
    cond_one (λ c. length (cell_bytes half c) ≡ page_size half) (eqb (level_of s) never_used_level) (λ e. length_unused (page_size half))
    (λ e. length_tree half (level_of s) (entries_of half s) (omega (arith, length_entries_of half s))))

head_page : (half : ℕ) (img : List ℕ) → 1 ≤ half → length_ok half img ≡ true → Bytes img
    → head_fit half (pages_in half img) (page_at half img 0) ≡ true
    → head_bytes half (the_head half img) ≡ part img 0 (page_size half)
unfolding head_fit page_at
head_page half img some ok b e =
    let k = simp and-eq-true_iff at e in
    head_again half (page_at half img 0) some (page_length (sized half img ok) 0 (omega (arith, (sized half img ok).least)))
    (bytes_part img (page_size half * 0) (page_size half) b) k.1.1
    ∙ ap (λ o. part img o (page_size half)) (mul-zero (page_size half))

pub canonical : (half : ℕ) (img : List ℕ) → 1 ≤ half → Bytes img → sound_before half img ≡ true → image_bytes half (image_of half img) ≡ img
unfolding image_bytes image_of page_at
canonical half img some b e =
    let f : SoundFacts half img = sound_facts half img e in
    let size : ℕ = page_size half in
    let n : ℕ = pages_in half img in
    let ok = f.fit.whole in
    let u : n ≡ suc (n - 1) = omega (arith, (sized half img ok).least) in
    let more : size * n ≡ size + size * (n - 1) = ap (λ k. size * k) u ∙ mul-suc size (n - 1) ∙ add_comm (size * (n - 1)) size in
    let cell : ℕ → List ℕ = λ p. cell_bytes half (cell_of half (page_at half img (suc p))) in
    let rest : concat_map cell (listed ((the_head half img).pages - 1) (λ p. p)) ≡ part img size (size * (n - 1)) =
    ap (λ k. concat_map cell (listed (k - 1) (λ p. p))) f.fit.head.pages_is
    ∙ joined_parts cell size (λ p. length_cell half (page_at half img (suc p))) img size (n - 1) (λ p. p)
    (λ i l.
    page_again half img b f (suc i) (omega arith) (omega arith) ∙ ap (λ o. part img o size) (mul-suc size i ∙ add_comm (size * i) size)) in
    part_pieces img 0 size size (size * (n - 1)) (omega arith) (head_page half img some ok b f.fit.head_fits) rest
    ∙ part_whole img (size + size * (n - 1)) ((sized half img ok).size ∙ more)

-- and each page is read back
pub canonical_kept : (half : ℕ) (img : List ℕ) → Bytes img → sound_before half img ≡ true
    → (p : ℕ) → 1 ≤ p → p < (image_of half img).head.pages → Canonical half ((image_of half img).page p)
unfolding image_of
canonical_kept half img b e p l r =
    let f : SoundFacts half img = sound_facts half img e in
    let s : List ℕ = page_at half img p in
    record { sized = length_cell half s; again = ap (cell_of half) (page_again half img b f p l (omega (arith, f.fit.head.pages_is))) }
