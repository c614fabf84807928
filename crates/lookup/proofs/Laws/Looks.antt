-- The path of an instant from root to leaf and back, by the definition. Assumes nothing.
use mathlib.Core.Path.{◌≡◌, sym}
use mathlib.Core.Bool.{true, false, true≢false}
use mathlib.Core.List.{List}
use Prim.Native.Nat.{ℕ, zero, suc, ◌≤◌}
use native.Mathlib.Omega.{arith}
use Rattle.lists.proofs.Choices.{cond_one, either}
use Rattle.rule.specs.Pairs.{combine}
use Rattle.page.specs.declared.Entry.{Entry}
use Rattle.page.specs.declared.Head.{Head}
use Rattle.page.specs.Entries.{index_of}
use Rattle.page.specs.Layout.{pair_at, child_at, entries_of}
use Rattle.page.specs.Fit.{PageContext, context_under, context_below, page_fit}
use Rattle.page.proofs.Laws.Indices.{index_within}
use Rattle.fit.proofs.Laws.Pages.{Paired, page_fit_is, entry_first}
use Rattle.image.specs.Images.{page_at}
use Rattle.image.specs.Instant.{Lookup, stopped, leaf_answer, above, look_by, look}
use Rattle.lookup.proofs.Laws.Levels.{Found, found_start, found_pair, found_child, found_context}
use Rattle.lookup.proofs.Laws.Bounds.{combined_paired}

module _ (half : ℕ) (h : Head) (img : List ℕ) (t : ℕ) (at : PageContext) (p : ℕ) where
  -- ---- the three ways on from a page

  pub look_unfit : (l : ℕ) → page_fit half h at (page_at half img p) ≡ false → look half h img t l at p ≡ stopped
  unfolding look_by
  look_unfit zero e = rw e
  look_unfit (suc l) e = rw e

  module _ {e : Entry} {end : ℕ} (f : Found half h at t (page_at half img p) e end) where
    pub look_leaf : look half h img t 0 at p ≡ leaf_answer e.pair e.start end
    unfolding look_by
    look_leaf = rw (f.fit, found_pair f, found_start f, f.ends)

    pub look_inner : (l : ℕ)
        → look half h img t (suc l) at p ≡
        above (combine h.kind) e.pair (look half h img t l (context_under at e.start end e.pair) e.child)
    unfolding look_by
    look_inner l = rw (found_context f, f.fit, found_pair f, found_child f)

-- no more pages are read than there are levels
pub look_few : (half : ℕ) (h : Head) (img : List ℕ) (t l : ℕ) (at : PageContext) (p : ℕ) → (look half h img t l at p).pages ≤ suc l
unfolding look_by stopped leaf_answer above
look_few half h img t zero at p =
    either (λ (w : Lookup). w.pages ≤ 1) (omega arith) (omega arith) (page_fit half h at (page_at half img p))
look_few half h img t (suc l) at p =
    cond_one (λ (w : Lookup). w.pages ≤ suc (suc l)) (page_fit half h at (page_at half img p))
    (λ _.
    let s = page_at half img p in
    let i = index_of t (entries_of half s) in
    omega (arith, look_few half h img t l (context_below half s at i) (child_at half s i)))
    (λ _. omega arith)

-- What was found may stand in an entry of the page where the lookup began: its sizes keep the bounds that its page's pairs keep.
module _ (half : ℕ) (h : Head) (img : List ℕ) (t : ℕ) (some : 1 ≤ half) where
  entry_paired : (at : PageContext) (p : ℕ) → page_fit half h at (page_at half img p) ≡ true
      → let s = page_at half img p in Paired h at (pair_at half s (index_of t (entries_of half s)))
  entry_paired at p e =
      let s = page_at half img p in
      let f = (page_fit_is half h at s).0 e in
      f.pairs _ (index_within half s t f.most (entry_first f some))

  pub look_paired : (l : ℕ) (at : PageContext) (p : ℕ) → (look half h img t l at p).fit ≡ true → Paired h at (look half h img t l at p).pair
  unfolding look_by stopped leaf_answer above context_below
  look_paired zero at p =
      cond_one (λ (w : Lookup). w.fit ≡ true → Paired h at w.pair) (page_fit half h at (page_at half img p))
      (λ e _. entry_paired at p e) (λ _ e. absurd (true≢false (sym e)))
  look_paired (suc l) at p =
      cond_one (λ (w : Lookup). w.fit ≡ true → Paired h at w.pair) (page_fit half h at (page_at half img p))
      (λ e low. rw low (combined_paired (entry_paired at p e) (look_paired l _ _ low))) (λ _ e. absurd (true≢false (sym e)))
