-- Below a page of a fit tree: how many pages there are of a level, itself included, and how many runs a walk finds. A page has no more
-- entries than its capacity, and each leads to one page of the level below or is one run. By recursion on the level. Assumes nothing.
use mathlib.Core.Path.{◌≡◌, ap, ◌∙◌}
use mathlib.Core.Bool.{true, cond}
use mathlib.Core.List.{List}
use Prim.Native.Nat.{ℕ, zero, suc, ◌+◌, ◌*◌, ◌≤◌, ◌<◌}
use native.Mathlib.Omega.{arith}
use native.Mathlib.Decide.{ℕ_discrete}
use lib.ListN.{length}
use Rattle.lists.specs.Lists.{hit, sum, total}
use Rattle.lists.proofs.Choices.{either}
use Rattle.lists.proofs.Concat.{sum_concat_map}
use Rattle.lists.proofs.Totals.{total_none, total_most_times, total_le, total_ones, hit_self, hit_other}
use Rattle.page.specs.declared.Head.{Head}
use Rattle.page.specs.Layout.{capacity, level_of, entry_count, child_at, entry_at}
use Rattle.page.specs.Fit.{PageContext, context_below}
use Rattle.fit.proofs.Laws.Pages.{PageFit}
use Rattle.image.specs.Images.{page_at}
use Rattle.image.specs.Sound.{tree_fit, tree_pages}
use Rattle.image.specs.Listing.{walk}
use Rattle.image.specs.Trail.{entries_over}
use Rattle.soundness.proofs.Tree.{tree_parts, tree_top, tree_more}
use Rattle.soundness.proofs.Runs.{CountsPages, walk_most}

-- ---- the page itself, and the pages below its entries

module _ (half : ℕ) (img : List ℕ) where
  -- the pages of level l from page q on, which stands on level `high`
  abbrev pub under_on : ℕ → ℕ → ℕ → ℕ
  under_on l high q = sum (λ p. hit l (level_of (page_at half img p))) (tree_pages half img high q)

  on_leaf : (l q : ℕ) → under_on l 0 q ≡ hit l (level_of (page_at half img q))
  unfolding tree_pages sum
  on_leaf l q = omega arith

  on_more : (l high q : ℕ) → entry_count (page_at half img q) ≤ capacity half
      → under_on l (suc high) q
      ≡ hit l (level_of (page_at half img q))
      + total (entry_count (page_at half img q)) (λ i. under_on l high (child_at half (page_at half img q) i))
  unfolding entry_at sum
  on_more l high q m =
      let s : List ℕ = page_at half img q in
      ap (sum (λ p. hit l (level_of (page_at half img p)))) (tree_more half img high q m)
      ∙ ap (λ k. hit l (level_of s) + k)
      (sum_concat_map (λ p. hit l (level_of (page_at half img p))) (λ e. tree_pages half img high e.child) (λ i. entry_at half s i)
      (entry_count s))

-- ---- a fit tree

module _ (half : ℕ) (h : Head) (img : List ℕ) where
  -- a leaf page
  fit_leaf : (l : ℕ) (at : PageContext) (q : ℕ) → at.level ≡ 0 → tree_fit half h img 0 at q ≡ true
      → under_on half img l 0 q ≡ hit l 0
  fit_leaf l at q e t = on_leaf half img l q ∙ ap (hit l) ((tree_top half h img 0 at q t).level ∙ e)

  module _ (high : ℕ) (at : PageContext) (q : ℕ) (e : at.level ≡ suc high) (t : tree_fit half h img (suc high) at q ≡ true) where
    abbrev s : List ℕ
    s = page_at half img q

    abbrev below : ℕ → ℕ → ℕ
    below l i = under_on half img l high (child_at half s i)

    fit_page : PageFit half h at s
    fit_page = (tree_parts half h img high at q t).0

    fit_more : (l : ℕ) → under_on half img l (suc high) q ≡ hit l (suc high) + total (entry_count s) (below l)
    fit_more l =
        on_more half img l high q fit_page.most
        ∙ ap (λ k. hit l k + total (entry_count s) (below l)) (fit_page.level ∙ e)

    -- what holds of each fit page a level below
    fit_below : (Q : ℕ → Type 0)
        → ((at' : PageContext) (p : ℕ) → at'.level ≡ high → tree_fit half h img high at' p ≡ true → Q p)
        → (i : ℕ) → i < entry_count s → Q (child_at half s i)
    unfolding context_below
    fit_below Q all i m =
        all (context_below half s at i) (child_at half s i) (omega arith) ((tree_parts half h img high at q t).1 i m)

  -- no page stands on a level above
  pub on_above : (l high : ℕ) (at : PageContext) (q : ℕ) → at.level ≡ high → tree_fit half h img high at q ≡ true → high < l
      → under_on half img l high q ≡ 0
  on_above l zero at q e t lt = fit_leaf l at q e t ∙ hit_other l 0 (λ d. omega arith)
  on_above l (suc high) at q e t lt =
      let rest : total (entry_count (page_at half img q)) (below high at q e t l) ≡ 0 =
      total_none (entry_count (page_at half img q)) (below high at q e t l)
      (fit_below high at q e t (λ p. under_on half img l high p ≡ 0) (λ at' p e' t'. on_above l high at' p e' t' (omega arith))) in
      omega (arith, fit_more high at q e t l, rest, hit_other l (suc high) (λ d. omega arith))

  -- on its own level the page stands alone
  pub on_top : (high : ℕ) (at : PageContext) (q : ℕ) → at.level ≡ high → tree_fit half h img high at q ≡ true
      → under_on half img high high q ≡ 1
  on_top zero at q e t = fit_leaf 0 at q e t
  on_top (suc high) at q e t =
      let rest : total (entry_count (page_at half img q)) (below high at q e t (suc high)) ≡ 0 =
      total_none (entry_count (page_at half img q)) (below high at q e t (suc high))
      (fit_below high at q e t (λ p. under_on half img (suc high) high p ≡ 0)
      (λ at' p e' t'. on_above (suc high) high at' p e' t' (omega arith))) in
      omega (arith, fit_more high at q e t (suc high), rest, hit_self (suc high))

  -- a level has no more pages than the one above it has room for entries
  pub on_below : (l high : ℕ) (at : PageContext) (q : ℕ) → at.level ≡ high → tree_fit half h img high at q ≡ true → l < high
      → under_on half img l high q ≤ capacity half * under_on half img (suc l) high q
  on_below l zero at q e t lt = absurd (omega arith)
  on_below l (suc high) at q e t lt =
      go (ℕ_discrete l high) (fit_below high at q e t (λ p. l < high → _) (λ at' p e' t' lt'. on_below l high at' p e' t' lt'))
    where
      n : ℕ
      n = entry_count (page_at half img q)

      go : Dec (l ≡ high)
          → ((i : ℕ) → i < n → l < high → below high at q e t l i ≤ capacity half * below high at q e t (suc l) i)
          → under_on half img l (suc high) q ≤ capacity half * under_on half img (suc l) (suc high) q
      go (yes d) r =
          let top : under_on half img (suc l) (suc high) q ≡ 1 =
          ap (λ k. under_on half img (suc k) (suc high) q) d ∙ on_top (suc high) at q e t in
          let ones : total n (below high at q e t l) ≡ n =
          total_ones n (below high at q e t l)
          (fit_below high at q e t (λ p. under_on half img l high p ≡ 1)
          (λ at' p e' t'. ap (λ k. under_on half img k high p) d ∙ on_top high at' p e' t')) in
          omega (
            arith,
            fit_more high at q e t l,
            hit_other l (suc high) (λ c. omega arith),
            ones,
            (fit_page high at q e t).most,
            ap (λ k. capacity half * k) top,
          )
      go (no d) r =
          let rest : total n (below high at q e t l) ≤ capacity half * total n (below high at q e t (suc l)) =
          total_most_times n (capacity half) (below high at q e t l) (below high at q e t (suc l)) (λ i m. r i m (omega arith)) in
          let above : under_on half img (suc l) (suc high) q ≡ total n (below high at q e t (suc l)) =
          omega (arith, fit_more high at q e t (suc l), hit_other (suc l) (suc high) (λ c. omega arith)) in
          omega (
            arith,
            fit_more high at q e t l,
            hit_other l (suc high) (λ c. omega arith),
            rest,
            ap (λ k. capacity half * k) above,
          )

-- ---- the runs of a walk: no more than the leaf pages have room for entries

module _ (half : ℕ) (h : Head) (img : List ℕ) (a b : ℕ) where
  leaf_pages : CountsPages half h img a b (λ high at q. under_on half img 0 high q)
  leaf_pages =
      record {
        leaf = λ at q f e. omega (arith, on_leaf half img 0 q ∙ ap (hit 0) (f.level ∙ e));
        inner =
            λ high at q f.
            let s : List ℕ = page_at half img q in
            let leaves : ℕ → ℕ = λ i. under_on half img 0 high (child_at half s i) in
            omega (
              arith,
              on_more half img 0 high q f.most,
              total_le (entry_count s) (λ i. cond (entries_over a b at s i) (leaves i) 0) leaves
                  (λ i l. either (λ n. n ≤ leaves i) (omega arith) (omega arith) (entries_over a b at s i)),
            );
      }

  pub leaves_room : (high : ℕ) (at : PageContext) (q : ℕ) → at.level ≡ high
      → length (walk half h img a b high at q).runs ≤ capacity half * under_on half img 0 high q
  leaves_room = walk_most half h img a b leaf_pages
