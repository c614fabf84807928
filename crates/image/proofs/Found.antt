-- The entry that a fit page's search finds is one of the page's own. Assumes nothing.
use Prim.Native.Nat.{ℕ, ◌≤◌, ◌<◌}
use mathlib.Core.Path.{◌≡◌}
use mathlib.Core.Bool.{true, and-eq-true_iff}
use mathlib.Core.List.{List}
use native.Mathlib.Omega.{arith}
use borrow.Author.Tests.{leb-true}
use Rattle.page.specs.Entries.{index_of}
use Rattle.page.specs.declared.Head.{Head}
use Rattle.page.specs.Layout.{capacity, entry_count, entries_of}
use Rattle.page.specs.Fit.{PageContext, fewest, entry_count_ok, page_fit}
use Rattle.page.proofs.Laws.Indices.{index_within}

module _ (half : ℕ) (h : Head) (at : PageContext) (s : List ℕ) (some : 1 ≤ fewest half at) (fits : page_fit half h at s ≡ true) where
  number_fits : (fewest half at ≤ entry_count s) × (entry_count s ≤ capacity half)
  unfolding page_fit entry_count_ok
  number_fits =
      let k = simp and-eq-true_iff at fits in
      (leb-true _ _ k.1.0.0, leb-true _ _ k.1.0.1)

  -- a page that must have an entry and has it: so pages have room for one
  pub room : 1 ≤ half
  room = omega (arith, number_fits)

  pub found_within : (t : ℕ) → index_of t (entries_of half s) < entry_count s
  found_within t = index_within half s t number_fits.1 (omega (arith, number_fits))
