-- `listing::pages::check_page` meets its contract: the page is fit, or not. Assumes nothing.
use Rattle.std.proofs.Common.{◌≡◌, ℕ, List, length, ap, ◌∙◌, arith}
use Rattle.page.specs.Layout.{page_size}
use Rattle.listing.specs.declared.SpanQuery.{SpanQuery}
use Rattle.listing.specs.declared.Cursor.{Cursor}
use Rattle.listing.specs.Cursors.{ValidCursor}
use Rattle.listing.specs.Walks.{bytes_at, page_check}
use Rattle.listing.proofs.Laws.Stands.{page_length, sits_bounded}
use Rattle.listing.proofs.pages.check_page.Goals as goal

-- the bytes that are lent are a page's
size : {img : List ℕ} {q : SpanQuery} {on : Cursor} {s : List ℕ} → ValidCursor img q on → s ≡ bytes_at q.half img on
    → length s ≡ page_size q.half
size sits e = ap length e ∙ page_length sits

pub found_fit-requires-clause-whole_page : goal.found_fit-requires-clause-whole_page
found_fit-requires-clause-whole_page c = (c.requires.valid_cursor.half_least, size c.requires.valid_cursor c.page_at-s.ensures)

pub found_fit-requires-clause-bounded : goal.found_fit-requires-clause-bounded
found_fit-requires-clause-bounded c = sits_bounded c.requires.valid_cursor

pub entry_count-requires : goal.entry_count-requires
entry_count-requires c = omega (arith, size c.requires.valid_cursor c.page_at-s.ensures)

pub returns-then-found_fit : goal.returns-then-found_fit
unfolding page_check
returns-then-found_fit c = rw (← c.page_at-s.ensures, ← c.found_fit.ensures, c.if-found_fit.true, c.entry_count.ensures)

pub returns : goal.returns
unfolding page_check
returns c = rw (← c.page_at-s.ensures, ← c.found_fit.ensures, c.if-found_fit.false)
