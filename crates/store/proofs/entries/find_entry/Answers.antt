-- `find_entry` meets its contract: the part lent is the page, and its starts are its entries'. Assumes nothing.
use Rattle.std.proofs.Common.{arith}
use Rattle.store.proofs.Reading.{lent_within, lent_size, lent_searched, lent_inside, lent_found}
use Rattle.store.proofs.entries.find_entry.Goals as goal

pub page_at-s-requires : goal.page_at-s-requires
page_at-s-requires c = lent_within c.requires.holds c.requires.ready.1.tree_page

pub entry_count-count-requires : goal.entry_count-count-requires
entry_count-count-requires c = omega (arith, lent_size c.requires.holds c.requires.ready.1.tree_page c.page_at-s.ensures)

pub find-found-requires : goal.find-found-requires
find-found-requires c =
    lent_searched c.requires.holds c.requires.ready.1 c.page_at-s.ensures c.entry_count-count.ensures

pub entry_at-requires : goal.entry_at-requires
entry_at-requires c =
    let h = c.requires.holds in
    let k = c.requires.ready.1 in
    let same = c.page_at-s.ensures in
    (lent_size h k.tree_page same, lent_inside h k same c.find-found.ensures.index)

pub returns : goal.returns
returns c X h l k =
    lent_found h k c.page_at-s.ensures c.entry_count-count.ensures c.find-found.ensures c.entry_at.ensures
