-- `listing::entries::cursor_below` meets its contract: the entry is read in the page that is lent. Assumes nothing.
use Rattle.std.proofs.Common.{arith, rules}
use Rattle.listing.proofs.Laws.Stands.{lent, sits_bounded}
use Rattle.listing.proofs.entries.cursor_below.Goals as goal

pub context_below-requires : goal.context_below-requires
context_below-requires c =
    let w = c.requires in
    let l = lent w.valid_cursor w.valid_entry c.page_at-s.ensures in
    let bounded = sits_bounded w.valid_cursor in
    search rules

pub child_at-requires : goal.child_at-requires
child_at-requires c = omega (arith, lent c.requires.valid_cursor c.requires.valid_entry c.page_at-s.ensures)
