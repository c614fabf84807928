-- `listing::entries::total_at` meets its contract: under fit pages, pairs can be combined. Assumes nothing.
use Rattle.std.proofs.Common.{arith}
use Rattle.listing.proofs.Laws.Stands.{fit_facts, combinable, lent}
use Rattle.listing.proofs.entries.total_at.Goals as goal

pub pair_at-requires : goal.pair_at-requires
pair_at-requires c = omega (arith, lent c.requires.valid_cursor c.requires.valid_entry c.page_at.ensures)

pub combine-requires : goal.combine-requires
combine-requires c =
    let w = c.requires in
    rw (c.pair_at.ensures, c.page_at.ensures)
    (combinable w.valid_cursor.above (fit_facts w.valid_cursor w.valid_entry) c.args.i w.valid_entry.within w.valid_cursor.changes)
