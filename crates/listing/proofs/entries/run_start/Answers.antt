-- `listing::entries::run_start` meets its contract: the start is read in the page that is lent. Assumes nothing.
use Rattle.std.proofs.Common.{arith}
use Rattle.listing.proofs.Laws.Stands.{lent}
use Rattle.listing.proofs.entries.run_start.Goals as goal

pub start_at-requires : goal.start_at-requires
start_at-requires c = omega (arith, lent c.requires.valid_cursor c.requires.valid_entry c.page_at.ensures)
