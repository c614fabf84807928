-- `entry_count_in` meets its contract: the part lent is the page, and its number is its entries'. Assumes nothing.
use Rattle.std.proofs.Common.{arith}
use Rattle.store.proofs.Reading.{lent_within, lent_size, lent_count}
use Rattle.store.proofs.entries.entry_count_in.Goals as goal

pub page_at-requires : goal.page_at-requires
page_at-requires c = lent_within c.requires.holds c.requires.ready.1

pub entry_count-requires : goal.entry_count-requires
entry_count-requires c = omega (arith, lent_size c.requires.holds c.requires.ready.1 c.page_at.ensures)

pub returns : goal.returns
returns c X h l t = lent_count h t c.page_at.ensures c.entry_count.ensures
