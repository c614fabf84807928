-- `listing::met::entries_met` meets its contract: both ends are looked for in the page that is lent. Assumes nothing.
use Rattle.std.proofs.Common.{arith}
use Rattle.fit.proofs.Laws.Pages.{page_fit_is}
use Rattle.listing.proofs.Laws.Met.{met_range}
use Rattle.listing.proofs.Laws.Loops.{opened_fit, opened_compared}
use Rattle.listing.proofs.met.entries_met.Goals as goal

pub first_met-requires : goal.first_met-requires
first_met-requires c =
    omega (arith, opened_compared _ _ _ c.requires.valid_cursor c.requires.fit_page c.page_at-s.ensures)

pub past_met-requires : goal.past_met-requires
past_met-requires c =
    omega (arith, opened_compared _ _ _ c.requires.valid_cursor c.requires.fit_page c.page_at-s.ensures)

pub returns : goal.returns
returns c =
    let f = opened_fit _ _ _ c.requires.fit_page in
    met_range ((page_fit_is _ _ _ _).0 f.0) f.1
    (rw c.page_at-s.ensures at c.first_met.ensures) (rw c.page_at-s.ensures at c.past_met.ensures)
