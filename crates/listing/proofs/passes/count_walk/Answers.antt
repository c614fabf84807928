-- `listing::passes::count_walk` meets its contract: a law for each way out. Assumes nothing.
use Rattle.listing.proofs.Laws.Roots.{room_counting, count_unfit, count_fit}
use Rattle.listing.proofs.passes.count_walk.Goals as goal

pub walk_root-requires-clause-room : goal.walk_root-requires-clause-room
walk_root-requires-clause-room c =
    let w = c.requires in
    room_counting c.args.a c.args.b _ w.opened.1 w.opened.2 w.all_fit

pub returns-in_err-last : goal.returns-in_err-last
returns-in_err-last c = rw c.from_residual.ensures (count_unfit _ c.in_err-last.ensures.answers)

pub returns : goal.returns
returns c = count_fit _ c.in_ok-last.ensures.answers
