-- `listing::leaves::leaf_page` meets its contract. Assumes nothing.
use Rattle.listing.proofs.Laws.Ranges.{comes, turning_none, turning_room, turning_more, turning_all, turning_met}
use Rattle.listing.proofs.Laws.Loops.{entries_ranged, entry_met}
use Rattle.listing.proofs.leaves.leaf_page.Goals as goal

pub loop-i-init : goal.loop-i-init
loop-i-init g c =
    turning_none (entries_ranged _ _ _ c.requires.valid_cursor.half_most c.requires.fit_page c.entries_met-i-items.ensures)
    c.into_iter-i-iterator.ensures.into_iter_gives c.requires.room

pub leaf_entry-last-requires-clause-valid_entry : goal.leaf_entry-last-requires-clause-valid_entry
leaf_entry-last-requires-clause-valid_entry g c =
    let l = turning_met c.loop-i.invariant (comes c.loop-i.i-iterator c.next.new.self c.in-Some.ensures.steps) c.into_iter-i-iterator.ensures.into_iter_gives in
    entry_met _ _ _ c.requires.fit_page c.entries_met-i-items.ensures l.0 l.1

pub leaf_entry-last-requires-clause-room : goal.leaf_entry-last-requires-clause-room
leaf_entry-last-requires-clause-room g c = turning_room c.loop-i.invariant (comes c.loop-i.i-iterator c.next.new.self c.in-Some.ensures.steps)

pub loop-i-preserved : goal.loop-i-preserved
loop-i-preserved g c = turning_more c.loop-i.invariant (comes c.loop-i.i-iterator c.next.new.self c.in-Some.ensures.steps) c.leaf_entry-last.ensures c.leaf_entry-last.auto.out

pub returns : goal.returns
returns g c = turning_all c.loop-i.invariant c.in-None.ensures.steps.1.0
