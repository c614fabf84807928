-- `listing::leaves::leaf_entry` meets its contract: the entry is one run more. Assumes nothing.
use Rattle.listing.proofs.Laws.Leaves.{entry_few, entry_room, entry_does}
use Rattle.listing.proofs.leaves.leaf_entry.Goals as goal

pub meet-requires-clause-counted : goal.meet-requires-clause-counted
meet-requires-clause-counted g c =
    entry_few c.requires.valid_entry c.requires.leaf c.run_start.ensures c.total_at.ensures c.requires.room

pub meet-requires-clause-room : goal.meet-requires-clause-room
meet-requires-clause-room g c =
    entry_room c.requires.valid_entry c.requires.leaf c.run_start.ensures c.total_at.ensures c.requires.room

pub returns : goal.returns
returns g c =
    entry_does c.requires.valid_entry c.requires.leaf c.run_start.ensures c.total_at.ensures c.meet.ensures.stepped
    c.meet.ensures.written
