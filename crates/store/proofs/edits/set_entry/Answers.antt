-- `set_entry` meets its contract: the page that is lent comes back with another entry. Assumes nothing.
use Rattle.std.proofs.Common.{arith}
use Rattle.store.proofs.Widths.{entry_fits}
use Rattle.store.proofs.Reading.{lent_within}
use Rattle.store.proofs.Editing.{lent_sizes, back_set}
use Rattle.store.proofs.edits.set_entry.Goals as goal

pub slice_bounds-set_slot-end : goal.slice_bounds-set_slot-end
slice_bounds-set_slot-end c = let s = c.requires in omega (arith, c.page_range.ensures, lent_within s.holds s.ready.1.tree_page)

pub set_slot-requires : goal.set_slot-requires
set_slot-requires c =
    let s = c.requires in
    omega (arith, s.ready.1.inside, lent_sizes s.holds s.ready.1.tree_page c.page_range.ensures)

pub returns : goal.returns
returns c X h l k =
    back_set h k.tree_page c.page_range.ensures c.set_slot.auto.s k.inside (entry_fits _ _ c.well_formed.1.1.1.1.0)
    c.set_slot.ensures
