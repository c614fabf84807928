-- `remove_entry` meets its contract: the page that is lent comes back with one entry less. Assumes nothing.
use Rattle.std.proofs.Common.{arith}
use Rattle.store.proofs.Reading.{lent_within}
use Rattle.store.proofs.Editing.{lent_sizes, back_removed}
use Rattle.store.proofs.edits.remove_entry.Goals as goal

pub slice_bounds-remove_slot-end : goal.slice_bounds-remove_slot-end
slice_bounds-remove_slot-end c =
    let s = c.requires in omega (arith, c.page_range.ensures, lent_within s.holds s.ready.1.tree_page)

pub remove_slot-requires : goal.remove_slot-requires
remove_slot-requires c =
    let s = c.requires in
    omega (arith, s.holds.half_most, s.ready.1.inside, lent_sizes s.holds s.ready.1.tree_page c.page_range.ensures)

pub returns : goal.returns
returns c X h l k =
    back_removed h k.tree_page c.page_range.ensures c.remove_slot.auto.s c.args.i k.inside c.remove_slot.ensures
