-- `insert_entry` meets its contract: the page that is lent comes back with one more entry. Assumes nothing.
use Rattle.std.proofs.Common.{arith}
use Rattle.store.proofs.Widths.{entry_fits}
use Rattle.store.proofs.Reading.{lent_within}
use Rattle.store.proofs.Editing.{lent_sizes, back_inserted}
use Rattle.store.proofs.edits.insert_entry.Goals as goal

pub slice_bounds-insert_slot-end : goal.slice_bounds-insert_slot-end
slice_bounds-insert_slot-end c =
    let s = c.requires in omega (arith, c.page_range.ensures, lent_within s.holds s.ready.1.tree_page)

pub insert_slot-requires : goal.insert_slot-requires
insert_slot-requires c =
    let s = c.requires in
    omega (
      arith,
      s.holds.half_most,
      s.ready.1.inside,
      s.ready.1.room,
      lent_sizes s.holds s.ready.1.tree_page c.page_range.ensures,
    )

pub returns : goal.returns
returns c X h l k =
    back_inserted h k.tree_page c.page_range.ensures c.insert_slot.auto.s c.args.i c.args.e k.room
    (entry_fits _ _ c.well_formed.1.1.1.1.0) c.insert_slot.ensures
