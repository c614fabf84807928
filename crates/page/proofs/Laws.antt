-- `Concat` has the laws of the bytes of lists, `Indices` those of the entry that has an instant, `Pieces` those of a list's pieces, `Puts`
-- those of numbers written one after the other; `Entries`, `Trees`, `Frees` and `Heads` those of an entry and of the three kinds of page;
-- `Shifts` those of entries that move by a slot, `Fits` those of the widths of edited entries; `Signed` that of a signed result,
-- `Decoded` those of a decoded page, `Offsets` those of where the pages of an image stand, `Lent` those of a page that is lent,
-- `Capacities` those of capacities.
pub mod Signed
pub mod Pieces
pub mod Concat
pub mod Puts
pub mod Entries
pub mod Indices
pub mod Shifts
pub mod Trees
pub mod Frees
pub mod Heads
pub mod Decoded
pub mod Fits
pub mod Offsets
pub mod Lent
pub mod Capacities
