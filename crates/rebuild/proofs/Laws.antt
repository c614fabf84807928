-- `Sizes`: how many pages and levels. `Patches`: what stands in front of a write. `Slots`: a page that is written slot by slot. `Pieces`:
-- pieces of one size, written one after the other, forwards and backwards. `Pages`: the pages of a level as such pieces.
pub mod Sizes
pub mod Patches
pub mod Slots
pub mod Pieces
pub mod Pages
pub mod Leaves
pub mod Uppers
pub mod Coded
pub mod Sized
pub mod Tree
pub mod Runs
pub mod Images
pub mod Targets
