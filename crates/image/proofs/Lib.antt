-- `Sizes` has what a length in range says, `Capacity` which capacity an image names, `Cells` what a page's bytes are as a cell and which
-- cells are kept, `Rows` pieces of one size one behind another, `Written` the bytes of an image whose pages are kept, and `Puts` those of an
-- image in which one page or the head changed. `Found` has that an instant's entry is one of its page's, `Trails` what an instant and a
-- listing find, by the pages that they look at, `Leaf` that an instant ends at an entry of a leaf, `Descent` that pairs combined on the way
-- back and on the way down are the same. `Runs` has how many runs walks in turn find, what joining makes of them and which neighbours
-- differ. `Cases` has the computed cases: the looks of a walk, what an instant tells, and runs and leaf entries that differ from their
-- neighbours.
pub mod Sizes
pub mod Capacity
pub mod Cells
pub mod Rows
pub mod Written
pub mod Puts
pub mod Found
pub mod Trails
pub mod Leaf
pub mod Descent
pub mod Runs
pub mod Tiles
pub mod Cases
