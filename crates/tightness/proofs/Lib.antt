-- `Pages` goes from the entries of a level to those of the level above, `Levels` from the leaves up to the root, with all that is kept on
-- the way. `Structure` has that a tight image has the invariant, and `Sound` the theorems on its bytes. `Runs` has the runs below each level
-- and that no inner entry has a pair, `Places` which page stands where, and `Laid` how the bytes are
-- laid out.
pub mod Pages
pub mod Levels
pub mod Structure
pub mod Sound
pub mod Runs
pub mod Places
pub mod Laid
