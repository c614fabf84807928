-- `Lines` has the ways out of a line, `Pieces` the laws of a text that comes piece by piece, `Runs` those of printed runs,
-- `Ending` those of the full listing.
pub mod Lines
pub mod Pieces
pub mod Runs
pub mod Ending
