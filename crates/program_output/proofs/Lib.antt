-- `Each` has lists of runs, `Fits` that every run fits its 16 bytes, `Back` that it is read back from them, `Few` that 64 pages have
-- 1,416 runs at most, `Output` what the program writes, and `Pieces` the same where its text is read in pieces.
pub mod Each
pub mod Fits
pub mod Back
pub mod Few
pub mod Output
pub mod Pieces
