-- `Pages` has how many pages and entries, `Levels` the entries of a level in its pages and the levels one above another, `Cases` the
-- computed cases.
pub mod Pages
pub mod Levels
pub mod Cases
