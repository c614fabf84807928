pub mod Tight
pub mod Counts
pub mod Layout
pub mod Cases
