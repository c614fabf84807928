pub mod Entries
pub mod Layout
pub mod Decoded
pub mod Widths
pub mod Fit
pub mod Slots
