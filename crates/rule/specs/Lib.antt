pub mod Time
pub mod Pairs
pub mod Averages
pub mod Bounds
