pub mod Marks
pub mod Cases
pub mod Looks
pub mod Capacities
