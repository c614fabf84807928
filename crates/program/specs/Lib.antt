pub mod State
pub mod Listed
pub mod Simulation
