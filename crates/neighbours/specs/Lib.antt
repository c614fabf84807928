pub mod Edges
pub mod Standing
