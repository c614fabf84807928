pub mod Edges
pub mod Healable
