pub mod Until
pub mod Walks
pub mod Accepted
pub mod Rebuild
pub mod Trace
pub mod Demands
pub mod Neighbours
pub mod ListCases
