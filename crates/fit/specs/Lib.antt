pub mod Contexts
pub mod Limits
pub mod Paths
