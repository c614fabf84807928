pub mod Levels
pub mod Rebuild
