pub mod Encoding
pub mod Preconditions
