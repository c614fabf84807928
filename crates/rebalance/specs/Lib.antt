pub mod Siblings
