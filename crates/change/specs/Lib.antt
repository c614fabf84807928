pub mod Changeable
