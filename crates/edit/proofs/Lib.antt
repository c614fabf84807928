pub mod Slots
pub mod Moved
pub mod Edits
