-- `Finds` has the laws of the entry that an instant has in a page, `Levels` those of a page's answer, `Bounds` those of pairs combined
-- along a way, `Looks` those of the definition's way from root to leaf and back, `Walks` those of a lookup on this way.
pub mod Finds
pub mod Levels
pub mod Bounds
pub mod Looks
pub mod Walks
