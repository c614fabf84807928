pub mod Walks
pub mod Cursors
pub mod Met
