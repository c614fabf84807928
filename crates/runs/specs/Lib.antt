pub mod Open
pub mod Listed
