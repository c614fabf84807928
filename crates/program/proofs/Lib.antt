-- The laws of the program, and that byte by byte it is document 01's.
pub mod Laws
pub mod Whole
