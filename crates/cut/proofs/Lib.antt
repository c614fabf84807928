-- `Splitting` has what a page that gained an entry is written as, `Cutting` what a page on the path to an instant becomes, and
-- `Roots` what the root becomes.
pub mod Splitting
pub mod Cutting
pub mod Roots
