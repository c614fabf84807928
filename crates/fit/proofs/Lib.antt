-- The laws that the proofs of this crate and of the crates above cite: `Tests` of checks in parts,
-- `Laws` of fit pages, fit heads and the way down.
pub mod Tests
pub mod Laws
