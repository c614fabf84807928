-- `Found` has that what the code finds is what a walk over all instants finds, and `Laws` what holds where the code stands.
pub mod Found
pub mod Laws
pub mod Verdicts
