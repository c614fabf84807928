-- The laws of `specs/` and of an instant's answer, for the proofs of this crate and of the crates that link it.
pub mod Laws
