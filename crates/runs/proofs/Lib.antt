-- `Laws` has the laws of `specs/`, for the proofs of this crate and of the crates that link it.
pub mod Laws
