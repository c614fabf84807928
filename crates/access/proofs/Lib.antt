-- `Laws` has what a fit length and a fit head give, `FreshImage` the bytes of a fresh image, piece by piece.
pub mod Laws
pub mod FreshImage
