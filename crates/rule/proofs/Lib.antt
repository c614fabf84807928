-- The laws that the crates above cite, by what they speak of.
pub mod Tests
pub mod Signed
pub mod Order
pub mod Laws
pub mod Nearest
pub mod Rounding
pub mod Window
pub mod Wrapped
