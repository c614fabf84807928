-- `Parts` has the laws of part and patch, and `Lent` those of a part of a slice that is lent. `Digits` has the laws of a number and its
-- bytes, `Offsets` those of a number at an offset, and `Library` says that the library's bytes of a number are these. `Tests` has the
-- laws of the tests over a list.
pub mod Parts
pub mod Lent
pub mod Digits
pub mod Offsets
pub mod Library
pub mod Tests
