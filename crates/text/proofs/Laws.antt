-- `Cuts` has the laws of a list cut at a byte, `Digits` those of a number's digits, `Lines` those of a line's fields, `Long` the most bytes
-- that a booking has, `Texts` the laws of a text's lines, and `Feeds` those of a line that comes byte by byte.
pub mod Cuts
pub mod Digits
pub mod Lines
pub mod Long
pub mod Texts
pub mod Feeds
