-- `Parts` has the laws of the parts of a check, `Pages` what a fit page is, fact by fact, `Spans` that the spans of its entries follow each
-- other, `Heads` what a fit head is, `Paths` that a walk down from one stays within bounds, `Limits` that limits allow
-- what may stand in a page, `Clear` that a quick test of them is enough.
pub mod Parts
pub mod Pages
pub mod Spans
pub mod Heads
pub mod Paths
pub mod Limits
pub mod Clear
