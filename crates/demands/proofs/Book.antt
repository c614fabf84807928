-- The plain book of document 01 and the aggregate of source document 000, over lists of changes: no image is involved.
pub mod Spans
pub mod Totals
pub mod Struck
pub mod Live
pub mod Shares
pub mod Books
pub mod Aggregates
pub mod Runs
pub mod Listings
pub mod Accepted
