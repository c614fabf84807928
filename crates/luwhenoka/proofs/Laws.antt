-- `Judged` has what the rows ahead of a call come to; the others have a law for each way out of each call: which of the rows turns it
-- back, and what it leaves.
pub mod Judged
pub mod Formats
pub mod Instants
pub mod Averages
pub mod Listings
pub mod Audits
pub mod Rebuilds
