-- `Laws` has what step C's definitions come to in each case, `Sent` the loop in which a page's entries send the effect below, `Taken` the
-- one in which they take it.
pub mod Laws
pub mod Sent
pub mod Taken
