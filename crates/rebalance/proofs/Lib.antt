-- `Puts` has pages written one after another, `Lists` lists whose elements go over one at a time.
-- `Pushing` has a pair combined into the entries of a page, `Sharing` two pages that share their entries anew, `Outcomes` what
-- redistributing and merging leave, `Rebalancing` a page that is rebalanced with its sibling.
pub mod Puts
pub mod Lists
pub mod Pushing
pub mod Sharing
pub mod Outcomes
pub mod Rebalancing
