-- `Steps` has the laws of one leaf entry, `Entries` those of a list of them: what is counted and written is the joined runs.
pub mod Steps
pub mod Entries
