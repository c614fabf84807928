-- `From` goes from a sound image to the tree and the supply that it shows, `To` back. `Steps` has that each step keeps the structure, and
-- `Change` that a change which no row turns back leaves the invariant.
pub mod From
pub mod To
pub mod Steps
pub mod Change
