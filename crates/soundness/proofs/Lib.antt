-- `Levels` has what the level fields of free and of never used pages say. `Tree` and `Chain` have that no page stands twice in a fit tree
-- or in a chain that ends. `Sound` has what soundness says by name, `Used` what follows for the pages below the high mark, and `Counting`
-- that soundness by counting is soundness. `Trails` has how long a walk can be, `Runs` how many runs it finds, `Entries` that over
-- all instants there is one for each leaf entry, and `Looks` that an audit of a sound image looks at each page once.
pub mod Levels
pub mod Tree
pub mod Chain
pub mod Sound
pub mod Used
pub mod Counting
pub mod Trails
pub mod Runs
pub mod Entries
pub mod Looks
