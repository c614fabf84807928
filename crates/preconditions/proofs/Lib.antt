-- `Search` has pages that can be searched, `Spares` pages that can be taken, `Pairs` pairs that can be combined, `Paths` what is known of
-- each page on the path to an instant, `Totals` that the total there can be read. `Joins` has where it is told whether an edge joins,
-- `Edges` that all that tells it can be read, `Shrinks` how much a heal takes from a page. `Cuts`, `Combines` and `Heals` have that an image
-- with the structure is ready for steps A and B, C, D and E, and `Changes` that an image that no row turns back can be changed.
pub mod Search
pub mod Spares
pub mod Pairs
pub mod Paths
pub mod Totals
pub mod Joins
pub mod Edges
pub mod Shrinks
pub mod Cuts
pub mod Combines
pub mod Heals
pub mod Changes
