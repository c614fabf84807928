-- `Leaves` has the entry that goes, `Sides` the totals on both sides of an edge and the way to where they part, `Carrying` a start that is
-- carried up, `Paths` the way down and back up, `Roots` a root that collapses.
pub mod Leaves
pub mod Sides
pub mod Carrying
pub mod Paths
pub mod Roots
