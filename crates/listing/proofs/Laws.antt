-- `Turns`: one walk after another. `Ranges`: a loop over those that give something. `Leaves`: one leaf entry. `Pages`: what the walk from
-- a page on is. `Met`: which entries overlap the span. `Stands`: nothing is out of bounds on the path. `Loops`: what the code is told of
-- a page. `Bottom`: the leaves below a page. `Roots`: the walk from the root, and the two passes. `Counts`:
-- what the first one tells.
pub mod Turns
pub mod Ranges
pub mod Leaves
pub mod Pages
pub mod Met
pub mod Stands
pub mod Loops
pub mod Bottom
pub mod Roots
pub mod Counts
