-- `Booked` has what an accepted change leaves of an image. `Invariant` has the one invariant of an image and its book, which an accepted
-- change keeps, and `Fresh` that a format begins it. `Leaves` has runs as the leaf entries of a tree, and `Rebuilt` that a rebuild hands the
-- invariant on. `Agree` has what a call returns where it holds, `Accepted` what an accepted change leaves of every image, `Rebuilds` what an
-- accepted rebuild leaves, `Traces` that the invariant holds after every list of calls, and `Demands` the demands from it.
pub mod Book
pub mod Booked
pub mod Invariant
pub mod Fresh
pub mod Leaves
pub mod Rebuilt
pub mod Agree
pub mod Accepted
pub mod Rebuilds
pub mod Traces
pub mod Demands
pub mod Neighbours
