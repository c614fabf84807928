-- What a change neither makes nor loses. `Supply` has pages taken one after the other, `Cut` and `Taken` those that a cut takes, `Given`
-- those that a heal gives back, `Height` how high a tree can grow; `Bounds` has the pairs on every path, and `Measures` the bounds of each
-- kind.
pub mod Supply
pub mod Cut
pub mod Taken
pub mod Given
pub mod Height
pub mod Bounds
pub mod Measures
