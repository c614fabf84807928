-- From a tree and a supply to a sound image. `Contexts` has spans by the indices of their entries. `Weights` and `Ready` have what is asked
-- of an entry and of all below it, and `Canonical` that a tree's pages are read back. `Known` has what the structure says of single pages,
-- `Fit` that the tree's pages pass their tests, `Again` that the image shows the same state, `Height` that no tree is higher than 10,
-- whatever the capacity of its pages, and `Sound` the theorems.
pub mod Contexts
pub mod Weights
pub mod Ready
pub mod Canonical
pub mod Known
pub mod Fit
pub mod Again
pub mod Height
pub mod Sound
