-- From a sound image to the tree and the supply that it shows. `Listed` has lists of entries by their indices, `Load` the tree of an image.
-- `Cells`, `Shape`, `Bounds`, `Chain` and `Once` have what the tests of pages say of it, `Invariant` the theorem, `Canonical` that the
-- image's bytes are those of its cells, and `Look` that an instant's answer is the tree's pair.
pub mod Listed
pub mod Load
pub mod Cells
pub mod Shape
pub mod Bounds
pub mod Chain
pub mod Once
pub mod Runs
pub mod Invariant
pub mod Canonical
pub mod Look
pub mod Starts
