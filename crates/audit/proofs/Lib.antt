-- `Bytes` has the bytes of the image's pages, `NeverUsed` those never used as one run, `Chain` the chain as its loop meets it, `Indices` a
-- chain's test of each index, `Walks` what the walk down the tree has counted, and `Verdicts` what follows at each way out of the audit.
pub mod Bytes
pub mod NeverUsed
pub mod Chain
pub mod Indices
pub mod Walks
pub mod Verdicts
