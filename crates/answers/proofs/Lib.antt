-- `Rows` has what the rows of refusals decide, `Tiles` runs that tile a span. `Look` has what a lookup says of the pages on its path, `Walk`
-- that a walk's runs tile its span with what lookups find, `Calls` what the calls make of both. `Scratch` has what a call leaves of its
-- scratch, `Demand` demand 1, `Agree` that instant and listing agree on every image, `Sound` that a sound image answers everywhere. `Own`
-- has that these are the calls by the image's own capacity. `Few` has how many runs a listing has, `Short` how many pages it looks at.
-- `Until` has until when an answer holds, `Full` what the full listing of a sound image is.
pub mod Rows
pub mod Tiles
pub mod Look
pub mod Until
pub mod Walk
pub mod Calls
pub mod Scratch
pub mod Demand
pub mod Agree
pub mod Sound
pub mod Own
pub mod Few
pub mod Short
pub mod Full
