-- `Under` counts the pages of a level below a page of a fit tree, and the runs that a walk finds there. `Levels` has that numbers of pages,
-- of which each level has room for the one below, are none below the tight ones; `Fewest` says it of sound images.
pub mod Under
pub mod Levels
pub mod Fewest
