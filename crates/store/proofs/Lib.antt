-- `Encoding` has what bytes that hold an image are, and what they hold once a page or the head is written, `Reading` a tree page's entries,
-- `Editing` a tree page that is edited in place. `Widths` has that an entry and a decoded page can be written, `Supplying` what a head that
-- was read says of the image, and what taking, giving back and counting leave, `Chains` steps one after another.
pub mod Encoding
pub mod Reading
pub mod Editing
pub mod Widths
pub mod Supplying
pub mod Chains
