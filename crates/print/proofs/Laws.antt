-- `Puts` has the laws of printing one thing behind another, `Numbers` those of a number's text.
pub mod Puts
pub mod Numbers
