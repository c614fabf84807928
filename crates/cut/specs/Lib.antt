pub mod Answers
pub mod Cuttable
