-- `BookCases` and `AggregateCases` have the cases that compute.
pub mod BookCases
pub mod AggregateCases
