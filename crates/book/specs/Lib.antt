pub mod Book
pub mod Aggregate
pub mod BookCases
pub mod AggregateCases
