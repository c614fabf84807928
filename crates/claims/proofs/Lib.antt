-- `Steps` has that every call is a step of a list, `ListCases` the cases that compute.
pub mod Steps
pub mod ListCases
