-- `Rows` has what a list of rows says of the status, `Judged` what the rows ahead of every call turn back. `Reflects` has tests and the
-- propositions that they decide, `Cases` that the first row whose test passes is the first case that holds, and `Tables` that every call
-- returns the status that the tables have for it. `Scratch` has which bytes of its scratch a call clears, and that a call answers as it did
-- when it borrowed more, `Changes` that the effect of an accepted booking is one of its kind, `Numbers` that no refusal
-- has the number of an accepted call. `CallCases` and
-- `RebuildCases` have the cases that compute, over the definitions that `Opened` opens.
pub mod Rows
pub mod Judged
pub mod Reflects
pub mod Cases
pub mod Tables
pub mod Scratch
pub mod Changes
pub mod Numbers
pub mod Opened
pub mod CallCases
pub mod RebuildCases
