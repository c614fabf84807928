-- `Choices` has what holds of a choice by a test. `Listed`, `Concat` and `Edits` have the laws of lists by index, one behind another and
-- with others in the place of one, `All` what holds of each element. `Totals` adds up below a number, and `Times` counts a number in a
-- list. `Cycles` is about no list: it has what functions that call each other take for granted of the measure that falls.
pub mod Choices
pub mod Cycles
pub mod Listed
pub mod Concat
pub mod Edits
pub mod All
pub mod Totals
pub mod Times
