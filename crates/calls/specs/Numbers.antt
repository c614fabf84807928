-- "For an answer that is an enum, a definition gives this paper's number and values for each of its cases. The promises use this
-- definition." Document 01's number of each refusal, and of a call's answer. Assumes nothing.
use Rattle.std.specs.Prelude.{ℕ, Result, Ok, Err}
use Rattle.calls.specs.declared.refusals.Refusal.{Refusal}
use Rattle.calls.specs.declared.refusals.Refusal.TheVariants.{SpanEmpty, InstantEnd, ValueRange, FormatRange, OutputShort, ImageLength, ScratchShort, Unsound, WithdrawalKind, ChangesFull, PagesLacking}

abbrev pub number_of : Refusal → ℕ
number_of SpanEmpty = 11
number_of InstantEnd = 12
number_of ValueRange = 13
number_of FormatRange = 14
number_of OutputShort = 15
number_of ImageLength = 16
number_of ScratchShort = 17
number_of Unsound = 21
number_of WithdrawalKind = 22
number_of ChangesFull = 23
number_of PagesLacking = 24

-- "An accepted call returns 0": the status, whatever else an accepted call answers
abbrev pub status_of : {A : Type 0} → Result A Refusal → ℕ
status_of (Ok _) = 0
status_of (Err refusal) = number_of refusal
