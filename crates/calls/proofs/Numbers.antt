-- The number of a refusal is none of an accepted call, and `?` hands on a refusal as it is. Assumes nothing.
use Rattle.std.specs.Prelude.{◌≡◌, ◌≢◌, Result, Ok, Err, IsErr, IsErrAnd}
use Rattle.std.proofs.Common.{ap, arith}
use Rattle.calls.specs.declared.refusals.Refusal.{Refusal}
use Rattle.calls.specs.declared.refusals.Refusal.TheVariants.{SpanEmpty, InstantEnd, ValueRange, FormatRange, OutputShort, ImageLength, ScratchShort, Unsound, WithdrawalKind, ChangesFull, PagesLacking}
use Rattle.calls.specs.Numbers.{number_of, status_of}

pub refused_not_accepted : (r : Refusal) → number_of r ≢ 0
refused_not_accepted SpanEmpty e = absurd (omega arith)
refused_not_accepted InstantEnd e = absurd (omega arith)
refused_not_accepted ValueRange e = absurd (omega arith)
refused_not_accepted FormatRange e = absurd (omega arith)
refused_not_accepted OutputShort e = absurd (omega arith)
refused_not_accepted ImageLength e = absurd (omega arith)
refused_not_accepted ScratchShort e = absurd (omega arith)
refused_not_accepted Unsound e = absurd (omega arith)
refused_not_accepted WithdrawalKind e = absurd (omega arith)
refused_not_accepted ChangesFull e = absurd (omega arith)
refused_not_accepted PagesLacking e = absurd (omega arith)

-- what a `?` answers on its way out
pub handed_on : {A : Type 0} (r : Result A Refusal) (refusal : Refusal) → IsErr r × IsErrAnd r (λ e. e ≡ refusal)
    → status_of r ≡ number_of refusal
handed_on (Ok x) refusal h = absurd (h.1)
handed_on (Err e) refusal h = ap number_of h.1
