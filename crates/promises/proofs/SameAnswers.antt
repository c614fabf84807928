-- The functions for C answer as they did when they borrowed more: what is proved of the calls holds of them. Assumes nothing.
use mathlib.Core.Path.{ap, ◌∙◌}
use Rattle.calls.specs.Calls.{Booked, Audited, Rebuilt}
use Rattle.calls.specs.Scratch.{BitPerPage}
use Rattle.calls.proofs.Scratch.{bit_per_page}
use Rattle.promises.specs.SameAnswers.{SameAnswers}

abbrev bits : BitPerPage
bits = bit_per_page

pub same_answers : SameAnswers
same_answers =
    record {
      same_booking =
          λ side v s e img scratch r after left p other n m.
          let number = ap (λ (b : Booked). b.status) p in
          let same = bits.same_booking side v s e img scratch other (λ z. n (number ∙ z)) m in
          (number ∙ same.0, ap (λ (b : Booked). b.image) p ∙ same.1);
      same_audit =
          λ img scratch r left p other n m.
          let number = ap (λ (a : Audited). a.status) p in
          number ∙ bits.same_audit img scratch other (λ z. n (number ∙ z)) m;
      same_rebuild =
          λ source target scratch r after left p other n m.
          let number = ap (λ (b : Rebuilt). b.status) p in
          let same = bits.same_rebuild source target scratch other (λ z. n (number ∙ z)) m in
          (number ∙ same.0, ap (λ (b : Rebuilt). b.target) p ∙ same.1);
      same_scratch_booking =
          λ side v s e img scratch r after left p long.
          let same = bits.same_scratch_booking side v s e img scratch long in
          (ap (λ (b : Booked). b.status) p ∙ same.0, ap (λ (b : Booked). b.image) p ∙ same.1);
      same_scratch_audit = λ img scratch r left p long. ap (λ (a : Audited). a.status) p ∙ bits.same_scratch_audit img scratch long;
      same_scratch_rebuild =
          λ source target scratch r after left p long.
          let same = bits.same_scratch_rebuild source target scratch long in
          (ap (λ (b : Rebuilt). b.status) p ∙ same.0, ap (λ (b : Rebuilt). b.target) p ∙ same.1);
    }
