-- The functions for C refuse by the numbers of document 01's tables: they return what the definitions return. Assumes nothing.
use mathlib.Core.Path.{ap, subst⁻¹}
use Rattle.image.specs.Images.{half_of}
use Rattle.calls.specs.Calls.{Formatted, Booked, Listed, Audited, Rebuilt}
use Rattle.calls.specs.Index.{index_instant}
use Rattle.calls.specs.Tables.{Exactly, FewerBits, format_cases, judge_cases}
use Rattle.calls.specs.Tables.{book_cases, instant_cases, listing_cases, audit_cases, rebuild_cases, PagesTold, TurnedBack}
use Rattle.calls.proofs.Tables.{turned_back}
use Rattle.luwhenoka.specs.Answers.{listing_answer}
use Rattle.promises.specs.Tables.{ByStatus}
use Rattle.promises.proofs.Answers.{answer_status, answer_pages, average_status}

abbrev rows : TurnedBack
rows = turned_back

pub by_status : ByStatus
unfolding listing_answer
by_status =
    record {
      of_format =
          λ kind window k img r after p.
          subst⁻¹ (Exactly (format_cases kind window k img)) (ap (λ (f : Formatted). f.status) p) (rows.of_format kind window k img);
      of_booking =
          λ side v s e img scratch r after left p.
          subst⁻¹ (Exactly (judge_cases img (book_cases (half_of img) FewerBits side v s e img scratch)))
          (ap (λ (b : Booked). b.status) p) (rows.of_booking side v s e img scratch);
      of_instant =
          λ t img r p. (
            subst⁻¹ (Exactly (judge_cases img (instant_cases (half_of img) t img))) (answer_status t img p) (rows.of_instant t img),
            subst⁻¹ (λ n. PagesTold (half_of img) t img n r.pages) (answer_status t img p)
                (subst⁻¹ (PagesTold (half_of img) t img (index_instant t img).status) (answer_pages t img p) (rows.of_pages t img)),
          );
      of_average =
          λ t img r p.
          subst⁻¹ (Exactly (judge_cases img (instant_cases (half_of img) t img))) (average_status t img p)
          (rows.of_average t img);
      of_listing =
          λ a b img out r after p.
          subst⁻¹ (Exactly (judge_cases img (listing_cases (half_of img) a b img out))) (ap (λ (l : Listed). l.status) p)
          (rows.of_listing a b img out);
      of_audit =
          λ img scratch r left p.
          subst⁻¹ (Exactly (judge_cases img (audit_cases (half_of img) FewerBits img scratch))) (ap (λ (a : Audited). a.status) p)
          (rows.of_audit img scratch);
      of_rebuild =
          λ source target scratch r after left p.
          subst⁻¹ (Exactly (judge_cases source (rebuild_cases (half_of source) FewerBits source target scratch)))
          (ap (λ (b : Rebuilt). b.status) p) (rows.of_rebuild source target scratch);
    }
