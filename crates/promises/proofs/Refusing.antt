-- A refused call leaves what it was lent: of what the functions for C promise. Assumes nothing.
use Prim.Native.Nat.{ℕ}
use mathlib.Core.Path.{◌≡◌, refl, sym, ap, ◌∙◌, subst⁻¹}
use mathlib.Core.Logic.{◌≢◌}
use mathlib.Core.List.{List}
use native.Mathlib.Omega.{arith}
use lib.IntN.{pos}
use Rattle.rule.specs.declared.Pair.{Pair}
use Rattle.rule.specs.declared.Average.{Average}
use Rattle.rule.specs.declared.Average.TheVariants.{Hundredths, Nothing, Beyond}
use Rattle.calls.specs.Changes.{entering}
use Rattle.calls.specs.Calls.{Formatted, Booked, Listed, Audited, Rebuilt}
use Rattle.calls.specs.Index.{index_average}
use Rattle.calls.specs.Scratch.{LeftAt, LeftByRebuild}
use Rattle.claims.specs.Demands.{Demand1}
use Rattle.answers.proofs.Demand.{demand_1}
use Rattle.luwhenoka.specs.declared.AverageAnswer.{AverageAnswer}
use Rattle.luwhenoka.specs.Answers.{average_answer, averaged_answer, listing_answer}
use Rattle.luwhenoka.specs.Promises.{Averages}
use Rattle.promises.specs.Refusing.{Refusing}
use Rattle.promises.proofs.Answers.{answer_status, answer_pair, answer_start, answer_end, answer_pages, average_status}

abbrev d1 : Demand1
d1 = demand_1

never_beyond : (n : ℕ) (a : Average) → a ≢ Beyond → (average_answer n a).answer ≢ 2
unfolding average_answer
never_beyond n Nothing d e = absurd (omega arith)
never_beyond n (Hundredths x) d e = absurd (omega arith)
never_beyond n Beyond d e = d refl

averaged : (t : ℕ) (img : List ℕ) (r : AverageAnswer) → Averages t img r
    → (r.status ≢ 0 → (r.answer ≡ 0) × (r.hundredths ≡ pos 0)) × (r.answer ≢ 2)
unfolding averaged_answer average_answer
averaged t img r p = (refused, beyond)
  where
    number : r.status ≡ (index_average t img).status
    number = average_status t img p

    refused : r.status ≢ 0 → (r.answer ≡ 0) × (r.hundredths ≡ pos 0)
    refused d =
        let n : (index_average t img).average ≡ Nothing = d1.of_average t img (λ z. d (number ∙ z)) in
        let q : r ≡ average_answer (index_average t img).status Nothing = p ∙ ap (average_answer (index_average t img).status) n in
        (ap (λ (a : AverageAnswer). a.answer) q, ap (λ (a : AverageAnswer). a.hundredths) q)

    beyond : r.answer ≢ 2
    beyond e =
        never_beyond (index_average t img).status (index_average t img).average (d1.of_beyond t img)
        (sym (ap (λ (a : AverageAnswer). a.answer) p) ∙ e)

pub refusing : Refusing
unfolding listing_answer
refusing =
    record {
      of_format =
          λ kind window k img r after p d.
          ap (λ (f : Formatted). f.image) p ∙ d1.of_format kind window k img (λ z. d (ap (λ (f : Formatted). f.status) p ∙ z));
      of_booking =
          λ side v s e img scratch r after left p.
          let n = ap (λ (b : Booked). b.status) p in (
            λ d. ap (λ (b : Booked). b.image) p ∙ d1.of_booking side v s e img scratch (λ z. d (n ∙ z)),
            subst⁻¹ (λ (b : Booked). LeftAt img scratch b.status b.scratch) p (d1.of_scratch side v s e img scratch).0,
          );
      of_instant =
          λ t img r p.
          let n = answer_status t img p in
          let q = answer_pair t img p in
          let g = d1.of_pages t img in (
            λ d.
                let k = d1.of_instant t img (λ y. d (n ∙ y)) in
                let z = q ∙ k.0 in (
                  ap (λ (a : Pair). a.sum) z,
                  ap (λ (a : Pair). a.count) z,
                  answer_start t img p ∙ k.1,
                  answer_end t img p ∙ k.2,
                ),
            λ z. answer_pages t img p ∙ g.0 (sym n ∙ z),
            λ d f. answer_pages t img p ∙ g.1 (λ y. d (n ∙ y)) (λ y. f (n ∙ y)),
          );
      of_average = averaged;
      of_listing =
          λ a b img out r after p d.
          let k = d1.of_listing a b img out (λ z. d (ap (λ (l : Listed). l.status) p ∙ z)) in
          (ap (λ (l : Listed). l.output) p ∙ k.0, ap (λ (l : Listed). l.runs) p ∙ k.1);
      of_audit =
          λ img scratch r left p.
          subst⁻¹ (λ (a : Audited). LeftAt img scratch a.status a.scratch) p
          (d1.of_scratch entering (pos 0) 0 0 img scratch).1;
      of_rebuild =
          λ source target scratch r after left p. (
            λ d.
                ap (λ (b : Rebuilt). b.target) p
                ∙ d1.of_rebuild source target scratch (λ z. d (ap (λ (b : Rebuilt). b.status) p ∙ z)),
            subst⁻¹ (LeftByRebuild source scratch) (ap (λ (b : Rebuilt). b.scratch) p)
                (d1.of_rebuild_scratch source target scratch),
          );
    }
