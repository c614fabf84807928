-- What a rebuild leaves, of what the functions for C promise. Assumes nothing.
use Prim.Native.Nat.{ℕ}
use mathlib.Core.Path.{sym, ap, ◌∙◌}
use mathlib.Core.List.{List}
use Rattle.calls.specs.Calls.{Listed}
use Rattle.claims.specs.Trace.{rebuilt}
use Rattle.claims.specs.Rebuild.{AnswersKept, RebuiltFrom}
use Rattle.demands.proofs.Rebuilds.{every_rebuild}
use Rattle.luwhenoka.specs.Answers.{averaged_answer, listing_answer}
use Rattle.luwhenoka.specs.Promises.{Rebuilds}
use Rattle.promises.specs.Rebuilt.{GoesOn, RebuildPromised}
use Rattle.promises.proofs.Answers.{answer_status, answer_pair}

module _ (source target scratch img left : List ℕ) (p : Rebuilds source target scratch 0 img left) where
  pub left_so : RebuiltFrom source target img
  left_so = every_rebuild.of_accepted source target scratch img left p

  abbrev k : AnswersKept source img
  k = left_so.answers_kept

  pub goes_on : GoesOn source img
  unfolding GoesOn
  goes_on kind window field cs T = rebuilt target scratch T p

pub rebuild_promised : RebuildPromised
unfolding listing_answer averaged_answer
rebuild_promised =
    record {
      leaves = λ source target scratch img left p. (left_so source target scratch img left p, goes_on source target scratch img left p);
      same_listings =
          λ source target scratch img left p a b out r q after after' told told'.
          let same = told' ∙ (k source target scratch img left p).listings a b out ∙ sym told in (
            λ i. record { status = (same i).status; runs = (same i).runs },
            ap (λ (l : Listed). l.output) same,
          );
      same_instants =
          λ source target scratch img left p t r q told told'.
          let same = (k source target scratch img left p).instants t in (
            answer_status t img told' ∙ same.0 ∙ sym (answer_status t source told),
            answer_pair t img told' ∙ same.1 ∙ sym (answer_pair t source told),
          );
      same_averages =
          λ source target scratch img left p t r q told told'.
          told' ∙ ap averaged_answer ((k source target scratch img left p).averages t) ∙ sym told;
    }
