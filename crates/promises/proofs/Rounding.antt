-- The averages that the functions for C tell are rounded as document 02, (ix), says. Assumes nothing.
use Prim.Native.Nat.{ℕ, ◌≤◌, ◌<◌}
use mathlib.Core.Path.{◌≡◌, refl, sym, ap, ◌∙◌, subst⁻¹}
use mathlib.Core.Logic.{◌≢◌}
use mathlib.Core.Bool.{Bool, true, false}
use mathlib.Core.List.{List}
use lib.Dec.{ltb}
use lib.IntN.{ℤ, pos, nat_abs, ◌*ℤ◌}
use borrow.Author.Tests.{ltb-true, ltb-false, lt-leb}
use Rattle.rule.specs.declared.Pair.{Pair}
use Rattle.rule.specs.declared.Average.TheVariants.{Hundredths}
use Rattle.rule.specs.Pairs.{pair}
use Rattle.rule.specs.Averages.{most_sum, hundredths, average, TheNearest}
use Rattle.rule.proofs.Nearest.{hundredths_nearest}
use Rattle.rule.proofs.Rounding.{no_average, average_beyond, average_shown}
use Rattle.book.specs.Aggregate.{aggregate}
use Rattle.claims.specs.Demands.{TheDemands}
use Rattle.demands.proofs.Demands.{the_demands}
use Rattle.fields.specs.Numbers.{u32_at}
use Rattle.calls.specs.Index.{index_instant, index_average}
use Rattle.luwhenoka.specs.declared.InstantAnswer.{InstantAnswer}
use Rattle.luwhenoka.specs.declared.AverageAnswer.{AverageAnswer}
use Rattle.luwhenoka.specs.Answers.{instant_answer, average_answer, averaged_answer, pair_of}
use Rattle.luwhenoka.proofs.Laws.Averages.{average_0}
use Rattle.promises.specs.Refusing.{Refusing}
use Rattle.promises.specs.Rounding.{Rounded, RoundingPromised}
use Rattle.promises.proofs.Refusing.{refusing}

abbrev met : TheDemands
met = the_demands

abbrev refused : Refusing
refused = refusing

module _ (p : Pair) (count : ℕ) (e : p.count ≡ pos count) (some : 0 < count) (r : AverageAnswer)
    (q : r ≡ average_answer 0 (average 1 p)) where
  counts : no_average 1 p ≡ false
  counts = rw e (lt-leb count 0 some)

  -- an answer other than 2 tells that fit pages can show the sum
  within : r.answer ≢ 2 → nat_abs p.sum ≤ most_sum
  unfolding average_answer
  within d = go (ltb most_sum (nat_abs p.sum)) refl
    where
      go : (x : Bool) → ltb most_sum (nat_abs p.sum) ≡ x → nat_abs p.sum ≤ most_sum
      go true h =
          let beyond = average_beyond 1 p counts (ltb-true most_sum _ h) in
          absurd (d (ap (λ (a : AverageAnswer). a.answer) (q ∙ ap (average_answer 0) (sym beyond))))
      go false h = ltb-false most_sum _ h

  rounded : nat_abs p.sum ≤ most_sum → Rounded p.sum count r
  unfolding average_answer
  rounded h =
      let shown : average 1 p ≡ Hundredths (hundredths p.sum count) =
      sym (average_shown 1 p counts h) ∙ ap (λ z. Hundredths (hundredths p.sum (nat_abs z))) e in
      let told : r ≡ average_answer 0 (Hundredths (hundredths p.sum count)) = q ∙ ap (average_answer 0) shown in
      record {
        status = ap (λ (a : AverageAnswer). a.status) told;
        answer = ap (λ (a : AverageAnswer). a.answer) told;
        hundredths =
            subst⁻¹ (λ (k : ℤ). TheNearest (pos 100 *ℤ p.sum) count k) (ap (λ (a : AverageAnswer). a.hundredths) told)
            (hundredths_nearest p.sum count some);
      }

-- the average where an instant call was answered, by that call's numbers
average_answered : {a : InstantAnswer} (t : ℕ) (img : List ℕ) → a ≡ instant_answer (index_instant t img) → a.status ≡ 0
    → average_answer 0 (average (u32_at img 24) (pair_of a)) ≡ averaged_answer (index_average t img)
unfolding instant_answer averaged_answer
average_answered t img e accepted =
    let z : (index_instant t img).status ≡ 0 = sym (ap (λ (a : InstantAnswer). a.status) e) ∙ accepted in
    ap (λ (a : InstantAnswer). average_answer 0 (average (u32_at img 24) (pair_of a))) e
    ∙ ap averaged_answer (average_0 t img refl z)

pub rounding_promised : RoundingPromised
unfolding averaged_answer
rounding_promised =
    record {
      of_pair = λ sum count r q some h. rounded (pair sum (pos count)) count refl some r q h;
      at_instant = λ t img a count r answers averages accepted kind e some.
          let q = averages ∙ sym (rw kind at (average_answered t img answers accepted)) in
          rounded (pair_of a) count e some r q (within (pair_of a) count e some r q (refused.of_average t img r averages).1);
      of_bookings = λ window field img cs T t count r averages h e some.
          let q = averages ∙ ap averaged_answer ((met.demand_2 T).averages t h) in
          rounded (aggregate 1 window cs t) count e some r q
          (within (aggregate 1 window cs t) count e some r q (refused.of_average t img r averages).1);
    }
