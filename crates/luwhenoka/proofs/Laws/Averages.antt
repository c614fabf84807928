-- The ways out of an average at an instant: those of the instant call that it makes. Assumes nothing.
use Prim.Native.Nat.{ℕ, ◌≤◌}
use mathlib.Core.Path.{◌≡◌, sym, ap, ◌∙◌}
use mathlib.Core.Logic.{◌≢◌}
use mathlib.Core.Bool.{false, cond}
use mathlib.Core.List.{List}
use native.Mathlib.Omega.{arith}
use lib.Dec.{eqb}
use lib.ListN.{length}
use borrow.Author.Tests.{ne_eqb, ltb-false}
use Rattle.rule.specs.declared.Average.TheVariants.{Nothing}
use Rattle.rule.specs.Averages.{average}
use Rattle.fields.specs.Numbers.{u32_at}
use Rattle.image.specs.Images.{half_of}
use Rattle.image.proofs.Capacity.{own_half, kind_read}
use Rattle.calls.specs.Calls.{Instant, Averaged, head, instant, average_at}
use Rattle.calls.specs.Index.{names_capacity, judge, index_instant, index_average}
use Rattle.calls.proofs.Judged.{by_judge, judged_own, judged_refused, goes_on}

module _ {r : Instant} (t : ℕ) (img : List ℕ) (e : r ≡ index_instant t img) where
  number_is : r.status ≡ (index_instant t img).status
  number_is = ap (λ (a : Instant). a.status) e

  pair_is : r.pair ≡ (index_instant t img).pair
  pair_is = ap (λ (a : Instant). a.pair) e

  -- an image whose instant is answered names its capacity
  passed : r.status ≡ 0 → judge img ≡ 0
  unfolding index_instant
  passed n =
      by_judge _ (λ half. instant half t img) img (λ (a : Instant). a.status ≡ 0 → judge img ≡ 0) (λ g z. g) (λ k z. z) (sym number_is ∙ n)

  pub average_long : r.status ≡ 0 → 40 ≤ length img
  average_long n = ltb-false (length img) 40 (goes_on img (passed n)).long

  -- by the half that it names
  module _ (g : judge img ≡ 0) where
    own : index_instant t img ≡ instant (half_of img) t img
    unfolding index_instant
    own = judged_own _ (λ half. instant half t img) img g

    kind_is : u32_at img 24 ≡ (head (half_of img) img).kind
    unfolding head names_capacity
    kind_is = sym (kind_read (half_of img) img (omega (arith, (own_half (goes_on img g).named).least)))

  pub average_0 : r.status ≡ 0 → record { status = 0; average = average (u32_at img 24) r.pair } ≡ index_average t img
  unfolding index_average average_at
  average_0 n =
      let g = passed n in
      let half = half_of img in
      let z : 0 ≡ (instant half t img).status = sym n ∙ number_is ∙ ap (λ (a : Instant). a.status) (own g) in
      let p : r.pair ≡ (instant half t img).pair = pair_is ∙ ap (λ (a : Instant). a.pair) (own g) in
      (λ j. record { status = z j; average = cond (eqb (z j) 0) (average (kind_is g j) (p j)) Nothing })
      ∙ sym (judged_own _ (λ half. average_at half t img) img g)

  pub average_refused : r.status ≢ 0 → record { status = r.status; average = Nothing } ≡ index_average t img
  unfolding index_instant index_average average_at
  average_refused n =
      by_judge _ (λ half. average_at half t img) img
      (λ (a : Averaged). record { status = r.status; average = Nothing } ≡ a)
      (λ g.
      let half = half_of img in
      let m : ℕ = (instant half t img).status in
      let same : r.status ≡ m = number_is ∙ ap (λ (a : Instant). a.status) (own g) in
      let off : eqb m 0 ≡ false = ne_eqb m 0 (λ z. n (same ∙ z)) in
      (λ j. record { status = same j; average = Nothing })
      ∙ (λ j. record { status = m; average = cond (sym off j) (average (head half img).kind (instant half t img).pair) Nothing }))
      (λ k. λ j. record {
        status = (number_is ∙ ap (λ (a : Instant). a.status) (judged_refused _ (λ half. instant half t img) img k)) j;
        average = Nothing;
      })
