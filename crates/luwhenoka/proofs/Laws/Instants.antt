-- The ways out of an instant call. Assumes nothing.
use Prim.Native.Nat.{ℕ, ◌≤◌, ◌<◌}
use mathlib.Core.Path.{◌≡◌, refl, sym}
use mathlib.Core.Bool.{Bool, true, false, cond, not, ◌&&◌}
use mathlib.Core.List.{List, [], ◌∷◌}
use lib.Dec.{eqb, leb, ltb}
use borrow.Author.Tests.{le-leb, lt-leb, lt-ltb, le-ltb}
use Rattle.rule.specs.declared.Pair.{Pair}
use Rattle.rule.specs.Time.{END}
use Rattle.rule.specs.Pairs.{none}
use Rattle.image.specs.Images.{length_ok}
use Rattle.image.specs.Instant.{Lookup, look_up}
use Rattle.calls.specs.Refusals.{first}
use Rattle.calls.specs.Calls.{Instant, no_instant, head_ok, instant_status, instant}

-- an instant call by the outcomes of its tests and what the lookup found
answered : (fits past before_end headed : Bool) (w : Lookup) → Instant
answered fits past before_end headed w =
    let number = first ((16, not fits) ∷ (12, past) ∷ (21, not (headed && w.fit)) ∷ []) in
    record {
      status = number;
      pair = cond (eqb number 0) w.pair none;
      start = cond (eqb number 0) w.start 0;
      end = cond (eqb number 0) w.end 0;
      pages = cond (fits && (before_end && headed)) w.pages 0;
    }

module _ (half t : ℕ) (img : List ℕ) where
  by_tests : (fits past before_end headed : Bool) {w : Lookup} → length_ok half img ≡ fits → leb END t ≡ past → ltb t END ≡ before_end
      → head_ok half img ≡ headed → w ≡ look_up half img t → answered fits past before_end headed w ≡ instant half t img
  unfolding answered instant instant_status
  by_tests fits past before_end headed a b c d e = λ j. answered (sym a j) (sym b j) (sym c j) (sym d j) (e j)

  pub instant_16 : length_ok half img ≡ false → no_instant 16 0 ≡ instant half t img
  unfolding answered first
  instant_16 a = by_tests false _ _ _ a refl refl refl refl

  pub instant_12 : length_ok half img ≡ true → END ≤ t → no_instant 12 0 ≡ instant half t img
  unfolding answered first
  instant_12 a l = by_tests true true false _ a (le-leb _ _ l) (le-ltb _ _ l) refl refl

  -- length, instant and head fit
  pub record Passed : Type 0 where
    pub whole : length_ok half img ≡ true
    pub early : t < END
    pub headed : head_ok half img ≡ true

  module _ (a : length_ok half img ≡ true) (l : t < END) where
    pub instant_head : head_ok half img ≡ false → no_instant 21 0 ≡ instant half t img
    unfolding answered first
    instant_head d = by_tests true false true false a (lt-leb _ _ l) (lt-ltb _ _ l) d refl

  module _ (k : Passed) where
    looked : {w : Lookup} → w ≡ look_up half img t → answered true false true true w ≡ instant half t img
    looked e = by_tests true false true true k.whole (lt-leb _ _ k.early) (lt-ltb _ _ k.early) k.headed e

    module _ {p : Pair} {start end n : ℕ} where
      pub instant_21 : record { fit = false; pair = p; start = start; end = end; pages = n } ≡ look_up half img t
          → no_instant 21 n ≡ instant half t img
      unfolding answered first
      instant_21 e = looked e

      pub instant_0 : record { fit = true; pair = p; start = start; end = end; pages = n } ≡ look_up half img t
          → record { status = 0; pair = p; start = start; end = end; pages = n } ≡ instant half t img
      unfolding answered first
      instant_0 e = looked e
