-- The ways out of a span listing. Assumes nothing.
use Prim.Native.Nat.{ℕ, ◌*◌, ◌≤◌, ◌<◌}
use mathlib.Core.Path.{◌≡◌, refl, sym, ap}
use mathlib.Core.Bool.{Bool, true, false, cond, not, ◌&&◌}
use mathlib.Core.List.{List, [], ◌∷◌}
use lib.ListN.{length}
use lib.Dec.{eqb, leb}
use borrow.Author.Tests.{lt-ltb, le-ltb, le-leb}
use Rattle.rule.specs.Time.{END, span_ok}
use Rattle.image.specs.Images.{length_ok}
use Rattle.image.specs.Listing.{Run, walk_over}
use Rattle.std.specs.Prelude.{Some, None}
use Rattle.listing.specs.Walks.{count}
use Rattle.listing.proofs.Laws.Counts.{counted_runs, not_counted}
use Rattle.calls.specs.Refusals.{first}
use Rattle.calls.specs.Calls.{Listed, head_ok, runs_over, too_short, written, listing_status, listing}

-- ---- what the first pass says

-- every page met is fit, and there are so many runs
pub record CountedAs (half : ℕ) (img : List ℕ) (a b n : ℕ) : Type 0 where
  pub fit : (walk_over half img a b).fit ≡ true
  pub status : n ≡ length (runs_over half a b img)

module _ (half : ℕ) (img : List ℕ) (a b : ℕ) where
  pub counted : {n : ℕ} → Some n ≡ count (walk_over half img a b) → CountedAs half img a b n
  unfolding runs_over
  counted e =
      let k = counted_runs (walk_over half img a b) e in
      record { fit = k.0; status = k.1 }

  pub uncounted : None ≡ count (walk_over half img a b) → (walk_over half img a b).fit ≡ false
  uncounted e = not_counted (walk_over half img a b) e

-- ---- the ways out

-- a listing by the outcomes of its tests
made : (fits span headed walked short : Bool) (runs : List Run) (out : List ℕ) → Listed
made fits span headed walked short runs out =
    let number = first ((16, not fits) ∷ (11, not span) ∷ (21, not (headed && walked)) ∷ (15, short) ∷ []) in
    record { status = number; runs = cond (eqb number 0) (length runs) 0; output = cond (eqb number 0) (written out runs) out }

module _ (half a b : ℕ) (img out : List ℕ) where
  by_tests : (fits span headed walked short : Bool) → length_ok half img ≡ fits → span_ok a b ≡ span → head_ok half img ≡ headed
      → (walk_over half img a b).fit ≡ walked → too_short out (runs_over half a b img) ≡ short
      → made fits span headed walked short (runs_over half a b img) out ≡ listing half a b img out
  unfolding made listing listing_status
  by_tests fits span headed walked short d e f g h =
      λ j. made (sym d j) (sym e j) (sym f j) (sym g j) (sym h j) (runs_over half a b img) out

  pub listing_16 : length_ok half img ≡ false → record { status = 16; runs = 0; output = out } ≡ listing half a b img out
  unfolding made first
  listing_16 d = by_tests false _ _ _ _ d refl refl refl refl

  pub listing_11 : length_ok half img ≡ true → b ≤ a → record { status = 11; runs = 0; output = out } ≡ listing half a b img out
  unfolding made first span_ok
  listing_11 d l = by_tests true false _ _ _ d (ap (λ z. z && leb b END) (le-ltb a b l)) refl refl refl

  module _ (d : length_ok half img ≡ true) (l : a < b) (m : b ≤ END) where
    span_fits : span_ok a b ≡ true
    unfolding span_ok
    span_fits = λ j. lt-ltb a b l j && le-leb b END m j

    pub listing_head : head_ok half img ≡ false → record { status = 21; runs = 0; output = out } ≡ listing half a b img out
    unfolding made first
    listing_head f = by_tests true true false _ _ d span_fits f refl refl

    module _ (f : head_ok half img ≡ true) where
      pub listing_21 : (walk_over half img a b).fit ≡ false → record { status = 21; runs = 0; output = out } ≡ listing half a b img out
      unfolding made first
      listing_21 g = by_tests true true true false _ d span_fits f g refl

      module _ (g : (walk_over half img a b).fit ≡ true) where
        pub listing_15 : length out < 16 * length (runs_over half a b img)
            → record { status = 15; runs = 0; output = out } ≡ listing half a b img out
        unfolding made first too_short
        listing_15 k = by_tests true true true true true d span_fits f g (lt-ltb _ _ k)

        pub listing_0 : 16 * length (runs_over half a b img) ≤ length out
            → record { status = 0; runs = length (runs_over half a b img); output = written out (runs_over half a b img) } ≡
            listing half a b img out
        unfolding made first too_short
        listing_0 k = by_tests true true true true false d span_fits f g (le-ltb _ _ k)
