-- How many runs a listing has. Assumes nothing.
use mathlib.Core.Path.{◌≡◌, refl}
use mathlib.Core.Logic.{◌≢◌}
use mathlib.Core.Bool.{Bool, true, false, cond, not, ◌&&◌, and-eq-true_iff, true≢false}
use mathlib.Core.List.{List, [], ◌∷◌}
use Prim.Native.Nat.{ℕ, ◌*◌, ◌-◌, ◌≤◌}
use native.Mathlib.Omega.{arith}
use lib.ListN.{length}
use lib.Dec.{eqb}
use borrow.Author.Tests.{le-ltb}
use Rattle.rule.specs.Time.{span_ok}
use Rattle.page.specs.Layout.{capacity}
use Rattle.image.specs.Images.{pages_in, length_ok}
use Rattle.image.specs.Listing.{walk_over}
use Rattle.image.proofs.Runs.{join_few}
use Rattle.calls.specs.Refusals.{first}
use Rattle.calls.specs.Calls.{head_ok, runs_over, too_short, listing_status, listing}
use Rattle.claims.specs.Walks.{FewRuns}
use Rattle.soundness.proofs.Runs.{walked_few}

-- ---- the runs shown

shown : (half a b : ℕ) (img : List ℕ) → head_ok half img ≡ true → length (runs_over half a b img) ≤ capacity half * (pages_in half img - 1)
unfolding runs_over head_ok
shown half a b img fits = omega (arith, join_few (walk_over half img a b).runs, walked_few half a b img fits)

-- ---- a listing

rows_answer : (x y z w : Bool) (k m : ℕ) → (z ≡ true → k ≤ m)
    → cond (eqb (first ((16, not x) ∷ (11, not y) ∷ (21, not z) ∷ (15, w) ∷ [])) 0) k 0 ≤ m
unfolding first
rows_answer false y z w k m f = omega arith
rows_answer true false z w k m f = omega arith
rows_answer true true false w k m f = omega arith
rows_answer true true true true k m f = omega arith
rows_answer true true true false k m f = f refl

rows_enough : (x y z w : Bool) → (z ≡ true → w ≡ false) → first ((16, not x) ∷ (11, not y) ∷ (21, not z) ∷ (15, w) ∷ []) ≢ 15
unfolding first
rows_enough false y z w f e = omega arith
rows_enough true false z w f e = omega arith
rows_enough true true false w f e = omega arith
rows_enough true true true true f e = true≢false (f refl)
rows_enough true true true false f e = omega arith

answered : (half a b : ℕ) (img out : List ℕ) → (listing half a b img out).runs ≤ capacity half * (pages_in half img - 1)
unfolding listing listing_status
answered half a b img out =
    rows_answer (length_ok half img) (span_ok a b) (head_ok half img && (walk_over half img a b).fit)
    (too_short out (runs_over half a b img))
    (length (runs_over half a b img)) (capacity half * (pages_in half img - 1))
    (λ z. shown half a b img ((and-eq-true_iff (head_ok half img) (walk_over half img a b).fit).0 z).0)

enough : (half a b : ℕ) (img out : List ℕ) → 16 * (capacity half * (pages_in half img - 1)) ≤ length out
    → (listing half a b img out).status ≢ 15
unfolding listing listing_status too_short
enough half a b img out room =
    rows_enough (length_ok half img) (span_ok a b) (head_ok half img && (walk_over half img a b).fit)
    (too_short out (runs_over half a b img))
    (λ z.
    le-ltb (length out) (16 * length (runs_over half a b img))
    (omega (arith, room, shown half a b img ((and-eq-true_iff (head_ok half img) (walk_over half img a b).fit).0 z).0)))

pub few_runs : (half : ℕ) → FewRuns half
few_runs half = record { shown = shown half; answered = answered half; enough = enough half }
