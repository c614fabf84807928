-- 64 pages have at most 1,416 runs: one more takes 60 leaf pages of 24 entries, three pages above them and the root, and besides these
-- there is the head. Assumes nothing.
use mathlib.Core.Path.{◌≡◌, refl}
use mathlib.Core.Bool.{true}
use mathlib.Core.List.{List}
use Prim.Native.Nat.{ℕ, ◌≤◌}
use native.Mathlib.Omega.{arith}
use native.Mathlib.Decide.{dec_le}
use lib.ListN.{length}
use Rattle.lists.specs.Lists.{sum}
use Rattle.image.specs.Images.{pages_in}
use Rattle.image.specs.Listing.{walk_over}
use Rattle.image.specs.Sound.{sound_before}
use Rattle.image.proofs.Runs.{join_few}
use Rattle.tight.specs.Tight.{pages_for, level_sizes, sizes, pages_used}
use Rattle.soundness.proofs.Sound.{sound_facts}
use Rattle.soundness.proofs.Counting.{sound_counted}
use Rattle.fewest.proofs.Fewest.{leaf_room, fewest_in_all}
use Rattle.calls.specs.Calls.{runs_over}

too_many : pages_used 12 1417 ≡ 64
unfolding pages_used sizes level_sizes pages_for sum
too_many = refl

-- "(64 pages ..)"
pub runs_few : (a b : ℕ) (img : List ℕ) → sound_before 12 img ≡ true → pages_in 12 img ≡ 64
    → length (runs_over 12 a b img) ≤ 1416
unfolding runs_over
runs_few a b img fits n = go (dec_le 1417 found)
  where
    found : ℕ
    found = length (walk_over 12 img a b).runs

    go : Dec (1417 ≤ found) → length (runs_over 12 a b img) ≤ 1416
    go (yes more) =
        let counted = sound_counted (sound_facts 12 img fits) in
        absurd
        (omega (
          arith,
          too_many,
          fewest_in_all 12 img fits 1417 (omega (arith, leaf_room 12 img fits a b)),
          counted.count,
          counted.fit.head.mark_most,
        ))
    go (no few) = omega (arith, join_few (walk_over 12 img a b).runs)
