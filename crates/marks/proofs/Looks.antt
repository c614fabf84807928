-- The looks are these: each case is computed. Assumes nothing.
use mathlib.Core.Path.{refl}
use Rattle.image.specs.Trail.{each_in_turn, finds_fit, up_to_unfit, visits, trail, entries_over, listing_trail}
use Rattle.image.specs.Looks.{pages_of}
use Rattle.claims.specs.Walks.{listing_looks}
use Rattle.marks.specs.Looks.{Looks}
use Rattle.marks.proofs.Opened.{all_definitions}

pub looks : Looks
unfolding all_definitions each_in_turn finds_fit up_to_unfit visits trail entries_over listing_trail pages_of listing_looks
looks = record { accepted = refl; output_short = refl; page_hurt = refl; page_past = refl }
