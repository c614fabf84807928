-- What a rebuild asks of its source and its target. Assumes nothing.
use Rattle.std.specs.Prelude.{ℕ, ◌≤◌, ◌≡◌, true, false, cond, List, [], ◌∷◌, length, eqb}
use Rattle.rule.specs.Time.{END}
use Rattle.page.specs.declared.Head.{Head}
use Rattle.image.specs.Images.{pages_in, length_ok}
use Rattle.image.specs.Listing.{walk_over}
use Rattle.access.specs.Access.{OpenImage}
use Rattle.tight.specs.Tight.{too_small}
use Rattle.calls.specs.Refusals.{first}
use Rattle.calls.specs.Calls.{full_runs, rebuilt_bytes}

-- The source has this head and only fit pages, and so many runs; the target is of a length in range, with pages enough for them.
pub record Rebuildable (half : ℕ) (source : List ℕ) (h : Head) (target : List ℕ) (m : ℕ) : Type 0 where
  pub half_least : 2 ≤ half
  pub half_most : half ≤ 12
  pub opened : OpenImage half source h
  pub fit : (walk_over half source 0 END).fit ≡ true
  pub counted : m ≡ length (full_runs half source)
  pub some : 1 ≤ m
  pub whole : length_ok half target ≡ true
  pub room : too_small half (pages_in half target) m ≡ false

-- The status of the last row, and what is left of the target: where it has too few pages, its bytes are as they were.
pub record Fills (half : ℕ) (source target : List ℕ) (status : ℕ) (left : List ℕ) : Type 0 where
  pub told : status ≡ first ((24, too_small half (pages_in half target) (length (full_runs half source))) ∷ [])
  pub leaves : left ≡ cond (eqb status 0) (rebuilt_bytes half source (pages_in half target)) target
