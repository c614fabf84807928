-- Document 02, (iii): what an accepted rebuild leaves in its target, whichever image the source is, with a list from a format or without.
-- Every byte of it is a definition (`rebuilt_bytes`, Calls.antt of `calls`); here is what that means. Assumes nothing.
use Rattle.std.specs.Prelude.{ℕ, suc, ◌+◌, ◌≤◌, ◌<◌, ◌≡◌, true, List, length}
use Rattle.rule.specs.Time.{END}
use Rattle.fields.specs.Bytes.{Bytes}
use Rattle.page.specs.Layout.{capacity}
use Rattle.image.specs.Images.{capacity_field, half_of, pages_in}
use Rattle.image.specs.Sound.{sound_before, sound}
use Rattle.image.specs.Listing.{walk_over, neighbours_differ}
use Rattle.tight.specs.Tight.{sizes, pages_used}
use Rattle.tight.specs.Counts.{pages_on}
use Rattle.tight.specs.Layout.{LaidOut}
use Rattle.calls.specs.Calls.{head, full_runs}
use Rattle.calls.specs.Index.{index_instant, index_average, index_listing, index_rebuild}

-- What the target's head tells: "the chain is empty, the high mark follows the last page used; kind, window and changes are kept." The last
-- page used is the root. Document 02, (xi): "A rebuild keeps K .. and writes the field".
pub record HeadLeft (source img : List ℕ) : Type 0 where
  pub half_is : half_of img ≡ half_of source
  pub field_is : capacity_field img ≡ capacity (half_of source)
  pub kind_is : (head (half_of img) img).kind ≡ (head (half_of source) source).kind
  pub window_is : (head (half_of img) img).window ≡ (head (half_of source) source).window
  pub changes_are : (head (half_of img) img).changes ≡ (head (half_of source) source).changes
  pub root_is : (head (half_of img) img).root ≡ pages_used (half_of source) (length (full_runs (half_of source) source))
  pub height_is : (head (half_of img) img).height ≡ length (sizes (half_of source) (length (full_runs (half_of source) source)))
  pub no_first : (head (half_of img) img).free ≡ 0
  pub no_chain : (head (half_of img) img).chain ≡ 0
  pub mark_is : (head (half_of img) img).mark ≡ suc (pages_used (half_of source) (length (full_runs (half_of source) source)))

-- "The listing is the old one's": over every span, with every output lent, and so the pair of each instant and its average.
pub record AnswersKept (source img : List ℕ) : Type 0 where
  pub runs : full_runs (half_of source) img ≡ full_runs (half_of source) source
  pub listings : (a b : ℕ) (out : List ℕ) → index_listing a b img out ≡ index_listing a b source out
  pub instants :
      (t : ℕ)
      → ((index_instant t img).status ≡ (index_instant t source).status) × ((index_instant t img).pair ≡ (index_instant t source).pair)
  pub averages : (t : ℕ) → index_average t img ≡ index_average t source

-- "m runs in the fewest pages .. and so at each level up": a sound image of that capacity with the same full listing, as is one that has
-- these runs as its leaf entries, has as many pages on each level at the least, and so as many levels and as many pages used, those of its
-- chain left out.
pub record NoFewer (source img other : List ℕ) : Type 0 where
  pub on_levels : (l : ℕ) → pages_on (half_of source) img l ≤ pages_on (half_of source) other l
  pub levels : (head (half_of source) img).height ≤ (head (half_of source) other).height
  pub pages : (head (half_of source) img).mark + (head (half_of source) other).chain ≤ (head (half_of source) other).mark

-- all of it, of the image that an accepted rebuild of the source left in the target's place
pub record RebuiltFrom (source target img : List ℕ) : Type 0 where
  pub sound_after : sound (half_of img) img ≡ true
  pub bytes : Bytes img
  pub length_kept : length img ≡ length target
  pub head_left : HeadLeft source img
  pub answers_kept : AnswersKept source img
  pub laid_out : LaidOut (half_of source) img (head (half_of source) img).mark (full_runs (half_of source) source)
  -- no two neighbouring leaf entries have the same total, in a page or across the edge of one
  pub neighbours : neighbours_differ (walk_over (half_of source) img 0 END).runs ≡ true
  pub fewest :
      (other : List ℕ)
      → sound_before (half_of source) other ≡ true
      → full_runs (half_of source) other ≡ full_runs (half_of source) source
      → NoFewer source img other

pub record EveryRebuild : Type 0 where
  pub of_accepted :
      (source target scratch img left : List ℕ)
      → record { status = 0; target = img; scratch = left } ≡ index_rebuild source target scratch
      → RebuiltFrom source target img
  -- "24 if n is too small", and only then: every sound image of that capacity with that full listing uses more pages, its head among them,
  -- than the target has.
  pub of_24 :
      (source target scratch other : List ℕ)
      → (index_rebuild source target scratch).status ≡ 24
      → sound_before (half_of source) other ≡ true
      → full_runs (half_of source) other ≡ full_runs (half_of source) source
      → pages_in (half_of source) target + (head (half_of source) other).chain < (head (half_of source) other).mark
  -- The source is one of them: as many pages as it uses are always enough, and so are as many as it has.
  pub as_the_source :
      (source target scratch : List ℕ)
      → (index_rebuild source target scratch).status ≡ 24
      → (pages_in (half_of source) target + (head (half_of source) source).chain < (head (half_of source) source).mark)
      × ((head (half_of source) source).mark ≤ pages_in (half_of source) source)
