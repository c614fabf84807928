-- What the header for C says of the output of a listing and of the scratch, of what the functions promise. Assumes nothing.
use Rattle.std.specs.Prelude.{ℕ, ◌+◌, ◌*◌, ◌-◌, ◌≤◌, ◌≢◌, List, length, ℤ}
use Rattle.page.specs.Layout.{capacity}
use Rattle.image.specs.Images.{half_of, pages_in}
use Rattle.calls.specs.Changes.{Side}
use Rattle.calls.specs.Calls.{head}
use Rattle.calls.specs.Scratch.{Enough}
use Rattle.luwhenoka.specs.declared.ListingAnswer.{ListingAnswer}
use Rattle.luwhenoka.specs.Promises.{Books, Lists, Audits, Rebuilds}

-- "An image of n pages shows at most K x (n - 1) runs, so 16 x K x (n - 1) bytes are always enough." Whatever the image holds and
-- whatever the call was handed beside it.
pub record HeaderRuns : Type 0 where
  pub runs :
      (a b : ℕ) (img out : List ℕ) (r : ListingAnswer) (after : List ℕ) → Lists a b img out r after
      → r.runs ≤ capacity (half_of img) * (pages_in (half_of img) img - 1)
  pub enough :
      (a b : ℕ) (img out : List ℕ) (r : ListingAnswer) (after : List ℕ) → Lists a b img out r after
      → 16 * (capacity (half_of img) * (pages_in (half_of img) img - 1)) ≤ length out → r.status ≢ 15

-- "at least LUW_SCRATCH_BYTES(n), that is n / 8 bytes, rounded up, of any content: 128 are always enough."
pub record HeaderScratch : Type 0 where
  pub booking :
      (side : Side) (v : ℤ) (s e : ℕ) (img scratch : List ℕ) (r : ℕ) (after left : List ℕ) → Books side v s e img scratch r after left
      → Enough (pages_in (half_of img) img) scratch → r ≢ 17
  pub audit :
      (img scratch : List ℕ) (r : ℕ) (left : List ℕ) → Audits img scratch r left
      → Enough (pages_in (half_of img) img) scratch → r ≢ 17
  pub rebuild :
      (source target scratch : List ℕ) (r : ℕ) (after left : List ℕ) → Rebuilds source target scratch r after left
      → Enough (pages_in (half_of source) source) scratch → r ≢ 17

-- "A target of as many pages as the source uses, its head among them, is always large enough": as stand below the high mark, those of the
-- chain left out.
pub record HeaderTarget : Type 0 where
  pub enough :
      (source target scratch : List ℕ) (r : ℕ) (after left : List ℕ) → Rebuilds source target scratch r after left
      → (head (half_of source) source).mark ≤ pages_in (half_of source) target + (head (half_of source) source).chain
      → r ≢ 24
  -- so one of the source's own length is
  pub as_long :
      (source target scratch : List ℕ) (r : ℕ) (after left : List ℕ) → Rebuilds source target scratch r after left
      → length source ≤ length target
      → r ≢ 24
