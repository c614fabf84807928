-- What happens to one image, from the format on, and where a rebuild goes on with it in another's place. Document 01, "The plain book of
-- demand 3": "A list starts from an image on which format returned 0 .. Each gets the image as the last one left it; nobody else writes it
-- meanwhile." "A call that a later request adds stands in it by the change that it makes to this image." So a list is told here by what its
-- calls did to the image, and a further call is one of these steps, or a kind of step that it adds, on every image that it is handed.
-- Assumes nothing.
use Rattle.std.specs.Prelude.{ℕ, ◌≡◌, ◌≢◌, cond, List, [], ◌∷◌, ◌++◌, eqb, ℤ}
use Rattle.page.specs.Layout.{no_field, capacity_named}
use Rattle.calls.specs.Changes.{Side, Change}
use Rattle.calls.specs.Index.{index_format, format_before, index_book, index_rebuild}

-- One call on an image: the image before it, the changes that it made, the image that it left. A call that only reads keeps the image,
-- and so does one that is refused; a booking that returned 0 made its change. (The five steps of a change are steps within one such call.)
pub data Step : List ℕ → List Change → List ℕ → Type 0 where
  kept : {img : List ℕ} → Step img [] img
  accepted :
      {img after left : List ℕ} {side : Side} {v : ℤ} {s e : ℕ} (scratch : List ℕ)
      → record { status = 0; image = after; scratch = left } ≡ index_book side v s e img scratch
      → Step img (record { side = side; v = v; s = s; e = e } ∷ []) after

-- A list of calls on one image, from a format of that kind and window that returned 0, whatever bytes were there before: the number in the
-- capacity's field, the image that the list leads to, and the changes accepted on the way, the first first. A list may begin with the
-- format that writes a capacity, or with document 01's own, which knew no such field and left FF there. Document 02, (iii): "the target's
-- own history ends with an accepted rebuild, and it goes on with the source's list, accepted changes and book, if the source has a list
-- from a format; if not, they don't speak of the target." The source's own list goes on, too.
pub data Trace (kind window : ℕ) : ℕ → List ℕ → List Change → Type 0 where
  formatted :
      {k : ℕ} {img : List ℕ} (before : List ℕ)
      → record { status = 0; image = img } ≡ index_format kind window k before
      → Trace kind window k img []
  formatted_before :
      {img : List ℕ} (before : List ℕ)
      → record { status = 0; image = img } ≡ format_before kind window before
      → Trace kind window no_field img []
  extended :
      {field : ℕ} {img after : List ℕ} {cs ds : List Change}
      → Trace kind window field img cs
      → Step img ds after
      → Trace kind window field after (cs ++ ds)
  rebuilt :
      {field : ℕ} {source img left : List ℕ} {cs : List Change} (target scratch : List ℕ)
      → Trace kind window field source cs
      → record { status = 0; target = img; scratch = left } ≡ index_rebuild source target scratch
      → Trace kind window (capacity_named field) img cs

-- "Demand 3 is a single claim about the list, not one for each call": P of each image on the way, the first and the last among them, and
-- of the changes accepted until then
unfoldable pub Throughout :
    {kind window field : ℕ} (P : List ℕ → List Change → Type 0) {img : List ℕ} {cs : List Change}
    → Trace kind window field img cs → Type 0
Throughout P {img} {cs} (formatted before f) = P img []
Throughout P {img} {cs} (formatted_before before f) = P img []
Throughout P (extended {field} {img} {after} {cs} {ds} T step) = Throughout P T × P after (cs ++ ds)
Throughout P (rebuilt {field} {source} {img} {left} {cs} target scratch T r) = Throughout P T × P img cs

-- The change that a booking made by the status that it returned: "Enter or withdraw .. that returned 0 adds an item .. Any other number
-- adds nothing".
unfoldable pub change_made : ℕ → Change → List Change
change_made number c = cond (eqb number 0) (c ∷ []) []

-- Every booking, every format and every rebuild is such a step. Instant, average, listing and audit leave no image: the caller's stays,
-- which is `kept`; and so it is with the source of a rebuild.
pub record Steps : Type 0 where
  pub of_booking :
      (side : Side) (v : ℤ) (s e : ℕ) (img scratch : List ℕ) (r : ℕ) (after left : List ℕ)
      → record { status = r; image = after; scratch = left } ≡ index_book side v s e img scratch
      → Step img (change_made r (record { side = side; v = v; s = s; e = e })) after
  -- an accepted format begins a list
  pub of_format :
      (kind window k : ℕ) (img : List ℕ) (after : List ℕ)
      → record { status = 0; image = after } ≡ index_format kind window k img
      → Trace kind window k after []
  -- and so did one of document 01's own
  pub of_format_before :
      (kind window : ℕ) (img : List ℕ) (after : List ℕ)
      → record { status = 0; image = after } ≡ format_before kind window img
      → Trace kind window no_field after []
  pub of_refused_format :
      (kind window k : ℕ) (img : List ℕ) (r : ℕ) (after : List ℕ)
      → record { status = r; image = after } ≡ index_format kind window k img
      → r ≢ 0
      → Step img [] after
  -- an accepted rebuild goes on with the source's list
  pub of_rebuild :
      {kind window field : ℕ} {cs : List Change} (source target scratch : List ℕ) (after left : List ℕ)
      → Trace kind window field source cs
      → record { status = 0; target = after; scratch = left } ≡ index_rebuild source target scratch
      → Trace kind window (capacity_named field) after cs
  -- after a refused one the target's own list goes on
  pub of_refused_rebuild :
      (source target scratch : List ℕ) (number : ℕ) (after left : List ℕ)
      → record { status = number; target = after; scratch = left } ≡ index_rebuild source target scratch
      → number ≢ 0
      → Step target [] after
