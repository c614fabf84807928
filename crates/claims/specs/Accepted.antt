-- What an accepted change leaves of EVERY image: nothing is asked of how the image came about, no format and no earlier call, since
-- neither document 01's steps nor the header for C ask it. The demands on a list of calls (Demands.antt) are of images with a history.
-- Assumes nothing.
use Rattle.std.specs.Prelude.{ℕ, suc, ◌<◌, ◌≤◌, ◌≡◌, ◌⊎◌, true, ℤ, length}
use mathlib.Core.List.{List, Memᴰ}
use Rattle.rule.specs.Time.{END, effect_end}
use Rattle.rule.specs.Pairs.{combine}
use Rattle.fields.specs.Bytes.{Bytes}
use Rattle.image.specs.Images.{capacity_field, half_of, page_at, image_of}
use Rattle.image.specs.Sound.{sound}
use Rattle.steps.specs.Change.{change_names}
use Rattle.calls.specs.Changes.{Side, effect}
use Rattle.calls.specs.Calls.{head}
use Rattle.calls.specs.Index.{index_book, index_instant}

-- the pages that the five steps of a change name, in the image as it finds it
unfoldable pub named : ℕ → Side → ℤ → ℕ → ℕ → List ℕ → List ℕ
named half side v s e img =
    let h = head half img in
    change_names half (combine h.kind) s (effect_end e h.window) (effect side v) (image_of half img)

-- A change by v on [s, e) that took the image img, of pages of capacity 2 × half, to img'. Its effect covers [s, e'), e' being
-- `effect_end e w` of the image's own window w.
pub record AcceptedChange (half : ℕ) (side : Side) (v : ℤ) (s e : ℕ) (img img' : List ℕ) : Type 0 where
  -- "every image that a change leaves is sound by document 01's page rules"; in the header: "An accepted one leaves a sound image whose
  -- count of changes is one higher."
  pub sound_after : sound half img' ≡ true
  -- "Then changes rises by 1."
  pub changes : (head half img').changes ≡ suc (head half img).changes
  -- "An index has a kind (1 totals, 2 greatest, 3 least) and a window .., both set at format": a change keeps them, and the length
  pub kind : (head half img').kind ≡ (head half img).kind
  pub window : (head half img').window ≡ (head half img).window
  pub size : length img' ≡ length img
  -- "a change keeps the field's bytes"
  pub capacity : capacity_field img' ≡ capacity_field img
  -- so that it may be changed again
  pub bytes : Bytes img'
  -- every instant is answered, and what was turned back (END, and what lies past it) still is
  pub answered : (t : ℕ) → t < END → (index_instant t img').status ≡ 0
  pub statuses : (t : ℕ) → (index_instant t img').status ≡ (index_instant t img).status
  -- "one more accepted change alters no instant's pair outside its span (lengthened by the window)"
  pub outside :
      (t : ℕ) → (t < s) ⊎ (effect_end e (head half img).window ≤ t)
      → (index_instant t img').pair ≡ (index_instant t img).pair
  -- "C. Combine the effect into [s, e')."
  pub inside :
      (t : ℕ) → s ≤ t → t < effect_end e (head half img).window
      → (index_instant t img').pair ≡ combine (head half img).kind (index_instant t img).pair (effect side v)
  -- "and no byte of a page that its five steps in document 01 don't name"
  pub unnamed : (p : ℕ) → ¬ Memᴰ p (named half side v s e img) → page_at half img' p ≡ page_at half img p

-- Of every image of bytes, which any image lent as bytes is, and of every side, value, span and scratch.
unfoldable pub EveryChange : Type 0
EveryChange =
    (side : Side) (v : ℤ) (s e : ℕ) (img scratch : List ℕ)
    → Bytes img
    → (index_book side v s e img scratch).status ≡ 0
    → AcceptedChange (half_of img) side v s e img (index_book side v s e img scratch).image
