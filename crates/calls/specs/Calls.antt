-- Every call of document 01, and document 02's rebuild, as a function of its inputs: the status returned (document 01's number), the
-- answer, and every byte of image, target, output and scratch afterwards, on every image and argument. What a call only reads has no field
-- in what it leaves. Over half the capacity of a page; where a call has that from is Index.antt. Calls that take a scratch are over how
-- many bytes of it they borrow for n pages. Assumes nothing.
use Rattle.std.specs.Prelude.{ℕ, ◌*◌, Bool, cond, not, ◌&&◌, List, [], ◌∷◌, ◌++◌, length, eqb, leb, ltb, ℤ}
use Rattle.rule.specs.declared.Pair.{Pair}
use Rattle.rule.specs.declared.Average.{Average}
use Rattle.rule.specs.declared.Average.TheVariants.{Nothing}
use Rattle.rule.specs.Time.{END, span_ok, value_ok, kind_ok, window_ok, effect_end}
use Rattle.rule.specs.Pairs.{none, combine}
use Rattle.rule.specs.Averages.{average}
use Rattle.fields.specs.Bytes.{patch}
use Rattle.page.specs.declared.Head.{Head}
use Rattle.page.specs.Layout.{head_of}
use Rattle.lists.specs.Lists.{concat_map}
use Rattle.page.specs.Fit.{head_fit, most_changes}
use Rattle.image.specs.Images.{page_at, pages_in, length_ok, image_of, image_bytes, fresh}
use Rattle.image.specs.Sound.{sound_before, sound}
use Rattle.image.specs.Instant.{look_up}
use Rattle.image.specs.Listing.{Run, walk_over, join, run_bytes}
use Rattle.tight.specs.Tight.{tight, too_small}
use Rattle.steps.specs.Change.{change, lacks_pages}
use Rattle.calls.specs.Changes.{Side, withdraws, effect}
use Rattle.calls.specs.Refusals.{Row, first, scratch_ok, scratch_after}

-- the head of an image
unfoldable pub head : ℕ → List ℕ → Head
head half img = head_of (page_at half img 0)

-- the head is fit for an image of that length
unfoldable pub head_ok : ℕ → List ℕ → Bool
head_ok half img = head_fit half (pages_in half img) (page_at half img 0)

-- Format

pub record Formatted : Type 0 where
  pub status : ℕ
  pub image : List ℕ

unfoldable pub format_status : ℕ → ℕ → ℕ → List ℕ → ℕ
format_status half kind window img =
    first ((16, not (length_ok half img)) ∷ (14, not (kind_ok kind && window_ok window)) ∷ [])

-- the last number is written into the head as the capacity's field
unfoldable pub format : ℕ → ℕ → ℕ → ℕ → List ℕ → Formatted
format half kind window field img =
    let number = format_status half kind window img in
    let done = image_bytes half (fresh (pages_in half img) kind window field) in
    record { status = number; image = cond (eqb number 0) done img }

-- Enter and withdraw

pub record Booked : Type 0 where
  pub status : ℕ
  pub image : List ℕ
  pub scratch : List ℕ

-- "Turned back by the state": the rows that need the whole image
abbrev pub book_state_rows : ℕ → Side → ℕ → ℕ → List ℕ → List Row
book_state_rows half side s e img =
    let h = head half img in
    (21, not (sound half img))
    ∷ (22, withdraws side && not (eqb h.kind 1))
    ∷ (23, eqb h.changes most_changes)
    ∷ (24, lacks_pages half s (effect_end e h.window) (image_of half img))
    ∷ []

-- the image that an accepted change leaves
unfoldable pub changed : ℕ → Side → ℤ → ℕ → ℕ → List ℕ → List ℕ
changed half side v s e img =
    let h = head half img in
    image_bytes half (change half (combine h.kind) s (effect_end e h.window) (effect side v) (image_of half img))

module _ (bytes_for : ℕ → ℕ) where
  -- the rows before it goes to work on its image
  unfoldable pub book_input_rows : ℕ → ℤ → ℕ → ℕ → List ℕ → List ℕ → List Row
  book_input_rows half v s e img scratch =
      (16, not (length_ok half img))
      ∷ (17, not (scratch_ok bytes_for (pages_in half img) scratch))
      ∷ (11, not (span_ok s e))
      ∷ (13, not (value_ok v))
      ∷ []

  -- the status of a booking, document 01's number: that of the first row that turns it back, else 0
  unfoldable pub book_status : ℕ → Side → ℤ → ℕ → ℕ → List ℕ → List ℕ → ℕ
  book_status half side v s e img scratch = first (book_input_rows half v s e img scratch ++ book_state_rows half side s e img)

  unfoldable pub book : ℕ → Side → ℤ → ℕ → ℕ → List ℕ → List ℕ → Booked
  book half side v s e img scratch =
      let number = book_status half side v s e img scratch in
      let done = changed half side v s e img in
      record {
        status = number;
        image = cond (eqb number 0) done img;
        scratch = scratch_after bytes_for (book_input_rows half v s e img scratch) (pages_in half img) scratch;
      }

-- Instant

-- Document 02, (viii): "the instant answer gains the start and end of its leaf entry."
pub record Instant : Type 0 where
  pub status : ℕ
  pub pair : Pair
  pub start : ℕ
  pub end : ℕ
  pub pages : ℕ

-- "A refusal returns its number and zeros (instant: the pages read too)." "Refusals give zeros for both new numbers."
abbrev pub no_instant : ℕ → ℕ → Instant
no_instant status pages = record { status = status; pair = none; start = 0; end = 0; pages = pages }

unfoldable pub instant_status : ℕ → ℕ → List ℕ → ℕ
instant_status half t img =
    first
    ((16, not (length_ok half img))
    ∷ (12, leb END t)
    ∷ (21, not (head_ok half img && (look_up half img t).fit))
    ∷ [])

-- "It reports the tree pages read: the height if answered, or if a page is unfit, the pages up to and including it (0 for the
-- head and at other refusals)."
unfoldable pub instant : ℕ → ℕ → List ℕ → Instant
instant half t img =
    let number = instant_status half t img in
    let looked = look_up half img t in
    record {
      status = number;
      pair = cond (eqb number 0) looked.pair none;
      start = cond (eqb number 0) looked.start 0;
      end = cond (eqb number 0) looked.end 0;
      pages = cond (length_ok half img && (ltb t END && head_ok half img)) looked.pages 0;
    }

-- Average: "The average's pair is taken by an instant call."

pub record Averaged : Type 0 where
  pub status : ℕ
  pub average : Average

unfoldable pub average_at : ℕ → ℕ → List ℕ → Averaged
average_at half t img =
    let r = instant half t img in
    record { status = r.status; average = cond (eqb r.status 0) (average (head half img).kind r.pair) Nothing }

-- Span listing

pub record Listed : Type 0 where
  pub status : ℕ
  pub runs : ℕ
  pub output : List ℕ

unfoldable pub runs_over : ℕ → ℕ → ℕ → List ℕ → List Run
runs_over half a b img = join (walk_over half img a b).runs

-- "output shorter than the runs": in bytes
unfoldable pub too_short : List ℕ → List Run → Bool
too_short out runs = ltb (length out) (16 * length runs)

-- "Bytes past the last run keep what they held."
unfoldable pub written : List ℕ → List Run → List ℕ
written out runs = patch out 0 (concat_map run_bytes runs)

unfoldable pub listing_status : ℕ → ℕ → ℕ → List ℕ → List ℕ → ℕ
listing_status half a b img out =
    first
    ((16, not (length_ok half img))
    ∷ (11, not (span_ok a b))
    ∷ (21, not (head_ok half img && (walk_over half img a b).fit))
    ∷ (15, too_short out (runs_over half a b img))
    ∷ [])

unfoldable pub listing : ℕ → ℕ → ℕ → List ℕ → List ℕ → Listed
listing half a b img out =
    let number = listing_status half a b img out in
    let runs = runs_over half a b img in
    record {
      status = number;
      runs = cond (eqb number 0) (length runs) 0;
      output = cond (eqb number 0) (written out runs) out;
    }

-- Audit

pub record Audited : Type 0 where
  pub status : ℕ
  pub scratch : List ℕ

module _ (bytes_for : ℕ → ℕ) where
  -- the rows before it goes to work on its image
  unfoldable pub audit_input_rows : ℕ → List ℕ → List ℕ → List Row
  audit_input_rows half img scratch =
      (16, not (length_ok half img)) ∷ (17, not (scratch_ok bytes_for (pages_in half img) scratch)) ∷ []

  unfoldable pub audit : ℕ → List ℕ → List ℕ → Audited
  audit half img scratch =
      record {
        status = first (audit_input_rows half img scratch ++ ((21, not (sound half img)) ∷ []));
        scratch = scratch_after bytes_for (audit_input_rows half img scratch) (pages_in half img) scratch;
      }

-- Rebuild: document 02, (iii)

pub record Rebuilt : Type 0 where
  pub status : ℕ
  pub target : List ℕ
  pub scratch : List ℕ

-- "The full listing is that over [0, END)."
unfoldable pub full_runs : ℕ → List ℕ → List Run
full_runs half img = runs_over half 0 END img

-- every byte of the target of an accepted rebuild, by its number of pages: "the runs of the full listing become the leaf entries"; "kind,
-- window and changes are kept"
unfoldable pub rebuilt_bytes : ℕ → List ℕ → ℕ → List ℕ
rebuilt_bytes half source pages =
    let h = head half source in
    image_bytes half (tight half pages h.kind h.window h.changes (full_runs half source))

-- "Errors: 16, 17, 21 (not sound) of the source first, then 16 of the target (scratch 0), 24 if n is too small": those behind 16 and 17. Of
-- the target its length alone is looked at.
abbrev pub rebuild_state_rows : ℕ → List ℕ → List ℕ → List Row
rebuild_state_rows half source target =
    (21, not (sound_before half source))
    ∷ (16, not (length_ok half target))
    ∷ (24, too_small half (pages_in half target) (length (full_runs half source)))
    ∷ []

module _ (bytes_for : ℕ → ℕ) where
  -- "16, 17 .. of the source first": the rows before it goes to work are an audit's
  unfoldable pub rebuild_status : ℕ → List ℕ → List ℕ → List ℕ → ℕ
  rebuild_status half source target scratch =
      first (audit_input_rows bytes_for half source scratch ++ rebuild_state_rows half source target)

  unfoldable pub rebuild : ℕ → List ℕ → List ℕ → List ℕ → Rebuilt
  rebuild half source target scratch =
      let number = rebuild_status half source target scratch in
      let done = rebuilt_bytes half source (pages_in half target) in
      record {
        status = number;
        target = cond (eqb number 0) done target;
        scratch = scratch_after bytes_for (audit_input_rows bytes_for half source scratch) (pages_in half source) scratch;
      }
