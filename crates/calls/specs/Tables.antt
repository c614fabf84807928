-- Document 01, "Turned back by the input" and "Turned back by the state", as propositions: when each row turns a call back, said of what
-- the call is handed and apart from the rows by which the calls are defined; and that every call goes by them. What a sound image and a fit
-- page are, which runs a walk finds, which pages the cuts take and how many a tight image has are the definitions' own. Assumes nothing.
use Rattle.std.specs.Prelude.{ℕ, ◌+◌, ◌*◌, ◌-◌, ◌/◌, ◌%◌, ◌<◌, ◌≤◌, ◌≡◌, ◌≢◌, ◌⊎◌, ◌↔◌, true, false, length, ℤ, nat_abs}
use mathlib.Core.List.{List, [], ◌∷◌, Memᴰ}
use Rattle.rule.specs.Time.{END, effect_end}
use Rattle.fields.specs.Numbers.{u32_at}
use Rattle.page.specs.declared.Head.{Head}
use Rattle.page.specs.Layout.{page_size, head_of}
use Rattle.page.specs.Fit.{head_fit}
use Rattle.image.specs.Images.{Image, half_of, page_at, pages_in, image_of}
use Rattle.image.specs.Sound.{sound_before, sound}
use Rattle.image.specs.Listing.{walk_over, join}
use Rattle.image.specs.Trail.{Visit, finds_fit, EndsUnfit, instant_trail, listing_trail}
use Rattle.tight.specs.Tight.{pages_used}
use Rattle.steps.specs.Supply.{pages_taken}
use Rattle.steps.specs.Change.{cuts}
use Rattle.calls.specs.Changes.{Side, withdrawing}
use Rattle.calls.specs.Index.{index_format, format_before, index_book, index_instant, index_average, index_listing, index_audit, index_rebuild}

infix 1 ◌when◌
-- A row as it stands for a call: its status, and when it turns the call back.
pub record Case : Type 1 where
  pub status : ℕ
  pub holds : Type 0

abbrev pub ◌when◌ : ℕ → Type 0 → Case
number when holds = record { status = number; holds = holds }

-- r is the status of a case that holds, and none ahead of it does; where none holds, "An accepted call returns 0"
unfoldable pub Returned : List Case → ℕ → Type 0
Returned [] r = r ≡ 0
Returned (c ∷ cs) r = (c.holds × (r ≡ c.status)) ⊎ ((¬ c.holds) × Returned cs r)

-- the status is r exactly where that is so
unfoldable pub Exactly : List Case → ℕ → Type 0
Exactly cs number = (r : ℕ) → (number ≡ r) ↔ Returned cs r

-- Document 02, (xi): "An odd K or one outside its range"; "an even number from 4 to 24"
unfoldable pub NoCapacity : ℕ → Type 0
NoCapacity k = (k % 2 ≢ 0) ⊎ ((k < 4) ⊎ (24 < k))

-- "a bad K": the field, "stored in the head after changes", is such a number and not FF FF FF FF
unfoldable pub BadField : List ℕ → Type 0
BadField img = (u32_at img 36 ≢ 4294967295) × NoCapacity (u32_at img 36)

-- 16: "image length not 512 × n for an n in range"; "n from 2 to 1,024"; "a page has 32 + 20 × K bytes"
pub record WholePages (half : ℕ) (img : List ℕ) : Type 0 where
  pub n : ℕ
  pub long : length img ≡ page_size half * n
  pub least : 2 ≤ n
  pub most : n ≤ 1024

-- the head is fit for an image of that length
unfoldable pub FitHead : ℕ → List ℕ → Type 0
FitHead half img = head_fit half (pages_in half img) (page_at half img 0) ≡ true

-- 17, document 02, (vi): "17 now means shorter than that", than "n/8 bytes, rounded up": the scratch has fewer bits than there are pages
unfoldable pub FewerBits : ℕ → List ℕ → Type 0
FewerBits pages scratch = 8 * length scratch < pages

-- and in document 01: "scratch shorter than n bytes"
unfoldable pub FewerBytes : ℕ → List ℕ → Type 0
FewerBytes pages scratch = length scratch < pages

-- 11: "span with s ≥ e"; "A span [s, e) has s < e ≤ END."
unfoldable pub NoSpan : ℕ → ℕ → Type 0
NoSpan s e = (e ≤ s) ⊎ (END < e)

-- 14: "kind or window outside its range"; "(1 totals, 2 greatest, 3 least)", "from 0 to 1,000,000,000"
unfoldable pub NoKindOrWindow : ℕ → ℕ → Type 0
NoKindOrWindow kind window = ((kind < 1) ⊎ (3 < kind)) ⊎ (1000000000 < window)

-- 21: "instant, listing: a page it meets is unfit": the head, or a page that the walk looks at, in its context there
unfoldable pub MeetsUnfit : ℕ → List ℕ → List Visit → Type 0
MeetsUnfit half img looks =
    (¬ FitHead half img)
    ⊎ ((v : Visit) × Memᴰ v looks × (finds_fit half (head_of (page_at half img 0)) img v ≡ false))

-- 24: "A and B together take more pages than chain and pages from the high mark hold"
unfoldable pub TooFewPages : ℕ → ℕ → ℕ → Image → Type 0
TooFewPages half s e X = X.head.chain + (X.head.pages - X.head.mark) < pages_taken X (cuts half s e X)

-- 24 of a rebuild: "24 if n is too small", for the head and the pages of a tight image with the runs of the source's full listing
unfoldable pub TooSmall : ℕ → List ℕ → List ℕ → Type 0
TooSmall half source target = pages_in half target < 1 + pages_used half (length (join (walk_over half source 0 END).runs))

-- Document 01's own format: "The order is 16, 17, 11 or 12, 13, 14, .."
unfoldable pub format_cases_before : ℕ → ℕ → ℕ → List ℕ → List Case
format_cases_before half kind window img = (16 when ¬ WholePages half img) ∷ (14 when NoKindOrWindow kind window) ∷ []

-- "An odd K or one outside its range gives 14 at format, ahead of 16."
unfoldable pub format_cases : ℕ → ℕ → ℕ → List ℕ → List Case
format_cases kind window k img = (14 when NoCapacity k) ∷ format_cases_before (k / 2) kind window img

-- "In an image K is read before the length is judged: under 40 bytes gives 16, a bad K 21 ahead of 16": ahead of the cases of every other
-- call
unfoldable pub judge_cases : List ℕ → List Case → List Case
judge_cases img cases = (16 when length img < 40) ∷ (21 when BadField img) ∷ cases

-- Each call's cases behind these, by half the capacity. "The order is 16, 17, 11 or 12, 13, 14, 21, 22, 23, 24, and 15 last."
module _ (half : ℕ) where
  -- `Short` tells a scratch that is too short. 13: "value outside its range"; "A value is −1,000,000 to 1,000,000." 21: "audit, change:
  -- image not sound". 22: "withdrawal, kind 2 or 3": a sound image has no other kind but 1. 23: "changes is 1,000,000,000".
  unfoldable pub book_cases : (ℕ → List ℕ → Type 0) → Side → ℤ → ℕ → ℕ → List ℕ → List ℕ → List Case
  book_cases Short side v s e img scratch =
      let h : Head = head_of (page_at half img 0) in
      (16 when ¬ WholePages half img)
      ∷ (17 when Short (pages_in half img) scratch)
      ∷ (11 when NoSpan s e)
      ∷ (13 when 1000000 < nat_abs v)
      ∷ (21 when sound half img ≡ false)
      ∷ (22 when (side ≡ withdrawing) × (h.kind ≢ 1))
      ∷ (23 when h.changes ≡ 1000000000)
      ∷ (24 when TooFewPages half s (effect_end e h.window) (image_of half img))
      ∷ []

  -- 12: "instant END"
  unfoldable pub instant_cases : ℕ → List ℕ → List Case
  instant_cases t img =
      (16 when ¬ WholePages half img)
      ∷ (12 when END ≤ t)
      ∷ (21 when MeetsUnfit half img (instant_trail half t img))
      ∷ []

  -- 15: "output shorter than the runs"; "16 bytes each"
  unfoldable pub listing_cases : ℕ → ℕ → List ℕ → List ℕ → List Case
  listing_cases a b img out =
      (16 when ¬ WholePages half img)
      ∷ (11 when NoSpan a b)
      ∷ (21 when MeetsUnfit half img (listing_trail half a b img))
      ∷ (15 when length out < 16 * length (join (walk_over half img a b).runs))
      ∷ []

  unfoldable pub audit_cases : (ℕ → List ℕ → Type 0) → List ℕ → List ℕ → List Case
  audit_cases Short img scratch =
      (16 when ¬ WholePages half img)
      ∷ (17 when Short (pages_in half img) scratch)
      ∷ (21 when sound half img ≡ false)
      ∷ []

  -- "Errors: 16, 17, 21 (not sound) of the source first, then 16 of the target (scratch 0), 24 if n is too small"
  unfoldable pub rebuild_cases : (ℕ → List ℕ → Type 0) → List ℕ → List ℕ → List ℕ → List Case
  rebuild_cases Short source target scratch =
      (16 when ¬ WholePages half source)
      ∷ (17 when Short (pages_in half source) scratch)
      ∷ (21 when sound_before half source ≡ false)
      ∷ (16 when ¬ WholePages half target)
      ∷ (24 when TooSmall half source target)
      ∷ []

  -- "It reports the tree pages read: the height if answered, or if a page is unfit, the pages up to and including it (0 for the
  -- head and at other refusals)": as many as it looks at. That this is the height if answered is part of Demand-1.
  pub record PagesTold (t : ℕ) (img : List ℕ) (number pages : ℕ) : Type 0 where
    pub looks : WholePages half img → t < END → FitHead half img → pages ≡ length (instant_trail half t img)
    pub no_looks : (¬ WholePages half img) ⊎ (END ≤ t) ⊎ (¬ FitHead half img) → pages ≡ 0
    -- document 02, (xi): a bad capacity is found before any page is read
    pub bad_field : BadField img → pages ≡ 0
    pub up_to_it : number ≡ 21 → FitHead half img → EndsUnfit half (head_of (page_at half img 0)) img (instant_trail half t img)

-- "what document 01 turns back is refused by its number there", and nothing else is refused: of every call on every input
pub record TurnedBack : Type 0 where
  pub of_format :
      (kind window k : ℕ) (img : List ℕ) → Exactly (format_cases kind window k img) (index_format kind window k img).status
  -- an image of before there was the capacity's field: "pages of 512 bytes"
  pub of_format_before :
      (kind window : ℕ) (img : List ℕ) → Exactly (format_cases_before 12 kind window img) (format_before kind window img).status
  pub of_booking :
      (side : Side) (v : ℤ) (s e : ℕ) (img scratch : List ℕ)
      → Exactly (judge_cases img (book_cases (half_of img) FewerBits side v s e img scratch)) (index_book side v s e img scratch).status
  pub of_instant : (t : ℕ) (img : List ℕ) → Exactly (judge_cases img (instant_cases (half_of img) t img)) (index_instant t img).status
  pub of_pages : (t : ℕ) (img : List ℕ) → PagesTold (half_of img) t img (index_instant t img).status (index_instant t img).pages
  pub of_average : (t : ℕ) (img : List ℕ) → Exactly (judge_cases img (instant_cases (half_of img) t img)) (index_average t img).status
  pub of_listing :
      (a b : ℕ) (img out : List ℕ)
      → Exactly (judge_cases img (listing_cases (half_of img) a b img out)) (index_listing a b img out).status
  pub of_audit :
      (img scratch : List ℕ)
      → Exactly (judge_cases img (audit_cases (half_of img) FewerBits img scratch)) (index_audit img scratch).status
  -- "A rebuild keeps K, judges the target's length by it"
  pub of_rebuild :
      (source target scratch : List ℕ)
      → Exactly (judge_cases source (rebuild_cases (half_of source) FewerBits source target scratch))
      (index_rebuild source target scratch).status
