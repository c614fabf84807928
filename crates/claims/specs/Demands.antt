-- The three demands, over the calls as Index.antt of `calls` defines them, at every capacity, and the lists that Trace.antt makes of them:
-- what each function of the index promises is that it does what its definition there does, so what holds of the definitions holds of the
-- index. Assumes nothing.
use Rattle.std.specs.Prelude.{ℕ, ◌≤◌, ◌<◌, ◌≡◌, ◌≢◌, ◌⊎◌, true, cond, not, ◌&&◌, eqb, List, [], ◌∷◌, ◌++◌, length, ℤ}
use Rattle.rule.specs.declared.Average.TheVariants.{Nothing, Beyond}
use Rattle.rule.specs.Time.{END, span_ok, value_ok}
use Rattle.rule.specs.Pairs.{none}
use Rattle.rule.specs.Averages.{average}
use Rattle.fields.specs.Bytes.{Bytes}
use Rattle.page.specs.Fit.{most_changes}
use Rattle.image.specs.Images.{capacity_field, half_of, pages_in, length_ok, image_bytes}
use Rattle.image.specs.Sound.{sound}
use Rattle.tight.specs.Tight.{tight, too_small}
use Rattle.calls.specs.Refusals.{Row, first, borrowed, scratch_ok, scratch_after}
use Rattle.calls.specs.Changes.{Side, entering, withdrawing, withdraws, Change}
use Rattle.calls.specs.Calls.{Rebuilt, head}
use Rattle.calls.specs.Index.{index_format, index_book, index_instant, index_average, index_listing, index_audit, index_rebuild}
use Rattle.calls.specs.Tables.{TurnedBack}
use Rattle.calls.specs.Scratch.{LeftAt, LeftByRebuild}
use Rattle.book.specs.Book.{Book, entered, book_of, book_pair, runs_of, listing_of}
use Rattle.book.specs.Aggregate.{aggregate, Matched, live_from}
use Rattle.claims.specs.Trace.{Trace, Throughout, change_made, Steps}
use Rattle.claims.specs.Accepted.{EveryChange}
use Rattle.claims.specs.Until.{UntilWhen}
use Rattle.claims.specs.Rebuild.{EveryRebuild}

-- Demand 1. "A caller may hand any public call any image, span, value or output buffer, unchecked; the call returns, and what
-- document 01 turns back is refused by its number there, with image and output as before." That a call returns is part of every
-- function's proof; that its status is that of the first row that turns it back is `TurnedBack` (Tables.antt of `calls`). What is left to
-- say: "A refusal returns its number and zeros (instant: the pages read too). Image and output keep their bytes".
pub record Demand1 : Type 0 where
  pub of_format :
      (kind window k : ℕ) (img : List ℕ) → (index_format kind window k img).status ≢ 0 → (index_format kind window k img).image ≡ img
  pub of_booking :
      (side : Side) (v : ℤ) (s e : ℕ) (img scratch : List ℕ)
      → (index_book side v s e img scratch).status ≢ 0
      → (index_book side v s e img scratch).image ≡ img
  pub of_instant :
      (t : ℕ) (img : List ℕ)
      → (index_instant t img).status ≢ 0
      → ((index_instant t img).pair ≡ none) × ((index_instant t img).start ≡ 0) × ((index_instant t img).end ≡ 0)
  pub of_average : (t : ℕ) (img : List ℕ) → (index_average t img).status ≢ 0 → (index_average t img).average ≡ Nothing
  pub of_listing :
      (a b : ℕ) (img out : List ℕ)
      → (index_listing a b img out).status ≢ 0
      → ((index_listing a b img out).output ≡ out) × ((index_listing a b img out).runs ≡ 0)
  -- document 02, (iii): a rebuild that is refused, for its source or its target, has written nothing of the target; the source is only read
  pub of_rebuild :
      (source target scratch : List ℕ)
      → (index_rebuild source target scratch).status ≢ 0
      → (index_rebuild source target scratch).target ≡ target
  -- "scratch is untouched at 16 and 17, also at 11 and 13, else its n bytes are 0": by document 02, (vi), those borrowed
  pub of_scratch :
      (side : Side) (v : ℤ) (s e : ℕ) (img scratch : List ℕ)
      → LeftAt img scratch (index_book side v s e img scratch).status (index_book side v s e img scratch).scratch
      × LeftAt img scratch (index_audit img scratch).status (index_audit img scratch).scratch
  pub of_rebuild_scratch :
      (source target scratch : List ℕ) → LeftByRebuild source scratch (index_rebuild source target scratch).scratch
  -- "It reports the tree pages read: the height if answered, or if a page is unfit, the pages up to and including it (0 for the
  -- head and at other refusals)."
  pub of_pages :
      (t : ℕ) (img : List ℕ)
      → ((index_instant t img).status ≡ 0 → (index_instant t img).pages ≡ (head (half_of img) img).height)
      × ((index_instant t img).status ≢ 0 → (index_instant t img).status ≢ 21 → (index_instant t img).pages ≡ 0)
  -- no call on an image answers the average of a sum that no fit page can show
  pub of_beyond : (t : ℕ) (img : List ℕ) → (index_average t img).average ≢ Beyond

-- Demand 2. "On an image changed by these calls alone since format, every instant, span and fixed-window answer (sum, count,
-- average, greatest, least) is the aggregate that Yang and Widom define over the accepted bookings, a withdrawal counting as a
-- negative entry and averages rounded as document 01 says; every image that a change leaves is sound by document 01's page rules."
pub record Demand2 (kind window : ℕ) (img : List ℕ) (cs : List Change) : Type 0 where
  pub instants :
      (t : ℕ) → t < END
      → ((index_instant t img).status ≡ 0) × ((index_instant t img).pair ≡ aggregate kind window cs t)
  -- and it is the same from the start told up to the end told, the end left out: document 02, (viii)
  pub holding :
      (t u : ℕ) → t < END
      → (index_instant t img).start ≤ u → u < (index_instant t img).end
      → aggregate kind window cs u ≡ aggregate kind window cs t
  pub averages :
      (t : ℕ) → t < END
      → index_average t img ≡ record { status = 0; average = average kind (aggregate kind window cs t) }
  pub spans : (a b : ℕ) (out : List ℕ) → index_listing a b img out ≡ listing_of (aggregate kind window cs) a b out
  pub sound_after : sound (half_of img) img ≡ true
  -- "If every withdrawal matches an earlier entry not yet withdrawn, this is the aggregate over live bookings."
  pub live : Matched [] cs → (t : ℕ) → aggregate kind window cs t ≡ aggregate kind window (live_from [] cs) t

-- The status of a booking as far as document 01 fixes it without the image: only 24 turns on how the pages came to lie.
unfoldable pub fixed_status : ℕ → Side → ℤ → ℕ → ℕ → List ℕ → Book → ℕ
fixed_status pages side v s e scratch B =
    first
    ((17, not (scratch_ok borrowed pages scratch))
    ∷ (11, not (span_ok s e))
    ∷ (13, not (value_ok v))
    ∷ (22, withdraws side && not (eqb B.kind 1))
    ∷ (23, eqb (length B.items) most_changes)
    ∷ [])

-- Document 02, (iii): a rebuild of an image of so many pages, of that half, by its book alone: the runs of the full listing are the book's
-- over [0, END), and the changes are its items.
unfoldable pub rebuild_of : ℕ → ℕ → Book → List ℕ → List ℕ → Rebuilt
rebuild_of half pages B target scratch =
    let runs = runs_of (book_pair B) 0 END in
    let short : Row = (17, not (scratch_ok borrowed pages scratch)) in
    let small : Row = (24, too_small half (pages_in half target) (length runs)) in
    let number = first (short ∷ (16, not (length_ok half target)) ∷ small ∷ []) in
    let done = image_bytes half (tight half (pages_in half target) B.kind B.window (length B.items) runs) in
    record {
      status = number;
      target = cond (eqb number 0) done target;
      scratch = scratch_after borrowed (short ∷ []) pages scratch;
    }

-- What demand 3 claims of an image, B being the book as it then is: whichever call is made on it, with any arguments, returns what the
-- book says.
pub record AsTheBook (img : List ℕ) (B : Book) : Type 0 where
  -- "an instant call returns 12 at END, else 0 and the pair at t that the book then has"
  pub instant_end : (t : ℕ) → END ≤ t → (index_instant t img).status ≡ 12
  pub instants : (t : ℕ) → t < END → ((index_instant t img).status ≡ 0) × ((index_instant t img).pair ≡ book_pair B t)
  -- "The average's pair is taken by an instant call": the same numbers, at END with no average, else with that of the book's kind and pair
  pub average_end : (t : ℕ) → END ≤ t → index_average t img ≡ record { status = 12; average = Nothing }
  pub averages :
      (t : ℕ) → t < END → index_average t img ≡ record { status = 0; average = average B.kind (book_pair B t) }
  -- "a listing 11 if a ≥ b, else 15 if the output is shorter than the book's runs, else 0, their number, and an output that begins with
  -- them and keeps the rest"; and so the full one: "The full listing is that over [0, END)."
  pub listings : (a b : ℕ) (out : List ℕ) → index_listing a b img out ≡ listing_of (book_pair B) a b out
  -- "an audit 17 if its scratch is too short, else 0"
  pub audits :
      (scratch : List ℕ)
      → (index_audit img scratch).status ≡ first ((17, not (scratch_ok borrowed (pages_in (half_of img) img) scratch)) ∷ [])
  -- a booking the status that is fixed, but where the pages may be too few
  pub bookings :
      (side : Side) (v : ℤ) (s e : ℕ) (scratch : List ℕ)
      → let number = (index_book side v s e img scratch).status in
      let fixed = fixed_status (pages_in (half_of img) img) side v s e scratch B in
      (number ≡ fixed) ⊎ ((fixed ≡ 0) × (number ≡ 24))
  -- and a rebuild of it all that the book says, with every byte of target and scratch
  pub rebuilds :
      (target scratch : List ℕ)
      → index_rebuild img target scratch ≡ rebuild_of (half_of img) (pages_in (half_of img) img) B target scratch

-- Demand 3, the claim about the list. "For every list of calls on one image .. from a freshly formatted one, each instant's pair and
-- each listing on the way, and after it the full listing, are exactly those of the plain book in document 01, which keeps only the
-- accepted changes."
unfoldable pub Demand3List : {kind window field : ℕ} {img : List ℕ} {cs : List Change} → Trace kind window field img cs → Type 0
Demand3List {kind} {window} T = Throughout (λ img cs. AsTheBook img (book_of kind window cs)) T

-- One list in the order of another.
pub data Reordered : List Change → List Change → Type 0 where
  same : {xs : List Change} → Reordered xs xs
  next : {x : Change} {xs ys : List Change} → Reordered xs ys → Reordered (x ∷ xs) (x ∷ ys)
  swap : {x y : Change} {xs : List Change} → Reordered (x ∷ y ∷ xs) (y ∷ x ∷ xs)
  then : {xs ys zs : List Change} → Reordered xs ys → Reordered ys zs → Reordered xs zs

-- "A withdrawal matches an entry of the same v, s and e, whichever came first."
pub record Booking : Type 0 where
  pub v : ℤ
  pub s : ℕ
  pub e : ℕ

-- entries, each with its matching withdrawal
unfoldable pub couples : List Booking → List Change
couples [] = []
couples (b ∷ bs) =
    record { side = entering; v = b.v; s = b.s; e = b.e }
    ∷ record { side = withdrawing; v = b.v; s = b.s; e = b.e }
    ∷ couples bs

-- "the changes they accepted are the same in whatever order, or become so when entries are struck out with their matching
-- withdrawals": each list is, in some order, couples that may be struck out and what is left; what is left is the same
pub record SameChanges (xs ys : List Change) : Type 0 where
  pub struck_x : List Booking
  pub struck_y : List Booking
  pub left : List Change
  pub of_x : Reordered xs (couples struck_x ++ left)
  pub of_y : Reordered ys (couples struck_y ++ left)

-- Demand 3, the claim on one more change: "After every such list, one more accepted change alters no instant's pair outside its span
-- (lengthened by the window), and no byte of a page that its five steps in document 01 don't name." `EveryChange` (Accepted.antt) says so
-- of every image of bytes, the window being the one in its head; after a list the image is one, and kind and window are the format's.
pub record Headed (kind window field : ℕ) (img : List ℕ) (cs : List Change) : Type 0 where
  pub bytes : Bytes img
  pub kind_is : (head (half_of img) img).kind ≡ kind
  pub window_is : (head (half_of img) img).window ≡ window
  pub changes_are : (head (half_of img) img).changes ≡ length cs
  -- "a change keeps the field's bytes": a capacity stays as format wrote it, and FF stays FF until a rebuild writes the number
  pub field_is : capacity_field img ≡ field

-- The demands. The lists are those of Trace.antt, and every call is a step there: lists from a format of any capacity, lists from document
-- 01's own format, on images that have FF in the field, and lists that go on in the target of a rebuild.
pub record TheDemands : Type 0 where
  pub demand_1 : Demand1
  pub demand_1_statuses : TurnedBack
  pub until_when : UntilWhen
  pub every_rebuild : EveryRebuild
  pub steps : Steps
  -- "The book is fed .. each call's arguments and, of enter and withdraw, the number returned; never the image."
  pub fed :
      (kind window : ℕ) (cs : List Change) (r : ℕ) (c : Change)
      → book_of kind window (cs ++ change_made r c) ≡ entered r c.side c.v c.s c.e (book_of kind window cs)
  pub demand_2 : {kind window field : ℕ} {img : List ℕ} {cs : List Change} → Trace kind window field img cs → Demand2 kind window img cs
  pub demand_3_list : {kind window field : ℕ} {img : List ℕ} {cs : List Change} (T : Trace kind window field img cs) → Demand3List T
  -- "Any two images of the same kind and window, of whatever sizes and after whatever two such lists, have the same full listing if the
  -- changes they accepted are the same": whatever their capacities, too
  pub demand_3_two :
      {kind window field other_field : ℕ} {img other : List ℕ} {cs ds : List Change}
      → Trace kind window field img cs
      → Trace kind window other_field other ds
      → SameChanges cs ds
      → (out : List ℕ) → index_listing 0 END img out ≡ index_listing 0 END other out
  pub demand_3_one : EveryChange
  pub headed :
      {kind window field : ℕ} {img : List ℕ} {cs : List Change} → Trace kind window field img cs → Headed kind window field img cs
