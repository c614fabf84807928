-- What a call returns on an image that agrees with its book. Assumes nothing.
use Prim.Native.Nat.{ℕ, ◌≤◌, ◌<◌}
use mathlib.Core.Path.{◌≡◌, refl, ap, ◌∙◌}
use mathlib.Core.Logic.{◌⊎◌, inl, inr}
use mathlib.Core.Bool.{Bool, true, false, cond, not, ◌&&◌}
use mathlib.Core.List.{List, [], ◌∷◌}
use native.Mathlib.Omega.{arith}
use lib.Dec.{eqb}
use lib.IntN.{ℤ}
use lib.ListN.{length}
use borrow.Author.Tests.{le-leb}
use Rattle.rule.specs.declared.Average.TheVariants.{Nothing}
use Rattle.rule.specs.Time.{END, span_ok, value_ok, effect_end}
use Rattle.rule.specs.Pairs.{none}
use Rattle.rule.specs.Averages.{average}
use Rattle.page.specs.Fit.{most_changes}
use Rattle.image.specs.Images.{half_of, pages_in, length_ok, image_of, image_bytes}
use Rattle.image.specs.Sound.{sound_before}
use Rattle.soundness.proofs.Sound.{sound_old}
use Rattle.image.specs.Instant.{look_up}
use Rattle.image.specs.Listing.{Run}
use Rattle.tight.specs.Tight.{tight, too_small}
use Rattle.steps.specs.Change.{lacks_pages}
use Rattle.calls.specs.Changes.{Side, withdraws}
use Rattle.calls.specs.Refusals.{first, borrowed, scratch_ok, cleared, scratch_after}
use Rattle.calls.specs.Calls.{head, book_input_rows, book_status, book, instant_status, instant, average_at, audit_input_rows, audit}
use Rattle.calls.specs.Calls.{Instant, listing, full_runs, rebuilt_bytes, rebuild_status, rebuild}
use Rattle.calls.specs.Index.{index_book, index_instant, index_average, index_listing, index_audit, index_rebuild}
use Rattle.book.specs.Book.{Book, book_pair, runs_of, listing_of}
use Rattle.claims.specs.Demands.{fixed_status, rebuild_of, AsTheBook}
use Rattle.soundness.proofs.Sound.{sound_whole}
use Rattle.answers.proofs.Sound.{sound_status, sound_pair, sound_listing}
use Rattle.answers.proofs.Own.{Own, sound_own, own_book, own_instant, own_average, own_listing, own_audit, own_rebuild}
use Rattle.answers.proofs.Tiles.{runs_of_same}
use Rattle.answers.proofs.Full.{full_is}
use Rattle.demands.proofs.Book.Runs.{listing_same}
use Rattle.calls.proofs.Rows.{first_without, first_off, first_on}
use Rattle.demands.proofs.Invariant.{TraceInvariant}

-- ---- a booking: 16 and 21 don't turn it back

numbers : {b16 b21 b22 b23 : Bool} (b17 b11 b13 c22 c23 b24 : Bool) → b16 ≡ false → b21 ≡ false → b22 ≡ c22 → b23 ≡ c23
    → let number = first ((16, b16) ∷ (17, b17) ∷ (11, b11) ∷ (13, b13) ∷ (21, b21) ∷ (22, b22) ∷ (23, b23) ∷ (24, b24) ∷ []) in
    let fixed = first ((17, b17) ∷ (11, b11) ∷ (13, b13) ∷ (22, c22) ∷ (23, c23) ∷ []) in
    (number ≡ fixed) ⊎ ((fixed ≡ 0) × (number ≡ 24))
unfolding first
numbers b17 b11 b13 c22 c23 b24 e16 e21 e22 e23 = rw (e16, e21, e22, e23) (go b17 b11 b13 c22 c23 b24)
  where
    number : Bool → Bool → Bool → Bool → Bool → Bool → ℕ
    number x17 x11 x13 x22 x23 x24 = first ((17, x17) ∷ (11, x11) ∷ (13, x13) ∷ (22, x22) ∷ (23, x23) ∷ (24, x24) ∷ [])

    fixed : Bool → Bool → Bool → Bool → Bool → ℕ
    fixed x17 x11 x13 x22 x23 = first ((17, x17) ∷ (11, x11) ∷ (13, x13) ∷ (22, x22) ∷ (23, x23) ∷ [])

    go : (x17 x11 x13 x22 x23 x24 : Bool)
        → (number x17 x11 x13 x22 x23 x24 ≡ fixed x17 x11 x13 x22 x23)
        ⊎ ((fixed x17 x11 x13 x22 x23 ≡ 0) × (number x17 x11 x13 x22 x23 x24 ≡ 24))
    go true x11 x13 x22 x23 x24 = inl refl
    go false true x13 x22 x23 x24 = inl refl
    go false false true x22 x23 x24 = inl refl
    go false false false true x23 x24 = inl refl
    go false false false false true x24 = inl refl
    go false false false false false true = inr (refl, refl)
    go false false false false false false = inl refl

-- ---- a rebuild: neither do they

rebuilding : {b16 b21 : Bool} (b17 c16 b24 : Bool) → b16 ≡ false → b21 ≡ false
    → first ((16, b16) ∷ (17, b17) ∷ (21, b21) ∷ (16, c16) ∷ (24, b24) ∷ []) ≡ first ((17, b17) ∷ (16, c16) ∷ (24, b24) ∷ [])
rebuilding b17 c16 b24 e16 e21 = first_off 16 _ e16 ∙ first_without ((17, b17) ∷ []) 21 _ e21

-- ---- END, and what lies past it

pub instant_end : (half : ℕ) (img : List ℕ) → sound_before half img ≡ true → (t : ℕ) → END ≤ t
    → ((instant half t img).status ≡ 12) × ((instant half t img).pair ≡ none)
unfolding instant
instant_end half img fits t l =
    let n : instant_status half t img ≡ 12 =
    unfold instant_status in first_off 16 _ (ap not (sound_whole half img fits)) ∙ first_on 12 _ (le-leb END t l) in
    (n, ap (λ k. cond (eqb k 0) (look_up half img t).pair none) n)

module _ {half : ℕ} {img : List ℕ} {B : Book} (K : TraceInvariant half img B) where
  passes_16 : not (length_ok half img) ≡ false
  passes_16 = ap not (sound_whole half img (sound_old half img K.sound))

  booking_is : (side : Side) (v : ℤ) (s e : ℕ) (scratch : List ℕ)
      → let number = (book borrowed half side v s e img scratch).status in
      let fixed = fixed_status (pages_in half img) side v s e scratch B in
      (number ≡ fixed) ⊎ ((fixed ≡ 0) × (number ≡ 24))
  unfolding book book_status book_input_rows fixed_status
  booking_is side v s e scratch =
      numbers (not (scratch_ok borrowed (pages_in half img) scratch)) (not (span_ok s e)) (not (value_ok v))
      (withdraws side && not (eqb B.kind 1))
      (eqb (length B.items) most_changes) (lacks_pages half s (effect_end e (head half img).window) (image_of half img))
      passes_16 (ap not K.sound) (ap (λ k. withdraws side && not (eqb k 1)) K.kind) (ap (λ n. eqb n most_changes) K.changes)

  -- ---- an instant, and an average

  instant_is : (t : ℕ) → t < END → ((instant half t img).status ≡ 0) × ((instant half t img).pair ≡ book_pair B t)
  instant_is t l = (sound_status half img (sound_old half img K.sound) t l, sound_pair half img (sound_old half img K.sound) t l ∙ K.pairs t l)

  average_end : (t : ℕ) → END ≤ t → average_at half t img ≡ record { status = 12; average = Nothing }
  unfolding average_at
  average_end t l =
      let n = (instant_end half img (sound_old half img K.sound) t l).0 in
      λ i.
      record {
        status = n i;
        average = cond (eqb (n i) 0) (average (head half img).kind (instant half t img).pair) Nothing;
      }

  average_is : (t : ℕ) → t < END → average_at half t img ≡ record { status = 0; average = average B.kind (book_pair B t) }
  unfolding average_at
  average_is t l =
      let r = instant_is t l in
      λ i.
      record {
        status = r.0 i;
        average = cond (eqb (r.0 i) 0) (average (K.kind i) (r.1 i)) Nothing;
      }

  -- ---- an audit

  audit_is : (scratch : List ℕ)
      → (audit borrowed half img scratch).status ≡ first ((17, not (scratch_ok borrowed (pages_in half img) scratch)) ∷ [])
  unfolding audit audit_input_rows
  audit_is scratch =
      first_off 16 _ passes_16
      ∙ first_without ((17, not (scratch_ok borrowed (pages_in half img) scratch)) ∷ []) 21 [] (ap not K.sound)

  -- ---- a listing

  listing_is : (a b : ℕ) (out : List ℕ) → listing half a b img out ≡ listing_of (book_pair B) a b out
  listing_is a b out =
      sound_listing half img (sound_old half img K.sound) a b out
      ∙ listing_same (λ t. (instant half t img).pair) (book_pair B) a b out (λ t l h below. (instant_is t below).1)

  -- ---- a rebuild

  runs_are : full_runs half img ≡ runs_of (book_pair B) 0 END
  runs_are =
      full_is half img (sound_old half img K.sound)
      ∙ runs_of_same (λ t. (look_up half img t).pair) (book_pair B) 0 END (omega arith) (λ t l g. K.pairs t g)

  rebuild_is : (target scratch : List ℕ) → rebuild borrowed half img target scratch ≡ rebuild_of half (pages_in half img) B target scratch
  unfolding rebuild rebuild_status rebuilt_bytes rebuild_of audit_input_rows scratch_after
  rebuild_is target scratch =
      let n : ℕ = pages_in half target in
      let short : Bool = not (scratch_ok borrowed (pages_in half img) scratch) in
      let whole : Bool = not (length_ok half target) in
      let number =
      rebuilding short whole (too_small half n (length (full_runs half img))) passes_16 (ap not (sound_old half img K.sound))
      ∙ ap (λ (rs : List Run). first ((17, short) ∷ (16, whole) ∷ (24, too_small half n (length rs)) ∷ [])) runs_are in
      let early = first_off 16 ((17, short) ∷ []) passes_16 in
      λ i.
      record {
        status = number i;
        target = cond (eqb (number i) 0) (image_bytes half (tight half n (K.kind i) (K.window i) (K.changes i) (runs_are i))) target;
        scratch = cond (eqb (early i) 0) (cleared borrowed (pages_in half img) scratch) scratch;
      }

  -- ---- all of them, by the capacity that the image names

  abbrev o : Own half img
  o = sound_own half img (sound_old half img K.sound)

  pub instant_told : (t : ℕ) → t < END → ((index_instant t img).status ≡ 0) × ((index_instant t img).pair ≡ book_pair B t)
  instant_told t l =
      let r = instant_is t l in
      (ap (λ (a : Instant). a.status) (own_instant o t) ∙ r.0, ap (λ (a : Instant). a.pair) (own_instant o t) ∙ r.1)

  pub average_told : (t : ℕ) → t < END → index_average t img ≡ record { status = 0; average = average B.kind (book_pair B t) }
  average_told t l = own_average o t ∙ average_is t l

  pub listing_told : (a b : ℕ) (out : List ℕ) → index_listing a b img out ≡ listing_of (book_pair B) a b out
  listing_told a b out = own_listing o a b out ∙ listing_is a b out

  booking_told : (side : Side) (v : ℤ) (s e : ℕ) (scratch : List ℕ)
      → let number = (index_book side v s e img scratch).status in
      let fixed = fixed_status (pages_in (half_of img) img) side v s e scratch B in
      (number ≡ fixed) ⊎ ((fixed ≡ 0) × (number ≡ 24))
  booking_told side v s e scratch =
      rw (own_book o side v s e scratch, o.named.is) (booking_is side v s e scratch)

  audit_told : (scratch : List ℕ)
      → (index_audit img scratch).status ≡ first ((17, not (scratch_ok borrowed (pages_in (half_of img) img) scratch)) ∷ [])
  audit_told scratch = rw (own_audit o scratch, o.named.is) (audit_is scratch)

  rebuild_told : (target scratch : List ℕ)
      → index_rebuild img target scratch ≡ rebuild_of (half_of img) (pages_in (half_of img) img) B target scratch
  rebuild_told target scratch = rw o.named.is (own_rebuild o target scratch ∙ rebuild_is target scratch)

  pub as_the_book : AsTheBook img B
  as_the_book =
      record {
        instant_end = λ t l. ap (λ (a : Instant). a.status) (own_instant o t) ∙ (instant_end half img (sound_old half img K.sound) t l).0;
        instants = instant_told;
        average_end = λ t l. own_average o t ∙ average_end t l;
        averages = average_told;
        listings = listing_told;
        audits = audit_told;
        bookings = booking_told;
        rebuilds = rebuild_told;
      }
