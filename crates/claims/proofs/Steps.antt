-- Every call is a step of a list. Assumes nothing.
use Prim.Native.Nat.{ℕ, ◌/◌}
use mathlib.Core.Path.{◌≡◌, refl, ap, ◌∙◌, subst⁻¹}
use mathlib.Core.Logic.{◌≢◌}
use mathlib.Core.Bool.{cond}
use mathlib.Core.List.{List, [], ◌∷◌}
use native.Mathlib.Decide.{ℕ_discrete}
use lib.IntN.{ℤ}
use borrow.Author.Tests.{ne_eqb}
use Rattle.lists.proofs.Choices.{cond_one}
use Rattle.page.specs.Layout.{capacity_ok}
use Rattle.image.specs.Images.{half_of, pages_in, image_bytes, fresh}
use Rattle.calls.specs.Refusals.{borrowed}
use Rattle.calls.specs.Changes.{Side, Change}
use Rattle.calls.specs.Calls.{Formatted, Booked, Rebuilt, format, changed, book, rebuilt_bytes, rebuild}
use Rattle.calls.specs.Index.{index_format, index_book, index_rebuild}
use Rattle.claims.specs.Trace.{Step, kept, accepted, formatted, formatted_before, rebuilt, change_made, Steps}
use Rattle.calls.proofs.Judged.{by_judge}

-- a call that left the image as it was
pub stays : {img after : List ℕ} → after ≡ img → Step img [] after
stays {img} e = subst⁻¹ (λ x. Step img [] x) e kept

-- and a step without a change did
pub stayed : {img after : List ℕ} → Step img [] after → after ≡ img
stayed kept = refl

-- ---- what is refused leaves the image

abbrev pub Keeps : List ℕ → ℕ → List ℕ → Type 0
Keeps img number after = number ≢ 0 → after ≡ img

pub book_keeps : (half : ℕ) (side : Side) (v : ℤ) (s e : ℕ) (img scratch : List ℕ)
    → Keeps img (book borrowed half side v s e img scratch).status (book borrowed half side v s e img scratch).image
unfolding book
book_keeps half side v s e img scratch n =
    ap (λ x. cond x (changed half side v s e img) img) (ne_eqb (book borrowed half side v s e img scratch).status 0 n)

pub index_book_keeps : (side : Side) (v : ℤ) (s e : ℕ) (img scratch : List ℕ) → (index_book side v s e img scratch).status ≢ 0
    → (index_book side v s e img scratch).image ≡ img
unfolding index_book
index_book_keeps side v s e img scratch =
    by_judge _ (λ half. book borrowed half side v s e img scratch) img (λ (b : Booked). Keeps img b.status b.image)
    (λ g. book_keeps (half_of img) side v s e img scratch) (λ r n. refl)

format_keeps : (half kind window field : ℕ) (img : List ℕ)
    → Keeps img (format half kind window field img).status (format half kind window field img).image
unfolding format
format_keeps half kind window field img n =
    ap (λ x. cond x (image_bytes half (fresh (pages_in half img) kind window field)) img)
    (ne_eqb (format half kind window field img).status 0 n)

pub index_format_keeps : (kind window k : ℕ) (img : List ℕ) → (index_format kind window k img).status ≢ 0
    → (index_format kind window k img).image ≡ img
unfolding index_format
index_format_keeps kind window k img =
    cond_one (λ (f : Formatted). Keeps img f.status f.image) (capacity_ok k) (λ g. format_keeps (k / 2) kind window k img) (λ r n. refl)

rebuild_keeps : (half : ℕ) (source target scratch : List ℕ)
    → Keeps target (rebuild borrowed half source target scratch).status (rebuild borrowed half source target scratch).target
unfolding rebuild
rebuild_keeps half source target scratch n =
    ap (λ x. cond x (rebuilt_bytes half source (pages_in half target)) target)
    (ne_eqb (rebuild borrowed half source target scratch).status 0 n)

pub index_rebuild_keeps : (source target scratch : List ℕ) → (index_rebuild source target scratch).status ≢ 0
    → (index_rebuild source target scratch).target ≡ target
unfolding index_rebuild
index_rebuild_keeps source target scratch =
    by_judge _ (λ half. rebuild borrowed half source target scratch) source (λ (b : Rebuilt). Keeps target b.status b.target)
    (λ g. rebuild_keeps (half_of source) source target scratch) (λ r n. refl)

-- ---- the steps

module _ (side : Side) (v : ℤ) (s e : ℕ) (img scratch : List ℕ) (r : ℕ) (after left : List ℕ)
    (p : record { status = r; image = after; scratch = left } ≡ index_book side v s e img scratch) where
  abbrev change : Change
  change = record { side = side; v = v; s = s; e = e }

  refused_booking : r ≢ 0 → after ≡ img
  refused_booking n =
      ap (λ (b : Booked). b.image) p
      ∙ index_book_keeps side v s e img scratch (λ z. n (ap (λ (b : Booked). b.status) p ∙ z))

  pub booking_step : Step img (change_made r change) after
  unfolding change_made
  booking_step = go (ℕ_discrete r 0)
    where
      go : Dec (r ≡ 0) → Step img (change_made r change) after
      go (yes z) = subst⁻¹ (λ n. Step img (change_made n change) after) z (accepted scratch (rw z at p))
      go (no n) = subst⁻¹ (λ x. Step img (cond x (change ∷ []) []) after) (ne_eqb r 0 n) (stays (refused_booking n))

refused_format : (kind window k : ℕ) (img : List ℕ) (r : ℕ) (after : List ℕ)
    → record { status = r; image = after } ≡ index_format kind window k img
    → r ≢ 0
    → after ≡ img
refused_format kind window k img r after p n =
    ap (λ (f : Formatted). f.image) p
    ∙ index_format_keeps kind window k img (λ z. n (ap (λ (f : Formatted). f.status) p ∙ z))

refused_rebuild : (source target scratch : List ℕ) (r : ℕ) (after left : List ℕ)
    → record { status = r; target = after; scratch = left } ≡ index_rebuild source target scratch
    → r ≢ 0
    → after ≡ target
refused_rebuild source target scratch r after left p n =
    ap (λ (b : Rebuilt). b.target) p
    ∙ index_rebuild_keeps source target scratch (λ z. n (ap (λ (b : Rebuilt). b.status) p ∙ z))

pub steps : Steps
steps =
    record {
      of_booking = booking_step;
      of_format = λ kind window k img after p. formatted img p;
      of_format_before = λ kind window img after p. formatted_before img p;
      of_refused_format = λ kind window k img r after p n. stays (refused_format kind window k img r after p n);
      of_rebuild = λ source target scratch after left T p. rebuilt target scratch T p;
      of_refused_rebuild = λ source target scratch r after left p n. stays (refused_rebuild source target scratch r after left p n);
    }
