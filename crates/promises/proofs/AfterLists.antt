-- A function that does what its definition does answers, after any list of calls, what the book says. Assumes nothing.
use Prim.Native.Nat.{ℕ}
use mathlib.Core.Path.{◌≡◌, ap, ◌∙◌, subst⁻¹}
use mathlib.Core.Logic.{◌⊎◌}
use mathlib.Core.List.{List}
use lib.IntN.{ℤ}
use Rattle.fields.specs.Bytes.{Bytes}
use Rattle.image.specs.Images.{half_of, pages_in}
use Rattle.calls.specs.Changes.{Side}
use Rattle.calls.specs.Calls.{Booked, Instant, Averaged, Audited}
use Rattle.calls.specs.Index.{index_book, index_instant, index_average, index_listing, index_audit, index_rebuild}
use Rattle.claims.specs.Accepted.{AcceptedChange}
use Rattle.claims.specs.Trace.{Step, change_made}
use Rattle.book.specs.Book.{book_of}
use Rattle.claims.specs.Demands.{fixed_status}
use Rattle.claims.proofs.Steps.{booking_step}
use Rattle.demands.proofs.Agree.{as_the_book}
use Rattle.demands.proofs.Traces.{reached}
use Rattle.luwhenoka.specs.declared.InstantAnswer.{InstantAnswer}
use Rattle.luwhenoka.specs.declared.AverageAnswer.{AverageAnswer}
use Rattle.luwhenoka.specs.declared.ListingAnswer.{ListingAnswer}
use Rattle.luwhenoka.specs.Answers.{pair_of, average_answer, listing_answer}
use Rattle.promises.specs.Changes.{EveryChangePromised}
use Rattle.promises.specs.AfterLists.{AfterLists, InstantAs, AverageAs, ListingAs, AuditAs, BookingAs, RebuildAs}
use Rattle.promises.proofs.Changes.{every_change_promised}

pub instant_as : (t : ℕ) (img : List ℕ) (r : InstantAnswer)
    → record { status = r.status; pair = pair_of r; start = r.start; end = r.end; pages = r.pages } ≡ index_instant t img
    → AfterLists img (InstantAs t r)
unfolding AfterLists
instant_as t img r p kind window field cs T =
    let b = as_the_book (reached T).kept in
    record {
      at_end = λ l. ap (λ (i : Instant). i.status) p ∙ b.instant_end t l;
      told = λ l. (ap (λ (i : Instant). i.status) p ∙ (b.instants t l).0, ap (λ (i : Instant). i.pair) p ∙ (b.instants t l).1);
    }

pub average_as : (t : ℕ) (img : List ℕ) (r : AverageAnswer)
    → r ≡ average_answer (index_average t img).status (index_average t img).average
    → AfterLists img (AverageAs t r)
unfolding AfterLists
average_as t img r p kind window field cs T =
    let b = as_the_book (reached T).kept in
    record {
      at_end = λ l. p ∙ ap (λ (a : Averaged). average_answer a.status a.average) (b.average_end t l);
      told = λ l. p ∙ ap (λ (a : Averaged). average_answer a.status a.average) (b.averages t l);
    }

pub listing_as : (a b : ℕ) (img out : List ℕ) (r : ListingAnswer) (after : List ℕ) → listing_answer r after ≡ index_listing a b img out
    → AfterLists img (ListingAs a b out r after)
unfolding AfterLists ListingAs
listing_as a b img out r after p kind window field cs T = p ∙ (as_the_book (reached T).kept).listings a b out

pub audit_as : (img scratch : List ℕ) (r : ℕ) (left : List ℕ) → record { status = r; scratch = left } ≡ index_audit img scratch
    → AfterLists img (AuditAs img scratch r)
unfolding AfterLists AuditAs
audit_as img scratch r left p kind window field cs T =
    ap (λ (a : Audited). a.status) p ∙ (as_the_book (reached T).kept).audits scratch

pub booking_as : (side : Side) (v : ℤ) (s e : ℕ) (img scratch : List ℕ) (r : ℕ) (after left : List ℕ)
    → record { status = r; image = after; scratch = left } ≡ index_book side v s e img scratch
    → AfterLists img (BookingAs side v s e img scratch r)
unfolding AfterLists BookingAs
booking_as side v s e img scratch r after left p kind window field cs T =
    subst⁻¹
    (λ n.
    (n ≡ fixed_status (pages_in (half_of img) img) side v s e scratch (book_of kind window cs))
    ⊎ ((fixed_status (pages_in (half_of img) img) side v s e scratch (book_of kind window cs) ≡ 0) × (n ≡ 24)))
    (ap (λ (b : Booked). b.status) p) ((as_the_book (reached T).kept).bookings side v s e scratch)

pub rebuild_as : (source target scratch : List ℕ) (r : ℕ) (after left : List ℕ)
    → record { status = r; target = after; scratch = left } ≡ index_rebuild source target scratch
    → AfterLists source (RebuildAs source target scratch r after left)
unfolding AfterLists RebuildAs
rebuild_as source target scratch r after left p kind window field cs T = p ∙ (as_the_book (reached T).kept).rebuilds target scratch

-- what a booking does is a step, leaves what every accepted change does, and answers as the book says
pub booking_promised : (side : Side) (v : ℤ) (s e : ℕ) (img scratch : List ℕ) (r : ℕ) (after left : List ℕ) → Bytes img
    → record { status = r; image = after; scratch = left } ≡ index_book side v s e img scratch
    → Step img (change_made r (record { side = side; v = v; s = s; e = e })) after
    × ((r ≡ 0 → AcceptedChange (half_of img) side v s e img after) × AfterLists img (BookingAs side v s e img scratch r))
unfolding EveryChangePromised
booking_promised side v s e img scratch r after left b p = (
  booking_step side v s e img scratch r after left p,
  (
    λ z. (every_change_promised side v s e img scratch after left b (rw z at p)).leaves,
    booking_as side v s e img scratch r after left p,
  ),
)
