-- The ways out of a booking. Assumes nothing.
use Prim.Native.Nat.{ℕ, ◌≤◌, ◌<◌}
use mathlib.Core.Path.{◌≡◌, refl, sym, ap, ◌∙◌}
use mathlib.Core.Logic.{◌≢◌}
use mathlib.Core.Bool.{Bool, true, false, cond, not, and-eq-true_iff}
use mathlib.Core.List.{List, [], ◌∷◌, ◌++◌}
use native.Mathlib.Omega.{arith}
use lib.Dec.{eqb}
use lib.IntN.{ℤ}
use borrow.Author.Tests.{ne_eqb, ltb-true}
use Rattle.rule.specs.Time.{span_ok, value_ok}
use Rattle.page.specs.declared.Head.{Head}
use Rattle.image.specs.Images.{pages_in, length_ok}
use Rattle.calls.specs.Refusals.{Row, first, borrowed, scratch_ok, cleared, scratch_after}
use Rattle.calls.specs.Changes.{Side}
use Rattle.calls.specs.Calls.{Booked, head, book_input_rows, book_state_rows, book_status, changed, book}
use Rattle.booking.specs.Rows.{Accepts}

-- ---- rows

-- a call that the first rows turn back is turned back by no later one
first_early : (xs ys : List Row) → first xs ≢ 0 → first (xs ++ ys) ≡ first xs
unfolding first
first_early [] ys n = absurd (n refl)
first_early ((n, true) ∷ xs) ys d = refl
first_early ((n, false) ∷ xs) ys d = first_early xs ys d

-- the four early rows turn a booking back or none does
pub record Clear (whole room span fits : Bool) : Type 0 where
  pub whole_is : whole ≡ true
  pub room_is : room ≡ true
  pub span_is : span ≡ true
  pub fits_is : fits ≡ true

clear : (a b c d : Bool) → first ((16, not a) ∷ (17, not b) ∷ (11, not c) ∷ (13, not d) ∷ []) ≡ 0 → Clear a b c d
unfolding first
clear false b c d e = absurd (omega arith)
clear true false c d e = absurd (omega arith)
clear true true false d e = absurd (omega arith)
clear true true true false e = absurd (omega arith)
clear true true true true e = record { whole_is = refl; room_is = refl; span_is = refl; fits_is = refl }

-- a booking by its rows
made : List Row → List Row → List ℕ → List ℕ → List ℕ → List ℕ → Booked
made early late done img clean scratch =
    let number = first (early ++ late) in
    record { status = number; image = cond (eqb number 0) done img; scratch = cond (eqb (first early) 0) clean scratch }

module _ (half : ℕ) (side : Side) (v : ℤ) (s e : ℕ) (img scratch : List ℕ) where
  abbrev early : List Row
  early = book_input_rows borrowed half v s e img scratch

  abbrev late : List Row
  late = book_state_rows half side s e img

  abbrev clean : List ℕ
  clean = cleared borrowed (pages_in half img) scratch

  abbrev done : List ℕ
  done = changed half side v s e img

  book_is : made early late done img clean scratch ≡ book borrowed half side v s e img scratch
  unfolding made book book_status scratch_after
  book_is = refl

  pub book_early_out : {n : ℕ} → n ≡ first early → n ≢ 0
      → record { status = n; image = img; scratch = scratch } ≡ book borrowed half side v s e img scratch
  unfolding made
  book_early_out {n} e d =
      let f : first early ≢ 0 = λ z. d (e ∙ z) in
      let number : n ≡ first (early ++ late) = e ∙ sym (first_early early late f) in
      (λ j. record { status = number j; image = cond (sym (ne_eqb n 0 d) j) done img; scratch = scratch })
      ∙ (λ j. record {
        status = first (early ++ late);
        image = cond (eqb (number j) 0) done img;
        scratch =
            cond (sym (ne_eqb (first early) 0 f) j) clean scratch;
      })
      ∙ book_is

  module _ (z : first early ≡ 0) where
    tests : Clear (length_ok half img) (scratch_ok borrowed (pages_in half img) scratch) (span_ok s e) (value_ok v)
    unfolding book_input_rows
    tests = clear _ _ _ _ z

    pub early_whole : length_ok half img ≡ true
    early_whole = tests.whole_is

    pub early_room : scratch_ok borrowed (pages_in half img) scratch ≡ true
    early_room = tests.room_is

    pub early_span : s < e
    unfolding span_ok
    early_span = ltb-true s e ((and-eq-true_iff _ _).0 tests.span_is).0

    pub early_fits : value_ok v ≡ true
    early_fits = tests.fits_is

    late_status : first (early ++ late) ≡ first late
    unfolding book_input_rows first
    late_status =
        λ j. first ((16, not (tests.whole_is j)) ∷ (17, not (tests.room_is j)) ∷ (11, not (tests.span_is j))
        ∷ (13, not (tests.fits_is j)) ∷ late)

    by_late : {n : ℕ} {after left : List ℕ} → n ≡ first late → after ≡ cond (eqb n 0) done img → left ≡ clean
        → record { status = n; image = after; scratch = left } ≡ book borrowed half side v s e img scratch
    unfolding made
    by_late {n} a b c =
        let number : n ≡ first (early ++ late) = a ∙ sym late_status in
        (λ j. record { status = n; image = b j; scratch = c j })
        ∙ (λ j. record { status = number j; image = cond (eqb (number j) 0) done img; scratch = cond (eqb (sym z j) 0) clean scratch })
        ∙ book_is

    pub book_late_out : {n : ℕ} {left : List ℕ} → n ≡ first late → n ≢ 0 → left ≡ clean
        → record { status = n; image = img; scratch = left } ≡ book borrowed half side v s e img scratch
    book_late_out {n} r d c = by_late r (sym (ap (λ b. cond b done img) (ne_eqb n 0 d))) c

    pub book_done : {after left : List ℕ} → 0 ≡ first late → after ≡ done → left ≡ clean
        → record { status = 0; image = after; scratch = left } ≡ book borrowed half side v s e img scratch
    book_done r a c = by_late r a c

    pub accepts : {h : Head} → first late ≡ 0 → h ≡ head half img → 2 ≤ half → half ≤ 12 → Accepts half side v s e img h
    accepts r k least most =
        record { half_least = least; half_most = most; span = early_span; fits = early_fits; not_refused = r; shown = k }
