-- What the reading calls answer, by the lookups and walks that they make. Assumes nothing.
use Prim.Native.Nat.{ℕ, ◌-◌, ◌<◌}
use mathlib.Core.Path.{◌≡◌, ap, ◌∙◌}
use mathlib.Core.Bool.{true, false, cond, not, ◌&&◌, and-eq-true_iff}
use mathlib.Core.List.{List, [], ◌∷◌}
use native.Mathlib.Omega.{arith}
use lib.Dec.{eqb, leb}
use borrow.Author.Tests.{leb-false, lt-leb, lt-ltb}
use Rattle.rule.specs.Time.{END}
use Rattle.rule.specs.Pairs.{none}
use Rattle.page.specs.declared.Head.{Head}
use Rattle.page.specs.Fit.{root_context}
use Rattle.image.specs.Images.{page_at, pages_in, length_ok}
use Rattle.image.specs.Instant.{Lookup, look_up}
use Rattle.calls.specs.Refusals.{first}
use Rattle.calls.specs.Calls.{Instant, head, head_ok, instant, instant_status}
use Rattle.fit.proofs.Laws.Heads.{fit_ranges}
use Rattle.answers.proofs.Rows.{asked}
use Rattle.answers.proofs.Look.{look_pages}

-- What an instant that was answered says of its image.
pub record Answered (half t : ℕ) (img : List ℕ) : Type 0 where
  pub length_fits : length_ok half img ≡ true
  pub before_end : t < END
  pub head_fits : head_ok half img ≡ true
  pub look_fits : (look_up half img t).fit ≡ true

module _ (half t : ℕ) (img : List ℕ) where
  pub answered : (instant half t img).status ≡ 0 → Answered half t img
  unfolding instant instant_status
  answered e =
      let k = asked (length_ok half img) (leb END t) (head_ok half img && (look_up half img t).fit) e in
      let m = (and-eq-true_iff (head_ok half img) (look_up half img t).fit).0 k.pages_fit in
      record { length_fits = k.length_fits; before_end = leb-false END t k.before_end; head_fits = m.0; look_fits = m.1 }

  -- and back: nothing else is asked
  pub answers : Answered half t img → (instant half t img).status ≡ 0
  unfolding instant instant_status first
  answers f =
      let past : leb END t ≡ false = lt-leb END t f.before_end in
      λ j. first ((16, not (f.length_fits j)) ∷ (12, past j) ∷ (21, not (f.head_fits j && f.look_fits j)) ∷ [])

  -- the pages read are the lookup's
  pub instant_pages : Answered half t img → (instant half t img).pages ≡ (look_up half img t).pages
  unfolding instant
  instant_pages f =
      λ j. cond (f.length_fits j && (lt-ltb t END f.before_end j && f.head_fits j)) (look_up half img t).pages 0

  -- and so is all that it answers
  pub instant_is : Answered half t img → let w = look_up half img t in
      instant half t img ≡ record { status = 0; pair = w.pair; start = w.start; end = w.end; pages = w.pages }
  unfolding instant
  instant_is f =
      let w : Lookup = look_up half img t in
      let z = answers f in
      let pages = instant_pages f in
      λ j. record {
        status = z j;
        pair = cond (eqb (z j) 0) w.pair none;
        start = cond (eqb (z j) 0) w.start 0;
        end = cond (eqb (z j) 0) w.end 0;
        pages = pages j;
      }

  pub instant_pair : Answered half t img → (instant half t img).pair ≡ (look_up half img t).pair
  instant_pair f = ap (λ (a : Instant). a.pair) (instant_is f)

  -- a fit head has a height of 1 or more, so that the pages read are as many as the tree is high
  pub look_up_pages : head_ok half img ≡ true → (look_up half img t).fit ≡ true → (look_up half img t).pages ≡ (head half img).height
  unfolding look_up head head_ok
  look_up_pages e f =
      let h : Head = head half img in
      let k = fit_ranges half (pages_in half img) (page_at half img 0) e in
      look_pages half h img t (h.height - 1) (root_context h) h.root f ∙ omega (arith, k.height_least)
