-- Demand 1 over the definitions: what a refused call leaves, the pages that an instant reports, and that no average is beyond. Assumes
-- nothing.
use Prim.Native.Nat.{ℕ, ◌-◌, ◌≤◌}
use mathlib.Core.Path.{◌≡◌, refl, ap, ◌∙◌}
use mathlib.Core.Logic.{◌≢◌}
use mathlib.Core.Bool.{Bool, true, false, cond, not, ◌&&◌, ◌||◌}
use mathlib.Core.List.{List, [], ◌∷◌}
use native.Mathlib.Omega.{arith}
use lib.IntN.{nat_abs, pos}
use lib.Signed.{le_z}
use lib.Dec.{eqb, leb, ltb}
use borrow.Author.Tests.{eqb-true, le-ltb, leb-true, ltb-true}
use Rattle.rule.specs.declared.Pair.{Pair}
use Rattle.rule.specs.declared.Average.TheVariants.{Hundredths, Nothing, Beyond}
use Rattle.rule.specs.Time.{END}
use Rattle.rule.specs.Pairs.{none}
use Rattle.rule.specs.Averages.{hundredths, average, most_sum}
use Rattle.page.specs.declared.Head.{Head}
use Rattle.page.specs.Fit.{root_context}
use Rattle.image.specs.Images.{half_of, page_at, pages_in, length_ok}
use Rattle.image.specs.Instant.{look_up}
use Rattle.calls.specs.Refusals.{first}
use Rattle.calls.specs.Calls.{Instant, Averaged, Listed}
use Rattle.calls.specs.Calls.{head, head_ok, instant, instant_status, average_at, listing}
use Rattle.calls.specs.Index.{index_instant, index_average, index_listing}
use Rattle.claims.specs.Demands.{Demand1}
use Rattle.calls.proofs.Judged.{by_judge}
use Rattle.claims.proofs.Steps.{index_book_keeps, index_format_keeps, index_rebuild_keeps}
use Rattle.fit.proofs.Laws.Heads.{fit_ranges}
use Rattle.fit.proofs.Laws.Pages.{Paired}
use Rattle.answers.proofs.Rows.{kept}
use Rattle.answers.proofs.Scratch.{booking_leaves, audit_leaves, rebuild_leaves}
use Rattle.answers.proofs.Look.{half_some, look_top}
use Rattle.lookup.proofs.Laws.Looks.{look_paired}
use Rattle.answers.proofs.Calls.{Answered, answered, instant_pair, instant_pages, look_up_pages}

-- ---- the pages that an instant reports

unread : (half t : ℕ) (img : List ℕ) → (instant half t img).status ≢ 0 → (instant half t img).status ≢ 21 → (instant half t img).pages ≡ 0
unfolding instant instant_status first
unread half t img n m = go (length_ok half img) (leb END t) (head_ok half img && (look_up half img t).fit) refl n m
  where
    go : (x y z : Bool) → leb END t ≡ y → first ((16, not x) ∷ (12, y) ∷ (21, not z) ∷ []) ≢ 0
        → first ((16, not x) ∷ (12, y) ∷ (21, not z) ∷ []) ≢ 21
        → cond (x && (ltb t END && head_ok half img)) (look_up half img t).pages 0 ≡ 0
    go false y z e n m = refl
    go true true z e n m = ap (λ c. cond (c && head_ok half img) (look_up half img t).pages 0) (le-ltb t END (leb-true END t e))
    go true false false e n m = absurd (m refl)
    go true false true e n m = absurd (n refl)

pages_answered : (half t : ℕ) (img : List ℕ) → (instant half t img).status ≡ 0 → (instant half t img).pages ≡ (head half img).height
pages_answered half t img e =
    let f = answered half t img e in
    instant_pages half t img f ∙ look_up_pages half t img f.head_fits f.look_fits

-- ---- no average is beyond

average_within : (kind : ℕ) (p : Pair) → (eqb kind 1 ≡ true → nat_abs p.sum ≤ most_sum) → average kind p ≢ Beyond
unfolding average
average_within kind p f = go (eqb kind 1) (le_z p.count (pos 0)) (ltb most_sum (nat_abs p.sum)) refl f
  where
    go : (x y z : Bool) → ltb most_sum (nat_abs p.sum) ≡ z → (x ≡ true → nat_abs p.sum ≤ most_sum)
        → cond (not x || y) Nothing (cond z Beyond (Hundredths (hundredths p.sum (nat_abs p.count)))) ≢ Beyond
    go false y z d f e = let no : ◌≡◌ {A = ℕ} 0 1 = cc in omega arith
    go true true z d f e = let no : ◌≡◌ {A = ℕ} 0 1 = cc in omega arith
    go true false true d f e = omega (arith, ltb-true most_sum (nat_abs p.sum) d, f refl)
    go true false false d f e = let no : ◌≡◌ {A = ℕ} 0 1 = cc in omega arith

-- what an instant answers is what a fit page can show
pub look_up_paired : (half t : ℕ) (img : List ℕ) → Answered half t img
    → Paired (head half img) (root_context (head half img)) (look_up half img t).pair
unfolding look_up head
look_up_paired half t img f =
    let h : Head = head half img in
    let top = look_top half h img t (h.height - 1) (root_context h) h.root f.look_fits in
    let some = half_some half h (page_at half img h.root) top in
    look_paired half h img t some (h.height - 1) (root_context h) h.root f.look_fits

-- kind 1: it is at most what a fit page can show
pub look_up_sum : (half t : ℕ) (img : List ℕ) → Answered half t img → eqb (head half img).kind 1 ≡ true
    → nat_abs (look_up half img t).pair.sum ≤ most_sum
unfolding head head_ok root_context
look_up_sum half t img f one =
    let k = fit_ranges half (pages_in half img) (page_at half img 0) f.head_fits in
    omega (arith, ((look_up_paired half t img f).total one).sums, k.changes_most)

never_beyond : (half t : ℕ) (img : List ℕ) → (average_at half t img).average ≢ Beyond
unfolding average_at
never_beyond half t img = go (eqb (instant half t img).status 0) refl
  where
    go : (c : Bool) → eqb (instant half t img).status 0 ≡ c
        → cond c (average (head half img).kind (instant half t img).pair) Nothing ≢ Beyond
    go true d e =
        let f = answered half t img (eqb-true (instant half t img).status 0 d) in
        let same : nat_abs (instant half t img).pair.sum ≡ nat_abs (look_up half img t).pair.sum =
        ap (λ (q : Pair). nat_abs q.sum) (instant_pair half t img f) in
        average_within (head half img).kind (instant half t img).pair (λ one. omega (arith, look_up_sum half t img f one)) e
    go false d e = let no : ◌≡◌ {A = ℕ} 0 1 = cc in omega arith

-- ---- all of it

pub demand_1 : Demand1
unfolding index_instant index_average index_listing instant average_at listing
demand_1 =
    record {
      of_format = index_format_keeps;
      of_booking = index_book_keeps;
      of_instant = λ t img.
          by_judge _ (λ half. instant half t img) img (λ (r : Instant). r.status ≢ 0 → (r.pair ≡ none) × (r.start ≡ 0) × (r.end ≡ 0))
          (λ g n. (kept _ _ none n, kept _ _ 0 n, kept _ _ 0 n)) (λ r n. (refl, refl, refl));
      of_average = λ t img.
          by_judge _ (λ half. average_at half t img) img (λ (r : Averaged). r.status ≢ 0 → r.average ≡ Nothing) (λ g n. kept _ _ Nothing n)
          (λ r n. refl);
      of_listing = λ a b img out.
          by_judge _ (λ half. listing half a b img out) img (λ (r : Listed). r.status ≢ 0 → (r.output ≡ out) × (r.runs ≡ 0))
          (λ g n. (kept _ _ out n, kept _ _ 0 n)) (λ r n. (refl, refl));
      of_rebuild = index_rebuild_keeps;
      of_scratch = λ side v s e img scratch. (booking_leaves side v s e img scratch, audit_leaves img scratch);
      of_rebuild_scratch = λ source target scratch. rebuild_leaves source scratch target;
      of_pages = λ t img.
          by_judge _ (λ half. instant half t img) img
          (λ (r : Instant). (r.status ≡ 0 → r.pages ≡ (head (half_of img) img).height) × (r.status ≢ 0 → r.status ≢ 21 → r.pages ≡ 0))
          (λ g. (pages_answered (half_of img) t img, unread (half_of img) t img)) (λ r. (λ e. absurd (r e), λ n m. refl));
      of_beyond = λ t img.
          by_judge _ (λ half. average_at half t img) img (λ (r : Averaged). r.average ≢ Beyond) (λ g. never_beyond (half_of img) t img)
          (λ r e. let no : ◌≡◌ {A = ℕ} 0 1 = cc in omega arith);
    }
