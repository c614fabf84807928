-- Every call returns the status that document 01's tables have for it, and an instant tells the pages that it looked at. Assumes nothing.
use Prim.Native.Nat.{ℕ, suc, ◌+◌, ◌*◌, ◌<◌, ◌≤◌, ◌/◌, ◌%◌}
use mathlib.Core.Path.{◌≡◌, refl, sym, ap, ◌∙◌, subst⁻¹}
use mathlib.Core.Logic.{◌⊎◌, inl, inr}
use mathlib.Core.Bool.{Bool, true, false, cond, not, ◌&&◌, false≢true}
use mathlib.Core.List.{List, Memᴰ}
use native.Mathlib.Nat.{mul-div_cancel_left, mul-le-mul_left}
use native.Mathlib.Omega.{arith}
use lib.ListN.{length}
use lib.IntN.{ℤ, nat_abs}
use lib.Dec.{eqb, leb, ltb}
use borrow.Author.Tests.{eqb-true, eqb-false, le-ltb, ltb-false}
use Rattle.rule.specs.Time.{END, span_ok, value_ok, kind_ok, window_ok, effect_end}
use Rattle.page.specs.declared.Head.{Head}
use Rattle.page.specs.Layout.{capacity_ok, no_field, capacity_named, page_size, head_of}
use Rattle.page.specs.Fit.{head_fit}
use Rattle.image.specs.Images.{Image, capacity_field, half_of, page_at, pages_in, length_ok, image_of}
use Rattle.image.specs.Sound.{sound_before, sound}
use Rattle.image.specs.Instant.{look_up}
use Rattle.image.specs.Listing.{walk_over, join}
use Rattle.image.specs.Trail.{Visit, finds_fit, all_fit, instant_trail, listing_trail}
use Rattle.image.proofs.Capacity.{fit_half}
use Rattle.image.proofs.Trails.{each_fits, one_unfit, look_up_fit, look_up_looks, instant_ends, walk_over_fit}
use Rattle.tight.specs.Tight.{pages_used, too_small}
use Rattle.steps.specs.Change.{lacks_pages}
use Rattle.calls.specs.Refusals.{first, scratch_ok, borrowed}
use Rattle.calls.specs.Changes.{Side, entering, withdrawing, withdraws}
use Rattle.calls.specs.Calls.{Booked, Instant, Averaged, Listed, Audited, Rebuilt}
use Rattle.calls.specs.Calls.{head, head_ok, format, format_status, book, book_input_rows, book_status, instant, instant_status}
use Rattle.calls.specs.Calls.{average_at, listing, listing_status, runs_over, too_short, audit, audit_input_rows}
use Rattle.calls.specs.Calls.{full_runs, rebuild_status, rebuild}
use Rattle.calls.specs.Index.{names_capacity, judge, judged, index_format, format_before, index_book, index_instant, index_average}
use Rattle.calls.specs.Index.{index_listing, index_audit, index_rebuild, index_book_bytewise, index_audit_bytewise, index_rebuild_bytewise}
use Rattle.calls.specs.Tables.{Case, Exactly, NoCapacity, BadField, WholePages, FitHead, NoSpan, NoKindOrWindow, MeetsUnfit, TooFewPages}
use Rattle.calls.specs.Tables.{FewerBits, FewerBytes, TooSmall, format_cases_before, format_cases}
use Rattle.calls.specs.Tables.{judge_cases, book_cases, instant_cases, listing_cases, audit_cases, rebuild_cases, PagesTold, TurnedBack}
use Rattle.calls.proofs.Reflects.{Reflects, passes, fails, fails_by, restated, is_less, is_most, is_equal, is_true, is_false, is_not, is_above}
use Rattle.calls.proofs.Reflects.{is_least, both, either_fails, chosen, other}
use Rattle.calls.proofs.Cases.{Tested, no_row, next_row, third_case}
use Rattle.calls.proofs.Judged.{by_judge, judged_part, judge_then, judge_passes}

-- ---- each row's test

no_capacity : (k : ℕ) → Reflects (NoCapacity k) (not (capacity_ok k))
unfolding NoCapacity capacity_ok
no_capacity k =
    either_fails (eqb (k % 2) 0) (leb 4 k && leb k 24) (is_not (is_equal (k % 2) 0))
    (either_fails (leb 4 k) (leb k 24) (is_above 4 k) (is_above k 24))

pub bad_field : (img : List ℕ) → Reflects (BadField img) (not (names_capacity img))
unfolding BadField names_capacity capacity_named capacity_field
bad_field img = go (eqb (capacity_field img) no_field) refl
  where
    go : (b : Bool) → eqb (capacity_field img) no_field ≡ b → Reflects (BadField img) (not (capacity_ok (cond b 24 (capacity_field img))))
    go true e = unfold capacity_ok in fails (λ k. k.0 (eqb-true (capacity_field img) no_field e))
    go false e = restated (λ n. (eqb-false (capacity_field img) no_field e, n)) (λ k. k.1) (no_capacity (capacity_field img))

module _ (half : ℕ) (img : List ℕ) where
  pub whole_pages : Reflects (WholePages half img) (length_ok half img)
  unfolding length_ok pages_in
  whole_pages =
      restated (λ k. record { n = pages_in half img; long = k.0; least = k.1.0; most = k.1.1 })
      (λ w.
      let size : 0 < page_size half = omega arith in
      let e : pages_in half img ≡ w.n = ap (λ k. k / page_size half) w.long ∙ mul-div_cancel_left w.n size in
      (w.long ∙ ap (λ k. page_size half * k) (sym e), (omega (arith, w.least), omega (arith, w.most))))
      (both (is_equal _ _) (both (is_most 2 _) (is_most _ 1024)))

  fit_head : Reflects (FitHead half img) (head_ok half img)
  unfolding FitHead head_ok
  fit_head = is_true (head_fit half (pages_in half img) (page_at half img 0))

  abbrev h : Head
  h = head_of (page_at half img 0)

  unfit_among : (looks : List Visit) → ((v : Visit) × Memᴰ v looks × (finds_fit half h img v ≡ false))
      → all_fit half h img looks ≡ false
  unfit_among looks k = go (all_fit half h img looks) refl
    where
      go : (c : Bool) → all_fit half h img looks ≡ c → c ≡ false
      go true a = absurd (false≢true (sym k.2 ∙ each_fits half h img k.1 a))
      go false a = refl

  meets_unfit : (looks : List Visit) (fit : Bool) → fit ≡ all_fit half h img looks
      → Reflects (MeetsUnfit half img looks) (not (head_ok half img && fit))
  unfolding MeetsUnfit
  meets_unfit looks fit e =
      either_fails (head_ok half img) fit (is_not fit_head)
      (restated (λ f. one_unfit half h img looks (sym e ∙ f)) (λ k. e ∙ unfit_among looks k) (is_false fit))

-- when a scratch is too short, by what is borrowed of it
pub record ShortBy (Short : ℕ → List ℕ → Type 0) (bytes_for : ℕ → ℕ) : Type 0 where
  pub reflects : (pages : ℕ) (scratch : List ℕ) → Reflects (Short pages scratch) (not (scratch_ok bytes_for pages scratch))

pub fewer_bits : ShortBy FewerBits borrowed
unfolding FewerBits scratch_ok borrowed
fewer_bits =
    record { reflects = λ pages scratch. restated (λ l. omega arith) (λ l. omega arith) (is_above ((pages + 7) / 8) (length scratch)) }

fewer_bytes : ShortBy FewerBytes (λ pages. pages)
unfolding FewerBytes scratch_ok
fewer_bytes = record { reflects = λ pages scratch. is_above pages (length scratch) }

no_span : (s e : ℕ) → Reflects (NoSpan s e) (not (span_ok s e))
unfolding NoSpan span_ok
no_span s e = either_fails (ltb s e) (leb e END) (is_least s e) (is_above e END)

no_value : (v : ℤ) → Reflects (1000000 < nat_abs v) (not (value_ok v))
unfolding value_ok
no_value v = is_above (nat_abs v) 1000000

no_kind_or_window : (kind window : ℕ) → Reflects (NoKindOrWindow kind window) (not (kind_ok kind && window_ok window))
unfolding NoKindOrWindow kind_ok window_ok
no_kind_or_window kind window =
    either_fails (leb 1 kind && leb kind 3) (leb window 1000000000)
    (either_fails (leb 1 kind) (leb kind 3) (is_above 1 kind) (is_above kind 3))
    (is_above window 1000000000)

withdrawn : (side : Side) → Reflects (side ≡ withdrawing) (withdraws side)
unfolding withdraws
withdrawn entering = fails (λ e. false≢true (ap withdraws e))
withdrawn withdrawing = passes refl

too_few : (half s e : ℕ) (X : Image) → Reflects (TooFewPages half s e X) (lacks_pages half s e X)
unfolding TooFewPages lacks_pages
too_few half s e X = is_less _ _

small_target : (half : ℕ) (source target : List ℕ)
    → Reflects (TooSmall half source target) (too_small half (pages_in half target) (length (full_runs half source)))
unfolding TooSmall too_small full_runs runs_over
small_target half source target =
    let used : ℕ = pages_used half (length (join (walk_over half source 0 END).runs)) in
    restated {P = pages_in half target < suc used} (λ l. omega arith) (λ l. omega arith) (is_less (pages_in half target) (suc used))

-- a fit head names a capacity
named_by_head : (half : ℕ) (img : List ℕ) → FitHead half img → names_capacity img ≡ true
unfolding FitHead names_capacity
named_by_head half img f = (fit_half half (pages_in half img) img f).named

-- ---- each call's rows

module _ (half : ℕ) where
  book_tested : {Short : ℕ → List ℕ → Type 0} {bytes_for : ℕ → ℕ} → ShortBy Short bytes_for
      → (side : Side) (v : ℤ) (s e : ℕ) (img scratch : List ℕ)
      → Exactly (book_cases half Short side v s e img scratch) (book bytes_for half side v s e img scratch).status
  unfolding book_cases book book_status book_input_rows head first
  book_tested short side v s e img scratch =
      (next_row 16 (is_not (whole_pages half img))
      (next_row 17 (short.reflects (pages_in half img) scratch)
      (next_row 11 (no_span s e)
      (next_row 13 (no_value v)
      (next_row 21 (is_false (sound half img))
      (next_row 22 (both (withdrawn side) (is_not (is_equal (head_of (page_at half img 0)).kind 1)))
      (next_row 23 (is_equal (head_of (page_at half img 0)).changes 1000000000)
      (next_row 24 (too_few half s (effect_end e (head_of (page_at half img 0)).window) (image_of half img)) no_row)))))))).exactly

  instant_tested : (t : ℕ) (img : List ℕ) → Exactly (instant_cases half t img) (instant half t img).status
  unfolding instant_cases instant instant_status first
  instant_tested t img =
      (next_row 16 (is_not (whole_pages half img))
      (next_row 12 (is_most END t)
      (next_row 21 (meets_unfit half img (instant_trail half t img) (look_up half img t).fit (look_up_fit half img t)) no_row))).exactly

  listing_tested : (a b : ℕ) (img out : List ℕ) → Exactly (listing_cases half a b img out) (listing half a b img out).status
  unfolding listing_cases listing listing_status too_short runs_over first
  listing_tested a b img out =
      (next_row 16 (is_not (whole_pages half img))
      (next_row 11 (no_span a b)
      (next_row 21 (meets_unfit half img (listing_trail half a b img) (walk_over half img a b).fit (walk_over_fit half img a b))
      (next_row 15 (is_less _ _) no_row)))).exactly

  audit_tested : {Short : ℕ → List ℕ → Type 0} {bytes_for : ℕ → ℕ} → ShortBy Short bytes_for
      → (img scratch : List ℕ) → Exactly (audit_cases half Short img scratch) (audit bytes_for half img scratch).status
  unfolding audit_cases audit audit_input_rows first
  audit_tested short img scratch =
      (next_row 16 (is_not (whole_pages half img))
      (next_row 17 (short.reflects (pages_in half img) scratch) (next_row 21 (is_false (sound half img)) no_row))).exactly

  rebuild_tested : {Short : ℕ → List ℕ → Type 0} {bytes_for : ℕ → ℕ} → ShortBy Short bytes_for
      → (source target scratch : List ℕ)
      → Exactly (rebuild_cases half Short source target scratch) (rebuild bytes_for half source target scratch).status
  unfolding rebuild_cases rebuild rebuild_status audit_input_rows first
  rebuild_tested short source target scratch =
      (next_row 16 (is_not (whole_pages half source))
      (next_row 17 (short.reflects (pages_in half source) scratch)
      (next_row 21 (is_false (sound_before half source))
      (next_row 16 (is_not (whole_pages half target))
      (next_row 24 (small_target half source target) no_row))))).exactly

  -- ---- the pages that an instant tells

  -- at 21 with a fit head one of the pages that it looks at isn't fit
  unfit_look : (t : ℕ) (img : List ℕ) → (instant half t img).status ≡ 21 → FitHead half img
      → all_fit half (h half img) img (instant_trail half t img) ≡ false
  unfolding instant_cases Exactly MeetsUnfit
  unfit_look t img e f =
      go
      (third_case 16 12 21 (¬ WholePages half img) (END ≤ t) (MeetsUnfit half img (instant_trail half t img)) (omega arith)
      (omega arith) (omega arith)
      ((instant_tested t img 21).0 e))
    where
      go : (¬ FitHead half img) ⊎ ((v : Visit) × Memᴰ v (instant_trail half t img) × (finds_fit half (h half img) img v ≡ false))
          → all_fit half (h half img) img (instant_trail half t img) ≡ false
      go (inl n) = absurd (n f)
      go (inr k) = unfit_among half img (instant_trail half t img) k

  pages_told : (t : ℕ) (img : List ℕ) → PagesTold half t img (instant half t img).status (instant half t img).pages
  unfolding instant
  pages_told t img =
      record {
        looks = λ w l f. chosen pages 0 goes (w, (l, f)) ∙ look_up_looks half img t;
        no_looks = λ k. other pages 0 goes (stays k);
        bad_field = λ bad. other pages 0 goes (λ k. unfit_by_field k.1.1 bad);
        up_to_it = λ e f. instant_ends half img t (unfit_look t img e f);
      }
    where
      pages : ℕ
      pages = (look_up half img t).pages

      goes : Reflects (WholePages half img × (t < END × FitHead half img)) (length_ok half img && (ltb t END && head_ok half img))
      goes = both (whole_pages half img) (both (is_less t END) (fit_head half img))

      stays : (¬ WholePages half img) ⊎ (END ≤ t) ⊎ (¬ FitHead half img) → ¬ (WholePages half img × (t < END × FitHead half img))
      stays (inl n) k = n k.0
      stays (inr (inl l)) k = omega (arith, k.1.0)
      stays (inr (inr n)) k = n k.1.1

      unfit_by_field : FitHead half img → ¬ BadField img
      unfit_by_field f = fails_by (bad_field img) (ap not (named_by_head half img f))

-- ---- behind the rows ahead

format_tested_before : (half kind window field : ℕ) (img : List ℕ)
    → Exactly (format_cases_before half kind window img) (format half kind window field img).status
unfolding format_cases_before format format_status first
format_tested_before half kind window field img =
    (next_row 16 (is_not (whole_pages half img)) (next_row 14 (no_kind_or_window kind window) no_row)).exactly

format_tested : (kind window k : ℕ) (img : List ℕ) → Exactly (format_cases kind window k img) (index_format kind window k img).status
unfolding format_cases index_format format
format_tested kind window k img =
    let behind : Tested (format_status (k / 2) kind window img) (format_cases_before (k / 2) kind window img) =
    record { exactly = format_tested_before (k / 2) kind window k img } in
    subst⁻¹ (Exactly (format_cases kind window k img)) (numbered (capacity_ok k)) (next_row 14 (no_capacity k) behind).exactly
  where
    numbered : (b : Bool) → (cond b (format (k / 2) kind window k img) (record { status = 14; image = img })).status
        ≡ cond (not b) 14 (format_status (k / 2) kind window img)
    numbered true = refl
    numbered false = refl

module _ {A : Type 0} (refused call : ℕ → A) (number : A → ℕ) (img : List ℕ) where
  judged_tested : number (refused (judge img)) ≡ judge img → (cases : List Case) → Exactly cases (number (call (half_of img)))
      → Exactly (judge_cases img cases) (number (judged refused call img))
  unfolding judge_cases
  judged_tested same cases later =
      let n : ℕ = number (call (half_of img)) in
      let behind : Tested n cases = record { exactly = later } in
      subst⁻¹ (Exactly (judge_cases img cases))
      (judged_part refused call img number ∙ ap (λ m. cond (eqb (judge img) 0) n m) same ∙ judge_then img n)
      (next_row 16 (is_less (length img) 40) (next_row 21 (bad_field img) behind)).exactly

-- so the rows ahead let an image of whole pages pass that has a fit head
judged_by_head : (img : List ℕ) → FitHead (half_of img) img → 40 ≤ length img → judge img ≡ 0
judged_by_head img f l = judge_passes img (record { long = le-ltb (length img) 40 l; named = named_by_head (half_of img) img f })

long_enough : (half : ℕ) (img : List ℕ) → WholePages half img → 40 ≤ length img
long_enough half img w = omega (arith, w.long, mul-le-mul_left (page_size half) w.least)

-- at K's 21 the image is long enough to have the field
long_at_21 : (img : List ℕ) → judge img ≡ 21 → 40 ≤ length img
unfolding judge first
long_at_21 img e = go (ltb (length img) 40) refl e
  where
    go : (x : Bool) → ltb (length img) 40 ≡ x → ◌≡◌ {A = ℕ} (cond x 16 (cond (not (names_capacity img)) 21 0)) 21 → 40 ≤ length img
    go true d e = absurd (omega (arith, e))
    go false d e = ltb-false (length img) 40 d

index_pages_told : (t : ℕ) (img : List ℕ) → PagesTold (half_of img) t img (index_instant t img).status (index_instant t img).pages
unfolding index_instant
index_pages_told t img =
    by_judge _ (λ half. instant half t img) img (λ (r : Instant). PagesTold (half_of img) t img r.status r.pages)
    (λ g. pages_told (half_of img) t img)
    (λ n. record {
      looks = λ w l f. absurd (n (judged_by_head img f (long_enough (half_of img) img w)));
      no_looks = λ k. refl;
      bad_field = λ bad. refl;
      up_to_it = λ e f. absurd (n (judged_by_head img f (long_at_21 img e)));
    })

-- ---- all of them

pub turned_back : TurnedBack
unfolding format_before index_book index_instant index_average index_listing index_audit index_rebuild average_at
turned_back =
    record {
      of_format = format_tested;
      of_format_before = λ kind window img. format_tested_before 12 kind window no_field img;
      of_booking = λ side v s e img scratch.
          judged_tested _ (λ half. book borrowed half side v s e img scratch) (λ (b : Booked). b.status) img refl _
          (book_tested (half_of img) fewer_bits side v s e img scratch);
      of_instant = λ t img.
          judged_tested _ (λ half. instant half t img) (λ (r : Instant). r.status) img refl _ (instant_tested (half_of img) t img);
      of_pages = index_pages_told;
      of_average = λ t img.
          judged_tested _ (λ half. average_at half t img) (λ (r : Averaged). r.status) img refl _ (instant_tested (half_of img) t img);
      of_listing = λ a b img out.
          judged_tested _ (λ half. listing half a b img out) (λ (r : Listed). r.status) img refl _ (listing_tested (half_of img) a b img out);
      of_audit = λ img scratch.
          judged_tested _ (λ half. audit borrowed half img scratch) (λ (r : Audited). r.status) img refl _
          (audit_tested (half_of img) fewer_bits img scratch);
      of_rebuild = λ source target scratch.
          judged_tested _ (λ half. rebuild borrowed half source target scratch) (λ (r : Rebuilt). r.status) source refl _
          (rebuild_tested (half_of source) fewer_bits source target scratch);
    }

-- ---- the calls of before (vi)

pub booking_bytewise : (side : Side) (v : ℤ) (s e : ℕ) (img scratch : List ℕ)
    → Exactly (judge_cases img (book_cases (half_of img) FewerBytes side v s e img scratch))
    (index_book_bytewise side v s e img scratch).status
unfolding index_book_bytewise
booking_bytewise side v s e img scratch =
    judged_tested _ (λ half. book (λ pages. pages) half side v s e img scratch) (λ (b : Booked). b.status) img refl _
    (book_tested (half_of img) fewer_bytes side v s e img scratch)

pub audit_bytewise : (img scratch : List ℕ)
    → Exactly (judge_cases img (audit_cases (half_of img) FewerBytes img scratch)) (index_audit_bytewise img scratch).status
unfolding index_audit_bytewise
audit_bytewise img scratch =
    judged_tested _ (λ half. audit (λ pages. pages) half img scratch) (λ (r : Audited). r.status) img refl _
    (audit_tested (half_of img) fewer_bytes img scratch)

pub rebuild_bytewise : (source target scratch : List ℕ)
    → Exactly (judge_cases source (rebuild_cases (half_of source) FewerBytes source target scratch))
    (index_rebuild_bytewise source target scratch).status
unfolding index_rebuild_bytewise
rebuild_bytewise source target scratch =
    judged_tested _ (λ half. rebuild (λ pages. pages) half source target scratch) (λ (r : Rebuilt). r.status) source refl _
    (rebuild_tested (half_of source) fewer_bytes source target scratch)
