-- What a call leaves of its scratch. Assumes nothing.
use Prim.Native.Nat.{ℕ, ◌*◌, ◌<◌}
use mathlib.Core.Path.{◌≡◌, refl, sym, ap, ◌∙◌, subst⁻¹}
use mathlib.Core.Logic.{◌≢◌, inl, inr}
use mathlib.Core.Bool.{Bool, true, false, cond, not, ◌&&◌, ◌||◌}
use mathlib.Core.List.{List, ◌∷◌}
use native.Mathlib.Omega.{arith}
use lib.ListN.{length}
use lib.IntN.{ℤ}
use lib.Dec.{eqb, ltb}
use Rattle.rule.specs.Time.{span_ok, value_ok, effect_end}
use Rattle.page.specs.Fit.{most_changes}
use Rattle.image.specs.Images.{half_of, pages_in, length_ok, image_of}
use Rattle.image.specs.Sound.{sound}
use Rattle.steps.specs.Change.{lacks_pages}
use Rattle.calls.specs.Refusals.{first, borrowed, scratch_ok, cleared, scratch_after}
use Rattle.calls.specs.Changes.{Side, withdraws}
use Rattle.calls.specs.Calls.{Booked, Audited, Rebuilt, head, book_input_rows, book_status, book, audit_input_rows, audit, rebuild}
use Rattle.calls.specs.Index.{names_capacity, judge, judged, index_book, index_audit, index_rebuild}
use Rattle.calls.specs.Tables.{Case, Returned, Exactly, ◌when◌, WholePages, FewerBits, judge_cases, book_cases, audit_cases}
use Rattle.calls.specs.Scratch.{BytesCleared, Untouched, NotBegun, ScratchLeft, LeftAt, LeftByRebuild}
use Rattle.calls.proofs.Judged.{by_judge, judged_part, goes_on}
use Rattle.calls.proofs.Reflects.{Reflects, is_less, is_equal, is_not, either, chosen, other}
use Rattle.calls.proofs.Tables.{bad_field, whole_pages, fewer_bits, turned_back}
use Rattle.calls.proofs.Scratch.{clears}
use Rattle.answers.proofs.Rows.{untouched_at, book_scratch, audit_scratch}

-- at a bad capacity, or by the status
keeps_scratch : List ℕ → ℕ → Bool
keeps_scratch img number = not (names_capacity img) || untouched_at number

-- ---- by its status and the capacity

module _ (half : ℕ) where
  booking_goes : (side : Side) (v : ℤ) (s e : ℕ) (img scratch : List ℕ)
      → (book borrowed half side v s e img scratch).scratch
      ≡ cond (untouched_at (book borrowed half side v s e img scratch).status) scratch (cleared borrowed (pages_in half img) scratch)
  unfolding book book_input_rows book_status scratch_after
  booking_goes side v s e img scratch =
      book_scratch (not (length_ok half img)) (not (scratch_ok borrowed (pages_in half img) scratch)) (not (span_ok s e)) (not (value_ok v))
      (not (sound half img)) (withdraws side && not (eqb (head half img).kind 1)) (eqb (head half img).changes most_changes)
      (lacks_pages half s (effect_end e (head half img).window) (image_of half img)) scratch (cleared borrowed (pages_in half img) scratch)

  audit_goes : (img scratch : List ℕ)
      → (audit borrowed half img scratch).scratch
      ≡ cond (untouched_at (audit borrowed half img scratch).status) scratch (cleared borrowed (pages_in half img) scratch)
  unfolding audit audit_input_rows scratch_after
  audit_goes img scratch =
      audit_scratch (not (length_ok half img)) (not (scratch_ok borrowed (pages_in half img) scratch)) (not (sound half img)) scratch
      (cleared borrowed (pages_in half img) scratch)

module _ (img : List ℕ) where
  -- behind the rows ahead it goes by the status alone
  goes_by_status : judge img ≡ 0 → (n : ℕ) → keeps_scratch img n ≡ untouched_at n
  unfolding keeps_scratch
  goes_by_status g n = ap (λ b. not b || untouched_at n) (goes_on img g).named

  -- and at these rows it is kept
  kept_ahead : judge img ≢ 0 → keeps_scratch img (judge img) ≡ true
  unfolding judge keeps_scratch untouched_at first
  kept_ahead n = go (ltb (length img) 40) (names_capacity img) n
    where
      go : (x y : Bool) → ◌≢◌ {A = ℕ} (cond x 16 (cond (not y) 21 0)) 0 → not y || untouched_at (cond x 16 (cond (not y) 21 0)) ≡ true
      go true true n = refl
      go x false n = refl
      go false true n = absurd (n refl)

  -- whichever call it is
  goes : {A : Type 0} (refused call : ℕ → A) (status : A → ℕ) (left : A → List ℕ) (scratch : List ℕ)
      → status (refused (judge img)) ≡ judge img
      → left (refused (judge img)) ≡ scratch
      → left (call (half_of img))
      ≡ cond (untouched_at (status (call (half_of img)))) scratch (cleared borrowed (pages_in (half_of img) img) scratch)
      → left (judged refused call img)
      ≡ cond (keeps_scratch img (status (judged refused call img))) scratch (cleared borrowed (pages_in (half_of img) img) scratch)
  goes refused call status left scratch told same leaves =
      by_judge refused call img
      (λ r. left r ≡ cond (keeps_scratch img (status r)) scratch (cleared borrowed (pages_in (half_of img) img) scratch))
      (λ g. leaves
      ∙ ap (λ b. cond b scratch (cleared borrowed (pages_in (half_of img) img) scratch))
      (sym (goes_by_status g (status (call (half_of img))))))
      (λ n. same
      ∙ ap (λ b. cond b scratch (cleared borrowed (pages_in (half_of img) img) scratch)) (sym (ap (keeps_scratch img) told ∙ kept_ahead n)))

-- ---- byte by byte

-- by a test for an untouched scratch; where it fails the scratch was found long enough
left_by : {Kept : Type 0} {b : Bool} (pages : ℕ) (scratch : List ℕ) {left : List ℕ} → Reflects Kept b
    → (¬ Kept → ¬ FewerBits pages scratch) → left ≡ cond b scratch (cleared borrowed pages scratch) → ScratchLeft Kept pages scratch left
unfolding FewerBits
left_by pages scratch test room left_so =
    let done = cleared borrowed pages scratch in
    record {
      untouched = λ k. left_so ∙ chosen scratch done test k;
      clears = λ n.
          let long : ¬ (8 * length scratch < pages) = room n in
          subst⁻¹ (BytesCleared pages scratch) (left_so ∙ other scratch done test n) (clears pages scratch (omega (arith, long)));
    }

module _ (img scratch : List ℕ) where
  -- the test for an untouched scratch
  untouched : (r : ℕ) → Reflects (Untouched img r) (keeps_scratch img r)
  unfolding Untouched keeps_scratch untouched_at
  untouched r = either (bad_field img) (either (is_equal r 16) (either (is_equal r 17) (either (is_equal r 11) (is_equal r 13))))

  abbrev pages : ℕ
  pages = pages_in (half_of img) img

  module _ (cases : List Case) (r : ℕ)
      (told : Returned (judge_cases img ((16 when ¬ WholePages (half_of img) img) ∷ (17 when FewerBits pages scratch) ∷ cases)) r) where
    -- a call that got as far as to clear its scratch has found it long enough
    long_enough : ¬ Untouched img r → ¬ FewerBits pages scratch
    unfolding judge_cases Returned Untouched
    long_enough u = go told
      where
        go : Returned (judge_cases img ((16 when ¬ WholePages (half_of img) img) ∷ (17 when FewerBits pages scratch) ∷ cases)) r
            → ¬ FewerBits pages scratch
        go (inl k) = absurd (u (inr (inl k.1)))
        go (inr (a, inl k)) = absurd (u (inl k.0))
        go (inr (a, inr (b, inl k))) = absurd (u (inr (inl k.1)))
        go (inr (a, inr (b, inr (c, inl k)))) = absurd (u (inr (inr (inl k.1))))
        go (inr (a, inr (b, inr (c, inr k)))) = k.0

    -- whichever call it is
    leaves : {left : List ℕ} → left ≡ cond (keeps_scratch img r) scratch (cleared borrowed pages scratch) → LeftAt img scratch r left
    leaves left_so = left_by pages scratch (untouched r) long_enough left_so

pub booking_leaves : (side : Side) (v : ℤ) (s e : ℕ) (img scratch : List ℕ)
    → LeftAt img scratch (index_book side v s e img scratch).status (index_book side v s e img scratch).scratch
unfolding judge_cases book_cases Exactly
booking_leaves side v s e img scratch =
    leaves img scratch _ _ ((turned_back.of_booking side v s e img scratch _).0 refl)
    (unfold index_book in
    goes img _ (λ half. book borrowed half side v s e img scratch) (λ (b : Booked). b.status) (λ (b : Booked). b.scratch) scratch refl refl
    (booking_goes (half_of img) side v s e img scratch))

pub audit_leaves : (img scratch : List ℕ)
    → LeftAt img scratch (index_audit img scratch).status (index_audit img scratch).scratch
unfolding judge_cases audit_cases Exactly
audit_leaves img scratch =
    leaves img scratch _ _ ((turned_back.of_audit img scratch _).0 refl)
    (unfold index_audit in
    goes img _ (λ half. audit borrowed half img scratch) (λ (a : Audited). a.status) (λ (a : Audited). a.scratch) scratch refl refl
    (audit_goes (half_of img) img scratch))

-- ---- a rebuild, by its source

module _ (source scratch : List ℕ) where
  abbrev half : ℕ
  half = half_of source

  abbrev not_begun : Bool
  not_begun =
      ltb (length source) 40
      || (not (names_capacity source)
      || (not (length_ok half source) || not (scratch_ok borrowed (pages_in half source) scratch)))

  tells_begun : Reflects (NotBegun source scratch) not_begun
  unfolding NotBegun
  tells_begun =
      either (is_less (length source) 40)
      (either (bad_field source)
      (either (is_not (whole_pages half source)) (fewer_bits.reflects (pages_in half source) scratch)))

  rebuild_goes : (target : List ℕ)
      → (index_rebuild source target scratch).scratch ≡ cond not_begun scratch (cleared borrowed (pages_in half source) scratch)
  unfolding index_rebuild judge first rebuild audit_input_rows scratch_after
  rebuild_goes target =
      judged_part _ (λ h. rebuild borrowed h source target scratch) source (λ (b : Rebuilt). b.scratch)
      ∙ go (ltb (length source) 40) (not (names_capacity source)) (not (length_ok half source))
      (not (scratch_ok borrowed (pages_in half source) scratch)) (cleared borrowed (pages_in half source) scratch)
    where
      go : (x y a b : Bool) (done : List ℕ)
          → cond (eqb (cond x 16 (cond y 21 0)) 0) (cond (eqb (cond a 16 (cond b 17 0)) 0) done scratch) scratch
          ≡ cond (x || (y || (a || b))) scratch done
      go true y a b done = refl
      go false true a b done = refl
      go false false true b done = refl
      go false false false true done = refl
      go false false false false done = refl

  pub rebuild_leaves : (target : List ℕ) → LeftByRebuild source scratch (index_rebuild source target scratch).scratch
  unfolding NotBegun
  rebuild_leaves target =
      left_by (pages_in half source) scratch tells_begun (λ n short. n (inr (inr (inr short)))) (rebuild_goes target)
