-- A scratch of one bit per page: what is cleared of it, and that a call answers as it did with one of a byte. Assumes nothing.
use Prim.Native.Nat.{ℕ, zero, suc, ◌+◌, ◌*◌, ◌/◌, ◌≤◌}
use mathlib.Core.Path.{◌≡◌, refl, sym, ap, ◌∙◌}
use mathlib.Core.Logic.{◌≢◌, inl, inr}
use mathlib.Core.Bool.{Bool, true, false, cond, not, false≢true}
use mathlib.Core.List.{List, [], ◌∷◌, ◌++◌}
use native.Mathlib.Omega.{arith}
use lib.ListN.{length, get_or, drop, replicate, length-replicate, get_or-replicate, get_or-append}
use lib.Dec.{eqb}
use lib.IntN.{ℤ}
use borrow.Author.Tests.{le-leb}
use Rattle.lists.specs.Lists.{All, all_none, all_more}
use Rattle.rule.specs.Time.{span_ok, value_ok}
use Rattle.fields.specs.Bytes.{patch}
use Rattle.fields.proofs.Laws.Parts.{length_patch}
use Rattle.image.specs.Images.{half_of, pages_in, length_ok}
use Rattle.image.specs.Sound.{sound}
use Rattle.image.proofs.Sizes.{sized}
use Rattle.calls.specs.Refusals.{Row, first, borrowed, scratch_ok, cleared}
use Rattle.calls.specs.Changes.{Side}
use Rattle.calls.specs.Calls.{Booked, Audited, Rebuilt, book_state_rows, changed, book_input_rows, book_status, book, audit_input_rows, audit}
use Rattle.calls.specs.Calls.{rebuilt_bytes, rebuild_state_rows, rebuild_status, rebuild}
use Rattle.calls.specs.Index.{judge, judged, index_book, index_audit, index_rebuild, index_book_bytewise, index_audit_bytewise}
use Rattle.calls.specs.Index.{index_rebuild_bytewise}
use Rattle.calls.specs.Scratch.{BytesCleared, Enough, BitPerPage}
use Rattle.calls.proofs.Rows.{first_not}
use Rattle.calls.proofs.Judged.{by_judge, judge_not}
use Rattle.calls.proofs.Tables.{booking_bytewise, audit_bytewise, rebuild_bytewise}

-- ---- what is cleared

-- behind the zeros stands what stood there
behind : (m : ℕ) (s : List ℕ) (i : ℕ) → m ≤ length s → m ≤ i → get_or (replicate m 0 ++ drop m s) i 0 ≡ get_or s i 0
behind zero s i room past = refl
behind (suc m) [] i room past = absurd (omega (arith, room))
behind (suc m) (x ∷ s) zero room past = absurd (omega (arith, past))
behind (suc m) (x ∷ s) (suc i) room past = behind m s i (omega (arith, room)) (omega (arith, past))

pub clears : (pages : ℕ) (scratch : List ℕ) → pages ≤ 8 * length scratch → BytesCleared pages scratch (cleared borrowed pages scratch)
unfolding cleared borrowed patch
clears pages scratch room =
    let m : ℕ = (pages + 7) / 8 in
    let zeros : List ℕ = replicate m 0 in
    let long : length zeros ≡ m = length-replicate m 0 in
    let at : 0 + length zeros ≡ m = omega (arith, long) in
    record {
      size = length_patch scratch 0 zeros (omega (arith, long, room));
      clear = λ i inside.
          get_or-append zeros (drop (0 + length zeros) scratch) 1 i (omega (arith, long, inside))
          ∙ get_or-replicate m i 0 1 (omega (arith, inside));
      beyond = λ i past.
          ap (λ k. get_or (zeros ++ drop k scratch) i 0) at
          ∙ behind m scratch i (omega (arith, room)) (omega (arith, past));
    }

-- ---- the same answers

-- two calls that differ in row 17, where it turns neither back
same_first : (a x y : Bool) (rows : List Row) → first ((16, a) ∷ (17, x) ∷ rows) ≢ 17 → first ((16, a) ∷ (17, y) ∷ rows) ≢ 17
    → first ((16, a) ∷ (17, x) ∷ rows) ≡ first ((16, a) ∷ (17, y) ∷ rows)
unfolding first
same_first true x y rows n m = refl
same_first false true y rows n m = absurd (n refl)
same_first false false true rows n m = absurd (m refl)
same_first false false false rows n m = refl

-- whatever holds of two calls and of what the rows ahead make of them
both_judged : {A : Type 0} (P : A → A → Type 0) (refused call refused' call' : ℕ → A) (img : List ℕ)
    → P (call (half_of img)) (call' (half_of img)) → P (refused (judge img)) (refused' (judge img))
    → P (judged refused call img) (judged refused' call' img)
unfolding judged
both_judged P refused call refused' call' img p q = go (eqb (judge img) 0)
  where
    go : (b : Bool) → P (cond b (call (half_of img)) (refused (judge img))) (cond b (call' (half_of img)) (refused' (judge img)))
    go true = p
    go false = q

-- two bookings, two audits, or two rebuilds
abbrev SameBooking : Booked → Booked → Type 0
SameBooking a b = a.status ≢ 17 → b.status ≢ 17 → (a.status ≡ b.status) × (a.image ≡ b.image)

abbrev SameAudit : Audited → Audited → Type 0
SameAudit a b = a.status ≢ 17 → b.status ≢ 17 → a.status ≡ b.status

abbrev SameRebuild : Rebuilt → Rebuilt → Type 0
SameRebuild a b = a.status ≢ 17 → b.status ≢ 17 → (a.status ≡ b.status) × (a.target ≡ b.target)

module _ (half : ℕ) (f g : ℕ → ℕ) (img scratch other : List ℕ) where
  same_book : (side : Side) (v : ℤ) (s e : ℕ) → SameBooking (book f half side v s e img scratch) (book g half side v s e img other)
  unfolding book book_status book_input_rows
  same_book side v s e n m =
      let number =
      same_first (not (length_ok half img)) (not (scratch_ok f (pages_in half img) scratch)) (not (scratch_ok g (pages_in half img) other))
      ((11, not (span_ok s e)) ∷ (13, not (value_ok v)) ∷ book_state_rows half side s e img) n m in
      (number, ap (λ k. cond (eqb k 0) (changed half side v s e img) img) number)

  same_verdict : SameAudit (audit f half img scratch) (audit g half img other)
  unfolding audit audit_input_rows
  same_verdict =
      same_first (not (length_ok half img)) (not (scratch_ok f (pages_in half img) scratch)) (not (scratch_ok g (pages_in half img) other))
      ((21, not (sound half img)) ∷ [])

  same_rebuilt : (target : List ℕ) → SameRebuild (rebuild f half img target scratch) (rebuild g half img target other)
  unfolding rebuild rebuild_status audit_input_rows
  same_rebuilt target n m =
      let number =
      same_first (not (length_ok half img)) (not (scratch_ok f (pages_in half img) scratch)) (not (scratch_ok g (pages_in half img) other))
      (rebuild_state_rows half img target) n m in
      (number, ap (λ k. cond (eqb k 0) (rebuilt_bytes half img (pages_in half target)) target) number)

module _ (img scratch other : List ℕ) where
  same_booking : (side : Side) (v : ℤ) (s e : ℕ)
      → SameBooking (index_book side v s e img scratch) (index_book_bytewise side v s e img other)
  unfolding index_book index_book_bytewise
  same_booking side v s e =
      both_judged SameBooking _ (λ half. book borrowed half side v s e img scratch) _ (λ half. book (λ n. n) half side v s e img other) img
      (same_book (half_of img) borrowed (λ n. n) img scratch other side v s e) (λ n m. (refl, refl))

  same_audit : SameAudit (index_audit img scratch) (index_audit_bytewise img other)
  unfolding index_audit index_audit_bytewise
  same_audit =
      both_judged SameAudit _ (λ half. audit borrowed half img scratch) _ (λ half. audit (λ n. n) half img other) img
      (same_verdict (half_of img) borrowed (λ n. n) img scratch other) (λ n m. refl)

  same_rebuild : (target : List ℕ) → SameRebuild (index_rebuild img target scratch) (index_rebuild_bytewise img target other)
  unfolding index_rebuild index_rebuild_bytewise
  same_rebuild target =
      both_judged SameRebuild _ (λ half. rebuild borrowed half img target scratch) _ (λ half. rebuild (λ n. n) half img target other) img
      (same_rebuilt (half_of img) borrowed (λ n. n) img scratch other target) (λ n m. (refl, refl))

-- ---- what is always enough

-- a scratch that is enough has what is borrowed of it
has_enough : (half : ℕ) (img scratch : List ℕ) → Enough (pages_in half img) scratch → length_ok half img ≡ true
    → scratch_ok borrowed (pages_in half img) scratch ≡ true
unfolding Enough scratch_ok borrowed
has_enough half img scratch (inl k) e = le-leb _ _ k
has_enough half img scratch (inr k) e =
    le-leb ((pages_in half img + 7) / 8) (length scratch) (omega (arith, (sized half img e).most, k))

-- then 17 turns nothing back, if no row behind it has that number
passes_17 : (a b : Bool) (rows : List Row) → (a ≡ true → b ≡ true) → All (λ r. r.0 ≢ 17) rows
    → first ((16, not a) ∷ (17, not b) ∷ rows) ≢ 17
unfolding first
passes_17 false b rows has ns e = omega (arith, e)
passes_17 true true rows has ns e = first_not 17 rows (λ z. omega arith) ns e
passes_17 true false rows has ns e = false≢true (has refl)

-- whatever is borrowed, if the scratch has it
module _ (f : ℕ → ℕ) (img scratch : List ℕ)
    (has : length_ok (half_of img) img ≡ true → scratch_ok f (pages_in (half_of img) img) scratch ≡ true) where
  judged_passes : {A : Type 0} (status : A → ℕ) (refused call : ℕ → A) → ((n : ℕ) → status (refused n) ≡ n)
      → status (call (half_of img)) ≢ 17 → status (judged refused call img) ≢ 17
  judged_passes status refused call told n =
      by_judge refused call img (λ r. status r ≢ 17) (λ g. n)
      (λ g e. judge_not img 17 (λ z. omega arith) (λ z. omega arith) (λ z. omega arith) (sym (told (judge img)) ∙ e))

  booking_passes : (refused : ℕ → Booked) → ((n : ℕ) → (refused n).status ≡ n) → (side : Side) (v : ℤ) (s e : ℕ)
      → (judged refused (λ half. book f half side v s e img scratch) img).status ≢ 17
  unfolding book book_status book_input_rows
  booking_passes refused told side v s e =
      judged_passes (λ (b : Booked). b.status) refused (λ half. book f half side v s e img scratch) told
      (passes_17 _ _ _ has
      (all_more (λ z. omega arith) (all_more (λ z. omega arith) (all_more (λ z. omega arith) (all_more (λ z. omega arith)
      (all_more (λ z. omega arith) (all_more (λ z. omega arith) all_none)))))))

  audit_passes : (refused : ℕ → Audited) → ((n : ℕ) → (refused n).status ≡ n)
      → (judged refused (λ half. audit f half img scratch) img).status ≢ 17
  unfolding audit audit_input_rows
  audit_passes refused told =
      judged_passes (λ (a : Audited). a.status) refused (λ half. audit f half img scratch) told
      (passes_17 _ _ _ has (all_more (λ z. omega arith) all_none))

  rebuild_passes : (refused : ℕ → Rebuilt) → ((n : ℕ) → (refused n).status ≡ n) → (target : List ℕ)
      → (judged refused (λ half. rebuild f half img target scratch) img).status ≢ 17
  unfolding rebuild rebuild_status audit_input_rows
  rebuild_passes refused told target =
      judged_passes (λ (b : Rebuilt). b.status) refused (λ half. rebuild f half img target scratch) told
      (passes_17 _ _ _ has (all_more (λ z. omega arith) (all_more (λ z. omega arith) (all_more (λ z. omega arith) all_none))))

module _ (img scratch : List ℕ) (enough : Enough (pages_in (half_of img) img) scratch) where
  booking_enough : (side : Side) (v : ℤ) (s e : ℕ) → (index_book side v s e img scratch).status ≢ 17
  unfolding index_book
  booking_enough = booking_passes borrowed img scratch (has_enough (half_of img) img scratch enough) _ (λ n. refl)

  audit_enough : (index_audit img scratch).status ≢ 17
  unfolding index_audit
  audit_enough = audit_passes borrowed img scratch (has_enough (half_of img) img scratch enough) _ (λ n. refl)

  rebuild_enough : (target : List ℕ) → (index_rebuild img target scratch).status ≢ 17
  unfolding index_rebuild
  rebuild_enough target = rebuild_passes borrowed img scratch (has_enough (half_of img) img scratch enough) _ (λ n. refl) target

-- a byte for each page was always enough, and so it is
module _ (img scratch : List ℕ) (long : pages_in (half_of img) img ≤ length scratch) where
  enough : Enough (pages_in (half_of img) img) scratch
  unfolding Enough
  enough = inl (omega (arith, long))

  has_bytes : scratch_ok (λ n. n) (pages_in (half_of img) img) scratch ≡ true
  unfolding scratch_ok
  has_bytes = le-leb _ _ long

  same_scratch_booking : (side : Side) (v : ℤ) (s e : ℕ)
      → ((index_book side v s e img scratch).status ≡ (index_book_bytewise side v s e img scratch).status)
      × ((index_book side v s e img scratch).image ≡ (index_book_bytewise side v s e img scratch).image)
  same_scratch_booking side v s e =
      same_booking img scratch scratch side v s e (booking_enough img scratch enough side v s e)
      (unfold index_book_bytewise in booking_passes (λ n. n) img scratch (λ whole. has_bytes) _ (λ n. refl) side v s e)

  same_scratch_audit : (index_audit img scratch).status ≡ (index_audit_bytewise img scratch).status
  same_scratch_audit =
      same_audit img scratch scratch (audit_enough img scratch enough)
      (unfold index_audit_bytewise in audit_passes (λ n. n) img scratch (λ whole. has_bytes) _ (λ n. refl))

  same_scratch_rebuild : (target : List ℕ)
      → ((index_rebuild img target scratch).status ≡ (index_rebuild_bytewise img target scratch).status)
      × ((index_rebuild img target scratch).target ≡ (index_rebuild_bytewise img target scratch).target)
  same_scratch_rebuild target =
      same_rebuild img scratch scratch target (rebuild_enough img scratch enough target)
      (unfold index_rebuild_bytewise in rebuild_passes (λ n. n) img scratch (λ whole. has_bytes) _ (λ n. refl) target)

-- ---- all of it

pub bit_per_page : BitPerPage
bit_per_page =
    record {
      enough_booking = λ side v s e img scratch enough. booking_enough img scratch enough side v s e;
      enough_audit = audit_enough;
      enough_rebuild = λ source target scratch enough. rebuild_enough source scratch enough target;
      of_booking_bytewise = booking_bytewise;
      of_audit_bytewise = audit_bytewise;
      of_rebuild_bytewise = rebuild_bytewise;
      same_booking = λ side v s e img scratch other. same_booking img scratch other side v s e;
      same_audit = same_audit;
      same_rebuild = λ source target scratch other. same_rebuild source scratch other target;
      same_scratch_booking = λ side v s e img scratch long. same_scratch_booking img scratch long side v s e;
      same_scratch_audit = same_scratch_audit;
      same_scratch_rebuild = λ source target scratch long. same_scratch_rebuild source scratch long target;
    }
