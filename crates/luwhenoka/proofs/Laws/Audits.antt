-- The ways out of an audit: behind the rows before an image is read. Assumes nothing.
use Prim.Native.Nat.{ℕ, ◌<◌}
use mathlib.Core.Path.{◌≡◌, refl, sym, ap, ◌∙◌}
use mathlib.Core.Logic.{◌≢◌}
use mathlib.Core.Bool.{Bool, true, false, cond, not}
use mathlib.Core.List.{List, [], ◌∷◌, ◌++◌}
use native.Mathlib.Omega.{arith}
use lib.Dec.{eqb}
use borrow.Author.Tests.{ne_eqb}
use Rattle.lists.specs.Lists.{All, all_none, all_more}
use Rattle.image.specs.Images.{pages_in, length_ok}
use Rattle.image.specs.Sound.{sound}
use Rattle.calls.specs.Refusals.{Row, first, borrowed, scratch_ok, cleared, scratch_after}
use Rattle.calls.specs.Calls.{audit_input_rows, audit}
use Rattle.calls.proofs.Rows.{first_behind}

module _ (half : ℕ) (img scratch : List ℕ) where
  abbrev early : List Row
  early = audit_input_rows borrowed half img scratch

  abbrev after : List ℕ
  after = scratch_after borrowed early (pages_in half img) scratch

  -- a scratch that is long enough is cleared, and any other left
  pub left_16 : length_ok half img ≡ false → (16 ≡ first early) × (scratch ≡ after)
  unfolding audit_input_rows scratch_after first
  left_16 a = (rw a refl, rw a refl)

  pub left_17 : length_ok half img ≡ true → scratch_ok borrowed (pages_in half img) scratch ≡ false → (17 ≡ first early) × (scratch ≡ after)
  unfolding audit_input_rows scratch_after first
  left_17 a b = (rw (a, b) refl, rw (a, b) refl)

  pub left_clear : length_ok half img ≡ true → scratch_ok borrowed (pages_in half img) scratch ≡ true
      → (0 ≡ first early) × (cleared borrowed (pages_in half img) scratch ≡ after)
  unfolding audit_input_rows scratch_after first
  left_clear a b = (rw (a, b) refl, rw (a, b) refl)

  -- an image of a length in range, where neither row turns it back
  pub input_whole : 0 ≡ first early → length_ok half img ≡ true
  unfolding audit_input_rows first
  input_whole e = go (length_ok half img) (scratch_ok borrowed (pages_in half img) scratch) e
    where
      go : (a b : Bool) → ◌≡◌ {A = ℕ} 0 (cond (not a) 16 (cond (not b) 17 0)) → a ≡ true
      go true b e = refl
      go false b e = absurd (omega (arith, e))

  -- no number of these rows is that of an accepted call
  some : All (λ (r : Row). r.0 ≢ 0) early
  unfolding audit_input_rows
  some = all_more (number 16 (omega arith)) (all_more (number 17 (omega arith)) all_none)
    where
      number : (n : ℕ) → 0 < n → n ≢ 0
      number n l e = omega (arith, l, e)

  -- a status of theirs is the call's, and behind them the later rows decide
  pub early_status : (late : List Row) {n : ℕ} → n ≡ first early → n ≢ 0 → n ≡ first (early ++ late)
  early_status late e d =
      e ∙ sym (ap (λ b. cond b (first late) (first early)) (ne_eqb (first early) 0 (λ z. d (e ∙ z)))) ∙ sym (first_behind early late some)

  pub late_status : (late : List Row) → 0 ≡ first early → first late ≡ first (early ++ late)
  late_status late z =
      ap (λ k. cond (eqb k 0) (first late) k) z ∙ sym (first_behind early late some)

  -- the audit itself
  pub audit_early : {n : ℕ} {left : List ℕ} → n ≡ first early → n ≢ 0 → left ≡ after
      → record { status = n; scratch = left } ≡ audit borrowed half img scratch
  unfolding audit
  audit_early e d a = λ j. record { status = early_status ((21, not (sound half img)) ∷ []) e d j; scratch = a j }

  pub audit_late : {n : ℕ} {left : List ℕ} → 0 ≡ first early → n ≡ first ((21, not (sound half img)) ∷ []) → left ≡ after
      → record { status = n; scratch = left } ≡ audit borrowed half img scratch
  unfolding audit
  audit_late z e a = λ j. record { status = (e ∙ late_status ((21, not (sound half img)) ∷ []) z) j; scratch = a j }
