-- A booking that returned 0: no row turned it back. Assumes nothing.
use Prim.Native.Nat.{ℕ}
use mathlib.Core.Path.{◌≡◌}
use mathlib.Core.Bool.{true, false, not, ◌&&◌}
use mathlib.Core.List.{List}
use native.Mathlib.Omega.{arith}
use lib.Dec.{eqb}
use lib.IntN.{ℤ}
use borrow.Author.Tests.{not-false}
use Rattle.rule.specs.Time.{span_ok, value_ok, effect_end}
use Rattle.page.specs.Fit.{most_changes}
use Rattle.image.specs.Images.{pages_in, image_of}
use Rattle.image.specs.Sound.{sound}
use Rattle.steps.specs.Change.{lacks_pages}
use Rattle.calls.specs.Refusals.{borrowed, scratch_ok}
use Rattle.calls.specs.Changes.{Side, withdraws}
use Rattle.calls.specs.Calls.{head, book_input_rows, book_status, book}
use Rattle.calls.proofs.Rows.{first_none}

pub record Passed (half : ℕ) (side : Side) (v : ℤ) (s e : ℕ) (img scratch : List ℕ) : Type 0 where
  pub lent : scratch_ok borrowed (pages_in half img) scratch ≡ true
  pub span : span_ok s e ≡ true
  pub value : value_ok v ≡ true
  pub whole : sound half img ≡ true
  pub sided : withdraws side && not (eqb (head half img).kind 1) ≡ false
  pub few : eqb (head half img).changes most_changes ≡ false
  pub pages : lacks_pages half s (effect_end e (head half img).window) (image_of half img) ≡ false

pub passed : (half : ℕ) (side : Side) (v : ℤ) (s e : ℕ) (img scratch : List ℕ) → (book borrowed half side v s e img scratch).status ≡ 0
    → Passed half side v s e img scratch
unfolding book book_status book_input_rows
passed half side v s e img scratch h =
    let r16 = first_none 16 _ _ (omega arith) h in
    let r17 = first_none 17 _ _ (omega arith) r16.1 in
    let r11 = first_none 11 _ _ (omega arith) r17.1 in
    let r13 = first_none 13 _ _ (omega arith) r11.1 in
    let r21 = first_none 21 _ _ (omega arith) r13.1 in
    let r22 = first_none 22 _ _ (omega arith) r21.1 in
    let r23 = first_none 23 _ _ (omega arith) r22.1 in
    let r24 = first_none 24 _ _ (omega arith) r23.1 in
    record {
      lent = not-false _ r17.0;
      span = not-false _ r11.0;
      value = not-false _ r13.0;
      whole = not-false _ r21.0;
      sided = r22.0;
      few = r23.0;
      pages = r24.0;
    }
