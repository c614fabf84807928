-- The ways out of a format. Assumes nothing.
use Prim.Native.Nat.{ℕ}
use mathlib.Core.Path.{◌≡◌, refl, sym}
use mathlib.Core.Bool.{Bool, true, false, cond, not, ◌&&◌}
use mathlib.Core.List.{List, [], ◌∷◌}
use lib.Dec.{eqb}
use Rattle.rule.specs.Time.{kind_ok, window_ok}
use Rattle.image.specs.Images.{pages_in, length_ok, image_bytes, fresh}
use Rattle.calls.specs.Refusals.{first}
use Rattle.calls.specs.Calls.{Formatted, format_status, format}

-- a format by the outcomes of its two tests
formatted : (fits named : Bool) (done had : List ℕ) → Formatted
formatted fits named done had =
    let number = first ((16, not fits) ∷ (14, not named) ∷ []) in
    record { status = number; image = cond (eqb number 0) done had }

module _ (half kind window field : ℕ) (img : List ℕ) where
  abbrev done : List ℕ
  done = image_bytes half (fresh (pages_in half img) kind window field)

  by_tests : (fits named : Bool) → length_ok half img ≡ fits → (kind_ok kind && window_ok window) ≡ named
      → formatted fits named done img ≡ format half kind window field img
  unfolding formatted format format_status
  by_tests fits named a b = λ j. formatted (sym a j) (sym b j) done img

  pub format_16 : length_ok half img ≡ false → record { status = 16; image = img } ≡ format half kind window field img
  unfolding formatted first
  format_16 a = by_tests false _ a refl

  pub format_14 : length_ok half img ≡ true → (kind_ok kind && window_ok window) ≡ false
      → record { status = 14; image = img } ≡ format half kind window field img
  unfolding formatted first
  format_14 a b = by_tests true false a b

  pub format_0 : length_ok half img ≡ true → (kind_ok kind && window_ok window) ≡ true
      → record { status = 0; image = done } ≡ format half kind window field img
  unfolding formatted first
  format_0 a b = by_tests true true a b
