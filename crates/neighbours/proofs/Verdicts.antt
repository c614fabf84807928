-- Soundness by its parts: document 01's rule, the kind, and the clause on neighbours. Assumes nothing.
use Prim.Native.Nat.{ℕ}
use mathlib.Core.Path.{◌≡◌, refl, sym, ◌∙◌}
use mathlib.Core.Bool.{Bool, true, false, cond, ◌&&◌}
use mathlib.Core.List.{List}
use lib.Dec.{eqb}
use borrow.Author.Tests.{eq-eqb, ne_eqb}
use Rattle.image.specs.Neighbours.{neighbours_apart}
use Rattle.image.specs.Sound.{sound_before, sound}
use Rattle.soundness.proofs.Sound.{the_head}

module _ (half : ℕ) (img : List ℕ) where
  by_parts : (a k : Bool) → sound_before half img ≡ a → eqb (the_head half img).kind 1 ≡ k
      → (a && cond k (neighbours_apart half img) true) ≡ sound half img
  unfolding sound
  by_parts a k p q = λ j. sym p j && cond (sym q j) (neighbours_apart half img) true

  pub not_before : sound_before half img ≡ false → false ≡ sound half img
  not_before p = by_parts false _ p refl

  pub other_kind : sound_before half img ≡ true → ((the_head half img).kind ≡ 1 → ⊥) → true ≡ sound half img
  other_kind p k = by_parts true false p (ne_eqb _ 1 k)

  pub of_totals : {r : Bool} → sound_before half img ≡ true → (the_head half img).kind ≡ 1 → r ≡ neighbours_apart half img
      → r ≡ sound half img
  of_totals p k e = e ∙ by_parts true true p (eq-eqb _ 1 k)
