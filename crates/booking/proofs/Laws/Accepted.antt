-- What an accepted booking finds: an image that can be changed, and an effect within its bounds. Assumes nothing.
use Prim.Native.Nat.{ℕ, ◌≤◌, ◌<◌}
use mathlib.Core.Path.{◌≡◌, refl, ap, ◌∙◌, subst⁻¹}
use mathlib.Core.Bool.{Bool, true, false, not, ◌&&◌, true≢false}
use mathlib.Core.List.{List, [], ◌∷◌}
use mathlib.Core.Logic.{◌≢◌}
use native.Mathlib.Omega.{arith}
use lib.Dec.{eqb}
use lib.IntN.{ℤ}
use borrow.Author.Tests.{eqb-false}
use Rattle.rule.specs.declared.Pair.{Pair}
use Rattle.rule.specs.Time.{effect_end}
use Rattle.rule.specs.Pairs.{combine}
use Rattle.page.specs.declared.Head.{Head}
use Rattle.page.specs.Fit.{most_changes}
use Rattle.image.specs.Images.{Image, image_of, image_bytes}
use Rattle.image.specs.Sound.{sound}
use Rattle.fields.specs.Bytes.{Bytes}
use Rattle.steps.specs.Change.{lacks_pages, change}
use Rattle.calls.specs.Refusals.{first}
use Rattle.calls.specs.Changes.{Side, withdraws, effect}
use Rattle.calls.specs.Calls.{head, changed}
use Rattle.calls.proofs.Changes.{effective}
use Rattle.store.specs.Encoding.{Encodes, Pre, Post}
use Rattle.invariant.proofs.From.Invariant.{sound_invariant}
use Rattle.change.specs.Changeable.{Changeable}
use Rattle.soundness.proofs.Sound.{sound_old}
use Rattle.page_need.proofs.Held.{sound_holds}
use Rattle.preconditions.proofs.Changes.{changeable}
use Rattle.booking.specs.Rows.{Accepts}

-- the four tests are passed
pub record Passed (unsound other full lacking : Bool) : Type 0 where
  pub is_sound : unsound ≡ false
  pub sided : other ≡ false
  pub few : full ≡ false
  pub enough : lacking ≡ false

passed : (unsound other full lacking : Bool) → first ((21, unsound) ∷ (22, other) ∷ (23, full) ∷ (24, lacking) ∷ []) ≡ 0
    → Passed unsound other full lacking
unfolding first
passed true other full lacking e = absurd (omega arith)
passed false true full lacking e = absurd (omega arith)
passed false false true lacking e = absurd (omega arith)
passed false false false true e = absurd (omega arith)
passed false false false false e = record { is_sound = refl; sided = refl; few = refl; enough = refl }

of_not : (b : Bool) → not b ≡ false → b ≡ true
of_not true e = refl
of_not false e = absurd (true≢false e)

module _ {half : ℕ} {side : Side} {v : ℤ} {s e : ℕ} {img : List ℕ} {h : Head} (a : Accepts half side v s e img h) where
  facts : Passed (not (sound half img)) (withdraws side && not (eqb (head half img).kind 1)) (eqb (head half img).changes most_changes)
      (lacks_pages half s (effect_end e (head half img).window) (image_of half img))
  facts = passed _ _ _ _ a.not_refused

  accepted_sound : sound half img ≡ true
  accepted_sound = of_not _ facts.is_sound

  abbrev X : Image
  X = image_of half img

  -- where the effect ends
  abbrev end : ℕ
  end = effect_end e (head half img).window

  ready : Changeable half (head half img).kind s end (effect side v) X
  unfolding image_of head
  ready =
      let g = sound_invariant half img (omega (arith, a.half_least)) accepted_sound in
      let f = facts in
      let n : (head half img).changes ≢ most_changes = eqb-false (head half img).changes most_changes f.few in
      changeable a.half_least s end (effect side v) g (effective (head half img).kind side v a.fits f.sided)
      (below (head half img).changes most_changes g.structure.changes_most n) f.enough
    where
      below : (m n : ℕ) → m ≤ n → m ≢ n → m < n
      below m n l d = omega (arith, d)

  -- by the head that was judged
  module _ (bytes : Bytes img) {to : ℕ} {p : Pair} (same_end : to ≡ effect_end e h.window) (same_effect : p ≡ effect side v) where
    end_so : to ≡ end
    end_so = same_end ∙ ap (λ (g : Head). effect_end e g.window) a.shown

    ready_so : Changeable half h.kind s to p X
    ready_so =
        subst⁻¹ (λ (g : Head). Changeable half g.kind s to p X) a.shown
        (subst⁻¹ (λ t. Changeable half (head half img).kind s t p X) end_so
        (subst⁻¹ (λ q. Changeable half (head half img).kind s end q X) same_effect ready))

    holds : Encodes half img X
    holds = sound_holds a.half_least a.half_most img bytes (sound_old half img accepted_sound)

    pub accepted_some : Pre half img (Changeable half h.kind s to p)
    accepted_some = record { image = X; holds = holds; ready = ready_so }

    pub accepted_changed : {after : List ℕ}
        → Post half img (Changeable half h.kind s to p) (λ Z. Encodes half after (change half (combine h.kind) s to p Z))
        → after ≡ changed half side v s e img
    unfolding changed
    accepted_changed g =
        (g X holds ready_so).bytes ∙ (λ j. image_bytes half (change half (combine (a.shown j).kind) s (end_so j) (same_effect j) X))
