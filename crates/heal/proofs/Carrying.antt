-- A start that is carried up, and one that stays. Assumes nothing.
use mathlib.Core.Path.{◌≡◌, sym, ap, ◌∙◌, subst⁻¹}
use mathlib.Core.Bool.{Bool, true, false, cond, ◌&&◌, and-false}
use mathlib.Core.List.{[], ◌∷◌}
use Prim.Native.Nat.{ℕ}
use lib.Dec.{eqb}
use borrow.Author.Tests.{eq-eqb, ne_eqb}
use Rattle.page.specs.declared.Entry.{Entry}
use Rattle.page.specs.Entries.{entry, at}
use Rattle.lists.specs.Lists.{splice}
use Rattle.image.specs.Images.{Image, tree}
use Rattle.steps.specs.Supply.{entries, put}
use Rattle.steps.specs.Heal.{carried, carry}
use Rattle.store.specs.Preconditions.{HasEntry}
use Rattle.heal.specs.Edges.{Carriable}

-- the page below an entry that was read has a first one
pub first_below : {level p i : ℕ} {X : Image} {e : Entry} → Carriable level p i X → e ≡ at (entries X p) i → HasEntry level e.child 0 X
first_below {level} {X = X} s same = subst⁻¹ (λ x. HasEntry level x.child 0 X) same s.first

module _ (edge : Bool) (t level p i : ℕ) (X : Image) where
  abbrev here : Entry
  here = at (entries X p) i

  -- the image once the i-th entry is x, but from `start` on
  abbrev started : ℕ → Entry → Image
  started start x = put p (tree level (splice i (entry start x.pair x.child ∷ []) (entries X p))) X

  -- what the test of that entry decides
  abbrev done : Bool → Image
  done b = cond b (started (cond b (at (entries X here.child) 0).start here.start) here) X

  decided : (b : Bool) → b ≡ (edge && eqb here.start t) → done b ≡ carry edge t level p i X
  unfolding carry carried
  decided b e = ap done e

  -- no edge
  pub carry_none : edge ≡ false → X ≡ carry edge t level p i X
  carry_none off = decided false (ap (λ b. b && eqb here.start t) (sym off))

  module _ {e : Entry} (same : e ≡ at (entries X p) i) where
    -- an entry that started elsewhere
    pub carry_kept : (e.start ≡ t → ⊥) → X ≡ carry edge t level p i X
    carry_kept other =
        let test : eqb here.start t ≡ false = ap (λ x. eqb x.start t) (sym same) ∙ ne_eqb e.start t other in
        decided false (sym (ap (λ b. edge && b) test ∙ and-false edge))

    pub carry_set : edge ≡ true → e.start ≡ t → {first : Entry} → first ≡ at (entries X e.child) 0
        → started first.start e ≡ carry edge t level p i X
    carry_set on starts {first} read =
        let test : eqb here.start t ≡ true = ap (λ x. eqb x.start t) (sym same) ∙ eq-eqb e.start t starts in
        ap (λ x. started x.start e) read ∙ ap (λ x. started (at (entries X x.child) 0).start x) same
        ∙ decided true (λ j. sym on j && sym test j)
