-- What becomes of a leaf. Assumes nothing.
use mathlib.Core.Path.{◌≡◌, refl, sym, ap, ◌∙◌, subst⁻¹}
use mathlib.Core.Bool.{Bool, true, false, cond, ◌&&◌, ◌||◌}
use mathlib.Core.List.{List, []}
use Prim.Native.Nat.{ℕ, zero, ◌-◌}
use native.Mathlib.Omega.{arith}
use lib.Dec.{eqb, ltb}
use borrow.Author.Tests.{lt-ltb, le-ltb}
use Rattle.rule.specs.Pairs.{combine, same_pair}
use Rattle.page.specs.declared.Entry.{Entry}
use Rattle.page.specs.Entries.{at}
use Rattle.lists.specs.Lists.{splice}
use Rattle.image.specs.Images.{Image, tree}
use Rattle.steps.specs.Supply.{entries, put}
use Rattle.steps.specs.Heal.{heals, heal_page}
use Rattle.store.specs.declared.Found.{Found}
use Rattle.store.specs.Preconditions.{Searchable, found_in}
use Rattle.store.proofs.Reading.{searchable_entry}
use Rattle.heal.specs.Healable.{EntryRead}

-- ---- the test

module _ (t i : ℕ) (es : List Entry) where
  pub heals_first : i ≡ 0 → false ≡ heals t es i
  unfolding heals
  heals_first e =
      let d : ltb 0 i ≡ false = le-ltb 0 i (omega arith) in
      ap (λ b. b && (eqb (at es i).start t && same_pair (at es i).pair (at es (i - 1)).pair)) (sym d)

  pub heals_later : {x y : Entry} {b : Bool} → (i ≡ 0 → ⊥) → x ≡ at es i → y ≡ at es (i - 1) → b ≡ same_pair x.pair y.pair
      → eqb x.start t && b ≡ heals t es i
  unfolding heals
  heals_later {x} some e d r =
      let later : ltb 0 i ≡ true = lt-ltb 0 i (omega arith) in
      ap (λ b. eqb x.start t && b) r ∙ (λ j. sym later j && (eqb (e j).start t && same_pair (e j).pair (d j).pair))

-- ---- the entry that has t

module _ (hi t p : ℕ) (X : Image) {f : Found} (g : f ≡ found_in hi t (entries X p)) where
  pub found_read : {level : ℕ} → Searchable level p t X → EntryRead f.entry level p f.index X
  unfolding found_in
  found_read {level} s =
      subst⁻¹ (λ (m : Found). EntryRead m.entry level p m.index X) g (record { has = searchable_entry s; read = refl })

  -- ---- what becomes of the leaf, whatever the kind

  module _ (half kind : ℕ) (edge : Bool) where
    abbrev done : Bool → ℕ → Image
    done b i = cond b (put p (tree zero (splice i [] (entries X p))) X) X

    -- what the test of that entry decides
    decided : (b : Bool) → (edge || heals t (entries X p) f.index) ≡ b
        → done b f.index ≡ heal_page half (combine kind) edge t 0 p X
    unfolding heal_page found_in
    decided b e = λ j. done ((sym e ∙ ap (λ (m : Found). edge || heals t (entries X p) m.index) g) j) (g j).index

    pub leaf_kept : (edge || heals t (entries X p) f.index) ≡ false → X ≡ heal_page half (combine kind) edge t 0 p X
    leaf_kept e = decided false e

    pub leaf_healed : (edge || heals t (entries X p) f.index) ≡ true
        → put p (tree zero (splice f.index [] (entries X p))) X ≡ heal_page half (combine kind) edge t 0 p X
    leaf_healed e = decided true e
