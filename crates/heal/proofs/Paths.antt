-- The way down and back up: what a page asks of its child, and what it leaves. Assumes nothing.
use mathlib.Core.Path.{◌≡◌, sym, ap, subst, subst⁻¹}
use mathlib.Core.Bool.{Bool, true, cond}
use Prim.Native.Nat.{ℕ, suc, ◌-◌, ◌≤◌, ◌<◌}
use native.Mathlib.Omega.{arith}
use mathlib.Core.List.{List}
use lib.ListN.{length}
use borrow.Author.Tests.{lt-ltb, le-ltb}
use Rattle.rule.specs.Pairs.{combine}
use Rattle.image.specs.Images.{Image}
use Rattle.steps.specs.Supply.{entries}
use Rattle.steps.specs.Heal.{short, rebalance, carry, heal_page}
use Rattle.store.specs.declared.Found.{Found}
use Rattle.store.specs.Encoding.{Encodes, PostLevel}
use Rattle.store.specs.Preconditions.{Searchable, found_in}
use Rattle.rebalance.specs.Siblings.{Rebalanceable}
use Rattle.heal.specs.Edges.{Carriable}
use Rattle.heal.specs.Healable.{RebalanceableIfShort, rebalance_if_short, InnerHealable, PageHealable}

-- ---- a child page that was healed

module _ (half q : ℕ) {n : ℕ} (X : Image) (has : n ≡ length (entries X q)) where
  short_is : n < half → short half q X ≡ true
  unfolding short
  short_is few = lt-ltb (length (entries X q)) half (omega arith)

  pub rebalances_rebalanceable : {level p i : ℕ} → n < half → RebalanceableIfShort half level p i q X → Rebalanceable half level p i X
  rebalances_rebalanceable few s = s.rebalances (short_is few)

  pub if_short_rebalanced : (kind level p i : ℕ) → n < half
      → rebalance half (combine kind) level p i X ≡ rebalance_if_short half kind level p i q X
  unfolding rebalance_if_short
  if_short_rebalanced kind level p i few = ap (λ b. cond b (rebalance half (combine kind) level p i X) X) (sym (short_is few))

  pub if_short_kept : (kind level p i : ℕ) → half ≤ n → X ≡ rebalance_if_short half kind level p i q X
  unfolding rebalance_if_short short
  if_short_kept kind level p i many =
      ap (λ b. cond b (rebalance half (combine kind) level p i X) X) (sym (le-ltb (length (entries X q)) half (omega arith)))

-- ---- the level of a page: a leaf, or one above its child page

module _ (half kind : ℕ) (edge : Bool) (t p : ℕ) where
  pub leaf_ready : {level : ℕ} {X : Image} → level ≡ 0 → PageHealable half kind edge t level p X → Searchable 0 p t X
  unfolding PageHealable
  leaf_ready {X = X} e r = subst (λ l. PageHealable half kind edge t l p X) e r

  pub inner : {level : ℕ} {X : Image} → (level ≡ 0 → ⊥) → PageHealable half kind edge t level p X
      → InnerHealable half kind edge t (level - 1) p (λ q Y. PageHealable half kind edge t (level - 1) q Y) X
  unfolding PageHealable
  inner {level} {X} e r =
      let above : level ≡ suc (level - 1) = omega arith in
      subst (λ l. PageHealable half kind edge t l p X) above r

  -- the image once the child page under an entry that was found is healed, and once the start of that entry is carried
  abbrev pub below_healed : ℕ → Image → Found → Image
  below_healed level X f = heal_page half (combine kind) edge t (level - 1) f.entry.child X

  abbrev pub then_carried : ℕ → Image → Found → Image
  then_carried level X f = carry edge t (suc (level - 1)) p f.index (below_healed level X f)

  -- by what was found in the page, the index of the entry that has t and its child page: what that one asks, what is asked of what it
  -- leaves, and what the page becomes
  pub record FoundInner (level : ℕ) (X : Image) (f : Found) : Type 0 where
    pub below : PageHealable half kind edge t (level - 1) f.entry.child X
    pub carries : edge ≡ true → Carriable (level - 1) p f.index (below_healed level X f)
    pub rebalances : RebalanceableIfShort half (level - 1) p f.index f.entry.child (then_carried level X f)
    pub done : rebalance_if_short half kind (level - 1) p f.index f.entry.child (then_carried level X f)
        ≡ heal_page half (combine kind) edge t level p X

  pub found_inner : {img : List ℕ} {level : ℕ} {X : Image} {f : Found} (hi : ℕ) → (level ≡ 0 → ⊥) → Encodes half img X
      → PageHealable half kind edge t level p X
      → PostLevel half img (λ v. Searchable v p t) (λ v Y. f ≡ found_in hi t (entries Y p)) → FoundInner level X f
  unfolding heal_page rebalance_if_short found_in
  found_inner {level = level} {X} hi e h r finds =
      let above : suc (level - 1) ≡ level = omega arith in
      let k = inner e r in
      subst⁻¹ (FoundInner level X) (finds X h _ k.searchable)
      (record {
        below = k.below;
        carries = k.carries;
        rebalances = k.rebalances;
        done = ap (λ l. heal_page half (combine kind) edge t l p X) above;
      })
