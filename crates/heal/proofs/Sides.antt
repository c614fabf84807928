-- The totals on both sides of an edge, and the way down to where they part: what a page asks of the one below, and what is told of it.
-- Over any combining rule. Assumes nothing.
use mathlib.Core.Path.{◌≡◌, sym, ap, ◌∙◌, subst, subst⁻¹}
use mathlib.Core.Bool.{Bool, true, false, cond, ◌&&◌}
use mathlib.Core.List.{List}
use Prim.Native.Nat.{ℕ, zero, suc, ◌-◌, ◌<◌}
use native.Mathlib.Omega.{arith}
use lib.Dec.{eqb, ltb}
use borrow.Author.Tests.{lt-ltb, eq-eqb, ne_eqb}
use Rattle.rule.specs.declared.Pair.{Pair}
use Rattle.rule.specs.Bounds.{Combinable}
use Rattle.rule.specs.Pairs.{same_pair}
use Rattle.page.specs.declared.Entry.{Entry}
use Rattle.page.specs.Entries.{at, index_of}
use Rattle.image.specs.Images.{Image}
use Rattle.steps.specs.Supply.{entries}
use Rattle.steps.specs.Heal.{total_from}
use Rattle.store.specs.declared.Found.{Found}
use Rattle.store.specs.Preconditions.{Searchable, found_in, entry_for}
use Rattle.store.proofs.Reading.{searchable_entry}
use Rattle.heal.specs.Edges.{InnerTotalled, Totalled, total_under, SidesReadable, sides_agree, WayReadable, EdgeReadable, edge_met}

module _ (◌⊕◌ : Pair → Pair → Pair) (t p : ℕ) where
  infixl 60 ◌⊕◌
  -- ---- the total from a page

  pub totalled_searchable : (level : ℕ) {X : Image} → Totalled ◌⊕◌ t level p X → Searchable level p t X
  unfolding Totalled
  totalled_searchable zero s = s
  totalled_searchable (suc l) s = s.searchable

  pub total_leaf : {level : ℕ} (hi : ℕ) (X : Image) {m : Found} → level ≡ 0 → m ≡ found_in hi t (entries X p)
      → m.entry.pair ≡ total_from ◌⊕◌ t level p X
  unfolding total_from found_in
  total_leaf hi X e g = ap (λ (k : Found). k.entry.pair) g ∙ ap (λ l. total_from ◌⊕◌ t l p X) (sym e)

  -- by what was found in an inner page: what is asked of the page below, and what the total is
  pub record FoundTotal (level : ℕ) (X : Image) (m : Found) : Type 0 where
    pub below : Totalled ◌⊕◌ t (level - 1) m.entry.child X
    pub combines : Combinable m.entry.pair (total_from ◌⊕◌ t (level - 1) m.entry.child X)
    pub done : m.entry.pair ⊕ total_from ◌⊕◌ t (level - 1) m.entry.child X ≡ total_from ◌⊕◌ t level p X

  pub found_total : {level : ℕ} (hi : ℕ) (X : Image) {m : Found} → (level ≡ 0 → ⊥) → m ≡ found_in hi t (entries X p)
      → Totalled ◌⊕◌ t level p X → FoundTotal level X m
  unfolding Totalled total_from found_in
  found_total {level} hi X e g r =
      let above : level ≡ suc (level - 1) = omega arith in
      let k : InnerTotalled ◌⊕◌ (λ q Y. Totalled ◌⊕◌ t (level - 1) q Y) t (level - 1) p X =
      subst (λ l. Totalled ◌⊕◌ t l p X) above r in
      subst⁻¹ (FoundTotal level X) g
      (record { below = k.entry.below; combines = k.entry.combines; done = ap (λ l. total_from ◌⊕◌ t l p X) (sym above) })

  -- ---- the two sides

  module _ (l i : ℕ) (X : Image) where
    pub sides_later : {x y : Entry} {a b : Pair} → (i ≡ 0 → ⊥) → x ≡ at (entries X p) i → y ≡ at (entries X p) (i - 1)
        → a ≡ total_under ◌⊕◌ t l x X → b ≡ total_under ◌⊕◌ (t - 1) l y X → same_pair a b ≡ sides_agree ◌⊕◌ t l p i X
    sides_later some here before right left =
        let later : ltb 0 i ≡ true = lt-ltb 0 i (omega arith) in
        (λ j. same_pair (right j) (left j))
        ∙ (λ j. sym later j && same_pair (total_under ◌⊕◌ t l (here j) X) (total_under ◌⊕◌ (t - 1) l (before j) X))

  -- ---- the way down

  pub edge_leaf : {level : ℕ} (X : Image) → level ≡ 0 → false ≡ edge_met ◌⊕◌ t level p X
  unfolding edge_met
  edge_leaf X e = ap (λ l. edge_met ◌⊕◌ t l p X) (sym e)

  pub way : {level : ℕ} {X : Image} → (level ≡ 0 → ⊥) → EdgeReadable ◌⊕◌ t level p X
      → WayReadable ◌⊕◌ (λ q Y. EdgeReadable ◌⊕◌ t (level - 1) q Y) t (level - 1) p X
  unfolding EdgeReadable
  way {level} {X} e r =
      let above : level ≡ suc (level - 1) = omega arith in
      subst (λ l. EdgeReadable ◌⊕◌ t l p X) above r

  -- an entry that starts at t and isn't the first has an instant before it
  instant : {level : ℕ} {X : Image} → Searchable level p t X → (entry_for t p X).start ≡ t → 0 < index_of t (entries X p) → 0 < t
  instant {X = X} s starts later =
      let es : List Entry = entries X p in
      let i : ℕ = index_of t es in
      let same : suc (i - 1) ≡ i = omega arith in
      let shown : (at es (suc (i - 1))).start ≡ (at es i).start = ap (λ k. (at es k).start) same in
      omega (arith, shown, starts, s.rising (i - 1) (omega (arith, (searchable_entry s).inside)))

  -- by what was found in an inner page: the ways part there, or go on
  pub record FoundWay (level : ℕ) (X : Image) (m : Found) : Type 0 where
    pub sides : m.entry.start ≡ t → SidesReadable ◌⊕◌ t (level - 1) p m.index m.entry X
    pub parted : m.entry.start ≡ t → sides_agree ◌⊕◌ t (level - 1) p m.index X ≡ edge_met ◌⊕◌ t level p X
    pub below : (m.entry.start ≡ t → ⊥) → EdgeReadable ◌⊕◌ t (level - 1) m.entry.child X
    pub on : (m.entry.start ≡ t → ⊥) → edge_met ◌⊕◌ t (level - 1) m.entry.child X ≡ edge_met ◌⊕◌ t level p X

  module _ {level : ℕ} (X : Image) (inner : level ≡ 0 → ⊥) where
    abbrev told : Bool → Bool
    told b = cond b (sides_agree ◌⊕◌ t (level - 1) p (index_of t (entries X p)) X) (edge_met ◌⊕◌ t (level - 1) (entry_for t p X).child X)

    -- what the test of the entry decides
    decided : (b : Bool) → eqb (entry_for t p X).start t ≡ b → told b ≡ edge_met ◌⊕◌ t level p X
    unfolding edge_met
    decided b e =
        let above : suc (level - 1) ≡ level = omega arith in
        ap told (sym e) ∙ ap (λ l. edge_met ◌⊕◌ t l p X) above

    pub found_way : (hi : ℕ) {m : Found} → m ≡ found_in hi t (entries X p) → EdgeReadable ◌⊕◌ t level p X → FoundWay level X m
    unfolding found_in
    found_way hi g r =
        let k = way inner r in
        subst⁻¹ (FoundWay level X) g
        (record {
          sides =
              λ starts.
              record {
                has = searchable_entry k.searchable;
                read = λ j. entry_for t p X;
                instant = instant k.searchable starts;
                sides = k.sides starts;
              };
          parted = λ starts. decided true (eq-eqb (entry_for t p X).start t starts);
          below = k.below;
          on = λ other. decided false (ne_eqb (entry_for t p X).start t other);
        })

-- ---- from the root, for kind 1 alone

module _ (kind : ℕ) (met : Bool) where
  pub joins_other : (kind ≡ 1 → ⊥) → false ≡ (eqb kind 1 && met)
  joins_other h = ap (λ b. b && met) (sym (ne_eqb kind 1 h))

  pub joins_totals : {b : Bool} → kind ≡ 1 → b ≡ met → b ≡ (eqb kind 1 && met)
  joins_totals e same = same ∙ ap (λ b. b && met) (sym (eq-eqb kind 1 e))
