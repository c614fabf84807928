-- The total of a list of changes under a combining rule, each change having a share: it doesn't turn on the order. Assumes nothing.
use mathlib.Core.Path.{◌≡◌, refl, sym, ap, ◌∙◌}
use mathlib.Core.Bool.{Bool, true, false, cond}
use mathlib.Core.List.{List, [], ◌∷◌}
use Rattle.lists.specs.Lists.{All, all_none, all_more}
use Rattle.rule.specs.declared.Pair.{Pair}
use Rattle.rule.specs.Pairs.{none, Lawful}
use Rattle.calls.specs.Changes.{Change}
use Rattle.claims.specs.Demands.{Reordered, same, next, swap, then}

unfoldable pub total : (Pair → Pair → Pair) → (Change → Pair) → List Change → Pair
total rule share [] = none
total rule share (c ∷ cs) = rule (share c) (total rule share cs)

-- shares that agree on each change of the list
pub total_same : (rule : Pair → Pair → Pair) (f g : Change → Pair) {cs : List Change} → All (λ c. f c ≡ g c) cs
    → total rule f cs ≡ total rule g cs
unfolding total
total_same rule f g all_none = refl
total_same rule f g (all_more {x = c} {xs = cs} e h) = rw (e, total_same rule f g h)

-- a list of the same changes keeps what holds of each
pub all_reordered : {P : Change → Type 0} {xs ys : List Change} → Reordered xs ys → All P xs → All P ys
all_reordered same h = h
all_reordered (next r) (all_more p h) = all_more p (all_reordered r h)
all_reordered swap (all_more p (all_more q h)) = all_more q (all_more p h)
all_reordered (then r s) h = all_reordered s (all_reordered r h)

module _ {◌⊕◌ : Pair → Pair → Pair} (L : Lawful ◌⊕◌) where
  infixl 60 ◌⊕◌
  pub unit_right : (p : Pair) → p ⊕ none ≡ p
  unit_right p = L.comm p none ∙ L.unit p

  pub left_comm : (p q r : Pair) → p ⊕ (q ⊕ r) ≡ q ⊕ (p ⊕ r)
  left_comm p q r = sym (L.assoc p q r) ∙ ap (λ z. z ⊕ r) (L.comm p q) ∙ L.assoc q p r

  pub between : (p q r : Pair) → p ⊕ (q ⊕ r) ≡ (q ⊕ p) ⊕ r
  between p q r = left_comm p q r ∙ sym (L.assoc q p r)

  -- where a share is none, it may be left out
  pub cond_unit : (b : Bool) (p q : Pair) → cond b p none ⊕ q ≡ cond b (p ⊕ q) q
  cond_unit true p q = refl
  cond_unit false p q = L.unit q

  module _ (share : Change → Pair) where
    pub total_reordered : {xs ys : List Change} → Reordered xs ys → total ◌⊕◌ share xs ≡ total ◌⊕◌ share ys
    unfolding total
    total_reordered same = refl
    total_reordered (next {x} r) = ap (λ z. share x ⊕ z) (total_reordered r)
    total_reordered (swap {x} {y} {xs}) = left_comm (share x) (share y) (total ◌⊕◌ share xs)
    total_reordered (then r s) = total_reordered r ∙ total_reordered s
