-- An instant's answer as the code gave it before document 02, (viii): the pairs were combined on the way down, the root's first, and no
-- start and end were told. "Pairs are from then on combined on the way back, leaf first, with the same pair as before": the two ways give the
-- same for every combining rule that is associative and has (0, 0) for its unit, on every image. Assumes nothing.
use Rattle.std.specs.Prelude.{ℕ, zero, suc, ◌-◌, ◌≡◌, Bool, true, false, cond, List}
use Rattle.rule.specs.declared.Pair.{Pair}
use Rattle.rule.specs.Pairs.{none, combine}
use Rattle.page.specs.declared.Head.{Head}
use Rattle.page.specs.Entries.{index_of}
use Rattle.page.specs.Layout.{entries_of, pair_at, child_at, head_of}
use Rattle.page.specs.Fit.{PageContext, root_context, context_below, page_fit}
use Rattle.image.specs.Images.{page_at}
use Rattle.image.specs.Instant.{Lookup, look_by}

-- what was told: whether every page met is fit, the pair, and how many tree pages were read
pub record Descent : Type 0 where
  pub fit : Bool
  pub pair : Pair
  pub pages : ℕ

-- what a lookup tells of it
unfoldable pub descent_of : Lookup → Descent
descent_of w = record { fit = w.fit; pair = w.pair; pages = w.pages }

module _ (◌⊕◌ : Pair → Pair → Pair) where
  infixl 60 ◌⊕◌
  -- from page p in its context on, with the pairs above combined already and so many pages read
  unfoldable pub descend : ℕ → Head → List ℕ → ℕ → ℕ → PageContext → ℕ → Pair → ℕ → Descent
  descend half h img t zero at p so_far pages =
      let s = page_at half img p in
      let i = index_of t (entries_of half s) in
      cond (page_fit half h at s)
      (record { fit = true; pair = so_far ⊕ pair_at half s i; pages = suc pages })
      (record { fit = false; pair = none; pages = suc pages })
  descend half h img t (suc l) at p so_far pages =
      let s = page_at half img p in
      let i = index_of t (entries_of half s) in
      let below = descend half h img t l (context_below half s at i) (child_at half s i) (so_far ⊕ pair_at half s i) (suc pages) in
      cond (page_fit half h at s) below (record { fit = false; pair = none; pages = suc pages })

  -- all that is asked of the rule: it needn't be commutative
  pub record Associative : Type 0 where
    pub assoc : (p q r : Pair) → (p ⊕ q) ⊕ r ≡ p ⊕ (q ⊕ r)
    pub unit : (p : Pair) → none ⊕ p ≡ p

-- from the root, by the rule of the head's kind
unfoldable pub from_root : ℕ → List ℕ → ℕ → Descent
from_root half img t =
    let h = head_of (page_at half img 0) in
    descend (combine h.kind) half h img t (h.height - 1) (root_context h) h.root none 0

-- the way back and the way down: same fitness, same pair, same pages read
unfoldable pub SameBothWays : Type 0
SameBothWays =
    (◌⊕◌ : Pair → Pair → Pair) → Associative ◌⊕◌
    → (half : ℕ) (h : Head) (img : List ℕ) (t level : ℕ) (at : PageContext) (p : ℕ)
    → descent_of (look_by ◌⊕◌ half h img t level at p) ≡ descend ◌⊕◌ half h img t level at p none 0
