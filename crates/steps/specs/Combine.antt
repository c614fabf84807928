-- Document 01, "One change in five steps", step C: combine the effect into [s, e). Over any combining rule. Assumes nothing.
use Rattle.std.specs.Prelude.{ℕ, zero, suc, ◌-◌, Bool, cond, ◌&&◌, List, [], ◌∷◌, drop, leb}
use Rattle.rule.specs.declared.Pair.{Pair}
use Rattle.rule.specs.Time.{END, overlaps}
use Rattle.page.specs.declared.Entry.{Entry}
use Rattle.page.specs.Entries.{entry}
use Rattle.image.specs.Images.{Image, tree}
use Rattle.steps.specs.Supply.{entries, put}

-- What the entries of a page became, and the image then.
pub record Combining : Type 0 where
  pub became : List Entry
  pub image : Image

-- [lo, hi) lies wholly inside [s, e)
unfoldable pub inside : ℕ → ℕ → ℕ → ℕ → Bool
inside s e lo hi = leb s lo && leb hi e

-- where the first of the entries that follow starts; hi if none follows
unfoldable pub next_start : ℕ → List Entry → ℕ
next_start hi [] = hi
next_start hi (e ∷ es) = e.start

-- where the i-th entry of a page that ends at hi ends
abbrev pub end_in : ℕ → List Entry → ℕ → ℕ
end_in hi es i = next_start hi (drop (suc i) es)

module _ (◌⊕◌ : Pair → Pair → Pair) (s e : ℕ) (effect : Pair) where
  infixl 60 ◌⊕◌
  -- "an entry wholly inside the span takes the effect"
  unfoldable pub took : ℕ → Entry → Entry
  took hi x = cond (inside s e x.start hi) (entry x.start (x.pair ⊕ effect) x.child) x

  -- "one partly inside sends it to its child": below says what that does to a page that ends at hi
  unfoldable pub sent : (ℕ → ℕ → Image → Image) → ℕ → Entry → Image → Image
  sent below hi x X =
      let Y = below hi x.child X in
      cond (inside s e x.start hi) X (cond (overlaps s e x.start hi) Y X)

  -- the entries of a page that ends at hi, in turn
  unfoldable pub combine_entries : (ℕ → ℕ → Image → Image) → ℕ → List Entry → Image → Combining
  combine_entries below hi [] X = record { became = []; image = X }
  combine_entries below hi (x ∷ xs) X =
      let end = next_start hi xs in
      let rest = combine_entries below hi xs (sent below end x X) in
      record { became = took end x ∷ rest.became; image = rest.image }

  -- page p with its entries combined; below says what becomes of the pages under them
  unfoldable pub combine_over : ℕ → (ℕ → ℕ → Image → Image) → ℕ → ℕ → Image → Image
  combine_over level below hi p X =
      let r = combine_entries below hi (entries X p) X in
      put p (tree level r.became) r.image

  -- page p of the level named, which ends at hi. After the cuts no leaf entry is partly inside: nothing is sent below a leaf.
  unfoldable pub combine_page : ℕ → ℕ → ℕ → Image → Image
  combine_page zero hi p X = combine_over zero (λ end q Y. Y) hi p X
  combine_page (suc l) hi p X = combine_over (suc l) (λ end q Y. combine_page l end q Y) hi p X

  -- "Combine: from the root"
  unfoldable pub combine_span : Image → Image
  combine_span X = combine_page (X.head.height - 1) END X.head.root X
