-- The pages that a walk from the root looks at, each with the context where it stands, in turn. An instant goes below the entry that
-- has it, a listing below each entry that overlaps its span, an audit below every entry. "if a page is unfit, the pages up to and
-- including it": there a walk ends. Assumes nothing.
use Rattle.std.specs.Prelude.{ℕ, zero, suc, ◌-◌, ◌<◌, ◌≡◌, Bool, true, false, cond, ◌&&◌, List, [], ◌∷◌, ◌++◌, eqb}
use Rattle.rule.specs.Time.{overlaps}
use Rattle.page.specs.declared.Head.{Head}
use Rattle.page.specs.Entries.{index_of}
use Rattle.page.specs.Layout.{entry_count, start_at, child_at, entries_of, head_of}
use Rattle.page.specs.Fit.{PageContext, root_context, context_below, end_at, page_fit}
use Rattle.image.specs.Images.{page_at}

-- A look at a page, in its context.
pub record Visit : Type 0 where
  pub at : PageContext
  pub page : ℕ

-- what f gives for each of the first n numbers, in turn
unfoldable pub each_in_turn : ℕ → (ℕ → List Visit) → List Visit
each_in_turn zero f = []
each_in_turn (suc n) f = each_in_turn n f ++ f n

module _ (half : ℕ) (h : Head) (img : List ℕ) where
  -- the page is fit in its context
  unfoldable pub finds_fit : Visit → Bool
  finds_fit v = page_fit half h v.at (page_at half img v.page)

  unfoldable pub all_fit : List Visit → Bool
  all_fit [] = true
  all_fit (v ∷ vs) = finds_fit v && all_fit vs

  -- "up to and including" the first that is unfit
  unfoldable pub up_to_unfit : List Visit → List Visit
  up_to_unfit [] = []
  up_to_unfit (v ∷ vs) = let rest = up_to_unfit vs in v ∷ cond (finds_fit v) rest []

  -- looks that end with one at an unfit page, the only such
  pub record EndsUnfit (looks : List Visit) : Type 0 where
    pub before : List Visit
    pub last : Visit
    pub in_turn : looks ≡ before ++ (last ∷ [])
    pub fit_before : all_fit before ≡ true
    pub unfit_last : finds_fit last ≡ false

  -- Page p in its context, of the level named, and then the pages below those of its entries that a walk goes into. An unfit page has
  -- no entries that could be trusted.
  unfoldable pub visits : (PageContext → List ℕ → ℕ → Bool) → ℕ → PageContext → ℕ → List Visit
  visits into zero at p = record { at = at; page = p } ∷ []
  visits into (suc l) at p =
      let s = page_at half img p in
      let below =
      each_in_turn (entry_count s)
      (λ i. let vs = visits into l (context_below half s at i) (child_at half s i) in cond (into at s i) vs []) in
      record { at = at; page = p } ∷ cond (page_fit half h at s) below []

  -- a walk from the root
  unfoldable pub trail : (PageContext → List ℕ → ℕ → Bool) → List Visit
  trail into = up_to_unfit (visits into (h.height - 1) (root_context h) h.root)

-- Looks that end at a leaf, and the start and the end of one of its entries. Document 02, (viii): "the start and end of its leaf entry".
pub record LeafEntry (half : ℕ) (img : List ℕ) (looks : List Visit) (start end : ℕ) : Type 0 where
  pub before : List Visit
  pub last : Visit
  pub in_turn : looks ≡ before ++ (last ∷ [])
  pub leaf : last.at.level ≡ 0
  pub index : ℕ
  pub one : index < entry_count (page_at half img last.page)
  pub starts : start ≡ start_at (page_at half img last.page) index
  pub ends : end ≡ end_at (page_at half img last.page) last.at.hi index

-- the last entry that starts at t or before; each entry that overlaps [a, b); every entry
unfoldable pub entry_of : ℕ → ℕ → PageContext → List ℕ → ℕ → Bool
entry_of half t at s i = eqb i (index_of t (entries_of half s))

unfoldable pub entries_over : ℕ → ℕ → PageContext → List ℕ → ℕ → Bool
entries_over a b at s i = overlaps a b (start_at s i) (end_at s at.hi i)

unfoldable pub every_entry : PageContext → List ℕ → ℕ → Bool
every_entry at s i = true

-- The looks of an instant, of a listing and of an audit at the pages of the tree, the head apart.
unfoldable pub instant_trail : ℕ → ℕ → List ℕ → List Visit
instant_trail half t img = trail half (head_of (page_at half img 0)) img (entry_of half t)

unfoldable pub listing_trail : ℕ → ℕ → ℕ → List ℕ → List Visit
listing_trail half a b img = trail half (head_of (page_at half img 0)) img (entries_over a b)

unfoldable pub audit_trail : ℕ → List ℕ → List Visit
audit_trail half img = trail half (head_of (page_at half img 0)) img every_entry
