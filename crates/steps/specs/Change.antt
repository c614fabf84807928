-- Document 01, "One change in five steps": the five together, 24's condition, and the pages that the steps name. Assumes nothing.
use Rattle.std.specs.Prelude.{ℕ, zero, suc, ◌+◌, ◌-◌, Bool, cond, List, [], ◌∷◌, ◌++◌, leb, ltb}
use Rattle.rule.specs.declared.Pair.{Pair}
use Rattle.rule.specs.Time.{END}
use Rattle.page.specs.Entries.{at, index_of}
use Rattle.image.specs.Images.{Image}
use Rattle.steps.specs.Supply.{entries, spares, pages_taken, count_change}
use Rattle.steps.specs.Cut.{cut}
use Rattle.steps.specs.Combine.{combine_span}
use Rattle.steps.specs.Heal.{heal, heal_page, joins_edge, short, sibling}

-- "A. Cut at s. B. Cut at e'."
unfoldable pub cuts : ℕ → ℕ → ℕ → Image → Image
cuts half s e X = cut half e (cut half s X)

-- "A and B together take more pages than chain and pages from the high mark hold"
unfoldable pub lacks_pages : ℕ → ℕ → ℕ → Image → Bool
lacks_pages half s e X =
    ltb (X.head.chain + (X.head.pages - X.head.mark)) (pages_taken X (cuts half s e X))

-- "The way to t, in the image as the step finds it: the root, then each time the child of the last entry starting at t or
-- before, down to a leaf."
unfoldable pub path_from : ℕ → ℕ → ℕ → Image → List ℕ
path_from t zero p X = p ∷ []
path_from t (suc l) p X = p ∷ path_from t l (at (entries X p) (index_of t (entries X p))).child X

-- "END is no instant": no page is on the path to it.
unfoldable pub path : ℕ → Image → List ℕ
path t X = cond (leb END t) [] (path_from t (X.head.height - 1) X.head.root X)

module _ (half : ℕ) (◌⊕◌ : Pair → Pair → Pair) where
  -- "C. Combine the effect into [s, e'). D. Heal at s. E. Heal at e'. Then changes rises by 1."
  unfoldable pub change : ℕ → ℕ → Pair → Image → Image
  change s e effect X = count_change (heal half ◌⊕◌ e (heal half ◌⊕◌ s (combine_span ◌⊕◌ s e effect (cuts half s e X))))

  -- "Each step may write only the head, pages on the way to its instant (C: to s and e'), the neighbour each turns to, and pages
  -- taken or given back." A page given back is on the path or is the sibling of one that is.

  unfoldable pub cut_names : ℕ → Image → List ℕ
  cut_names t X = path t X ++ spares (pages_taken X (cut half t X)) X

  -- C: the paths to s and to e'
  unfoldable pub combine_names : ℕ → ℕ → Image → List ℕ
  combine_names s e X = path s X ++ path e X

  -- the siblings that the pages on the path are rebalanced with, below page p of the level named
  unfoldable pub siblings_used : Bool → ℕ → ℕ → ℕ → Image → List ℕ
  siblings_used edge t zero p X = []
  siblings_used edge t (suc l) p X =
      let i = index_of t (entries X p) in
      let q = (at (entries X p) i).child in
      let n = (at (entries X p) (sibling i)).child in
      siblings_used edge t l q X ++ cond (short half q (heal_page half ◌⊕◌ edge t l q X)) (n ∷ []) []

  -- Document 02, (iv), lets a heal write the way to t − 1 too. It needs none of it: the sibling to the left of the page that t started is
  -- the only page there that it turns to. No page is on the path to END, so none is rebalanced.
  unfoldable pub heal_names : ℕ → Image → List ℕ
  heal_names t X =
      path t X ++ cond (leb END t) [] (siblings_used (joins_edge ◌⊕◌ t X) t (X.head.height - 1) X.head.root X)

  -- the head, and what each of the five names in the image as it finds it
  unfoldable pub change_names : ℕ → ℕ → Pair → Image → List ℕ
  change_names s e effect X =
      let A = cut half s X in
      let B = cut half e A in
      let C = combine_span ◌⊕◌ s e effect B in
      let D = heal half ◌⊕◌ s C in
      0 ∷ (cut_names s X ++ (cut_names e A ++ (combine_names s e B ++ (heal_names s C ++ heal_names e D))))
