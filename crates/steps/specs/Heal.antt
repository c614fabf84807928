-- Document 01, "One change in five steps", steps D and E: heal at t; document 02, (iv): "Edges between pages join too". Over half the
-- capacity and any combining rule. Assumes nothing.
use Rattle.std.specs.Prelude.{ℕ, zero, suc, ◌-◌, ◌+◌, Bool, cond, ◌&&◌, ◌||◌, List, [], ◌∷◌, ◌++◌, length, take, drop, eqb, ltb}
use Rattle.rule.specs.declared.Pair.{Pair}
use Rattle.rule.specs.Pairs.{none, same_pair}
use Rattle.page.specs.declared.Entry.{Entry}
use Rattle.page.specs.Entries.{entry, at, index_of, push}
use Rattle.lists.specs.Lists.{splice}
use Rattle.image.specs.Images.{Image, tree}
use Rattle.steps.specs.Supply.{entries, put, given_back, with_root}

-- "only if t starts a leaf entry that isn't first in its page, with the same pair as the one before"
unfoldable pub heals : ℕ → List Entry → ℕ → Bool
heals t es i = ltb 0 i && (eqb (at es i).start t && same_pair (at es i).pair (at es (i - 1)).pair)

-- ---- the edge between two pages

-- t starts the leaf on the way to it, from page p of the level named down
unfoldable pub starts_leaf : ℕ → ℕ → ℕ → Image → Bool
starts_leaf t zero p X = eqb (at (entries X p) 0).start t
starts_leaf t (suc l) p X = starts_leaf t l (at (entries X p) (index_of t (entries X p))).child X

module _ (◌⊕◌ : Pair → Pair → Pair) where
  infixl 60 ◌⊕◌
  -- what an instant answers in the image as the step finds it, from page p of the level named down
  unfoldable pub total_from : ℕ → ℕ → ℕ → Image → Pair
  total_from t zero p X = (at (entries X p) (index_of t (entries X p))).pair
  total_from t (suc l) p X =
      let e = at (entries X p) (index_of t (entries X p)) in
      e.pair ⊕ total_from t l e.child X

  -- "For kind 1, heal at t shall also remove an entry that is first in its page when the totals on both sides are equal": those at t − 1
  -- and at t. Nothing stands before 0.
  unfoldable pub joins_edge : ℕ → Image → Bool
  joins_edge t X =
      let level = X.head.height - 1 in
      let root = X.head.root in
      eqb X.head.kind 1
      && (ltb 0 t
      && (starts_leaf t level root X && same_pair (total_from t level root X) (total_from (t - 1) level root X)))

-- "the entry goes, and the new first start is carried up to the parent entry that separates the two pages": at an edge, an entry e that
-- started at t starts where the page below it does, which has these entries now
unfoldable pub carried : Bool → ℕ → List Entry → Entry → Entry
carried edge t below e = entry (cond (edge && eqb e.start t) (at below 0).start e.start) e.pair e.child

-- the i-th entry of page p, of the level named, so carried
unfoldable pub carry : Bool → ℕ → ℕ → ℕ → ℕ → Image → Image
carry edge t level p i X =
    let e = at (entries X p) i in
    cond (edge && eqb e.start t)
    (put p (tree level (splice i (carried edge t (entries X e.child) e ∷ []) (entries X p))) X) X

-- ---- pages that are left short

-- "A page other than the root left with 11", at other capacities with K/2 − 1
unfoldable pub short : ℕ → ℕ → Image → Bool
short half p X = ltb (length (entries X p)) half

-- "turns to its left neighbour under the same parent, else the right": the sibling's index, for the page under the i-th entry
unfoldable pub sibling : ℕ → ℕ
sibling i = cond (eqb i 0) 1 (i - 1)

-- the index of the left one of the two
unfoldable pub left_of : ℕ → ℕ
left_of i = i - 1

module _ (◌⊕◌ : Pair → Pair → Pair) where
  -- the entries of the page under e, the pair of e combined into each
  unfoldable pub pushed : Image → Entry → List Entry
  pushed X e = push ◌⊕◌ e.pair (entries X e.child)

  -- "Each of the two parent pairs is first combined into its page's entries and set to (0, 0)": all entries of the two pages
  -- under the l-th entry of page p and the next
  unfoldable pub joint : ℕ → ℕ → Image → List Entry
  joint p l X = pushed X (at (entries X p) l) ++ pushed X (at (entries X p) (suc l))

  -- "a neighbour gives from K/2 + 1 up": "its nearest entry, and the right page's parent start follows"; the left page has k of all
  unfoldable pub redistribute : ℕ → ℕ → ℕ → ℕ → Image → Image
  redistribute level p l k X =
      let es = entries X p in
      let a = at es l in
      let b = at es (suc l) in
      let left = take k (joint p l X) in
      let right = drop k (joint p l X) in
      put p (tree (suc level)
      (splice l (entry a.start none a.child ∷ [])
      (splice (suc l) (entry (at right 0).start none b.child ∷ []) es)))
      (put b.child (tree level right) (put a.child (tree level left) X))

  -- "else both join in the left page, the right is given back, the parent loses its entry"
  unfoldable pub merge : ℕ → ℕ → ℕ → Image → Image
  merge level p l X =
      let es = entries X p in
      let a = at es l in
      let b = at es (suc l) in
      put p (tree (suc level) (splice l (entry a.start none a.child ∷ []) (splice (suc l) [] es)))
      (given_back b.child (put a.child (tree level (joint p l X)) X))

  -- "An inner root with one entry combines its pair into its child's entries, is given back, and the child becomes root."
  unfoldable pub collapse_root : Image → Image
  collapse_root X =
      let h = X.head in
      let e = at (entries X h.root) 0 in
      with_root (h.height - 1) e.child
      (given_back h.root (put e.child (tree (h.height - 2) (pushed X e)) X))

  -- a root of one entry collapses, another one stays
  unfoldable pub collapse_if_single : Image → Image
  collapse_if_single X = cond (ltb 1 X.head.height && eqb (length (entries X X.head.root)) 1) (collapse_root X) X

module _ (half : ℕ) (◌⊕◌ : Pair → Pair → Pair) where
  -- The page under the i-th entry of page p is rebalanced with its sibling, which has n entries: a left sibling that gives keeps all but
  -- its last, and a right one makes the left page one longer.
  unfoldable pub rebalance : ℕ → ℕ → ℕ → Image → Image
  rebalance level p i X =
      let n = length (entries X (at (entries X p) (sibling i)).child) in
      let k = cond (eqb i 0) half (n - 1) in
      cond (ltb half n) (redistribute ◌⊕◌ level p (left_of i) k X) (merge ◌⊕◌ level p (left_of i) X)

  -- page p of the level named: the leaf entry goes, and on the way back, at an edge, the new first start is carried up, and each page that
  -- is left short is rebalanced
  unfoldable pub heal_page : Bool → ℕ → ℕ → ℕ → Image → Image
  heal_page edge t zero p X =
      let es = entries X p in
      let i = index_of t es in
      cond (edge || heals t es i) (put p (tree zero (splice i [] es)) X) X
  heal_page edge t (suc l) p X =
      let i = index_of t (entries X p) in
      let q = (at (entries X p) i).child in
      let Y = carry edge t (suc l) p i (heal_page edge t l q X) in
      cond (short half q Y) (rebalance l p i Y) Y

  unfoldable pub heal : ℕ → Image → Image
  heal t X = collapse_if_single ◌⊕◌ (heal_page (joins_edge ◌⊕◌ t X) t (X.head.height - 1) X.head.root X)
