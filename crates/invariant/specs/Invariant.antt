-- A sound image as tree and supply, in two parts: its structure, which every step of a change keeps, and what is asked only before and
-- after a change. Over half the capacity of a page. Assumes nothing.
use Rattle.std.specs.Prelude.{ℕ, ◌*◌, ◌≤◌, ◌≡◌, true, false, eqb, nat_abs}
use Rattle.lists.specs.Lists.{All}
use Rattle.rule.specs.declared.Pair.{Pair}
use Rattle.rule.specs.Time.{most_value, kind_ok, window_ok}
use Rattle.rule.specs.Pairs.{combine}
use Rattle.rule.specs.Bounds.{value_or_none}
use Rattle.page.specs.declared.Head.{Head}
use Rattle.page.specs.Fit.{most_changes, field_ok}
use Rattle.image.specs.Images.{Image}
use Rattle.tree.specs.Tree.{Tree}
use Rattle.tree.specs.Cut.{State}
use Rattle.tree.specs.Shape.{Formed, Leaf, Distinct}
use Rattle.tree.specs.Conserved.{PathBounded, held}
use Rattle.refinement.specs.Represents.{Represents}

-- nothing is asked of a pair by itself
abbrev pub AnyPair : Pair → Type 0
AnyPair p = Unit {0}

abbrev pub ValueOrNone : Pair → Type 0
ValueOrNone p = value_or_none p ≡ true

-- the pairs on every path from the root, for so many changes: "for kind 1 the absolute sums .. add to at most 1,000,000 × changes,
-- absolute counts to at most changes; kinds 2 and 3 have (0, 0) or a value with 1"
pub record Bounds (kind changes : ℕ) (T : Tree) : Type 0 where
  pub sums : eqb kind 1 ≡ true → All (PathBounded (λ p. nat_abs p.sum) AnyPair (most_value * changes) T.level 0) T.nodes
  pub counts : eqb kind 1 ≡ true → All (PathBounded (λ p. nat_abs p.count) AnyPair changes T.level 0) T.nodes
  pub values : eqb kind 1 ≡ false → All (PathBounded (λ p. 0) ValueOrNone 0 T.level 0) T.nodes

-- the head's numbers, but for those that tree and supply show and for the changes
pub record Ranges (half : ℕ) (h : Head) : Type 0 where
  pub pages_least : 2 ≤ h.pages
  pub pages_most : h.pages ≤ 1024
  pub mark_most : h.mark ≤ h.pages
  pub kind_fits : kind_ok h.kind ≡ true
  pub window_fits : window_ok h.window ≡ true
  pub field_fits : field_ok half h.capacity ≡ true

-- The structure of an image of this kind, whose pairs are bounded for so many changes: "each page below the high mark except 0 is once in
-- the tree or once in the chain". Between the steps the effect may stand in the pairs while the head doesn't count the change yet, so the
-- number of changes is told apart from the head.
pub record Structure (half kind changes : ℕ) (X : Image) (Y : State) : Type 0 where
  pub shown : Represents X Y
  pub formed : Formed half Leaf Y.tree
  pub once : (p : ℕ) → 1 ≤ p → held p Y ≡ 1
  pub head_apart : held 0 Y ≡ 0
  pub kind_is : X.head.kind ≡ kind
  pub bounds : Bounds kind changes Y.tree
  pub changes_most : changes ≤ most_changes
  pub ranges : Ranges half X.head

-- The structure for the changes that the head counts: what document 01 asks of a sound image.
abbrev pub OwnStructure : ℕ → Image → State → Type 0
OwnStructure half X Y = Structure half X.head.kind X.head.changes X Y

-- Tree and supply as a sound image has them: the structure, and what a cut undoes and a change restores, that for kind 1 no two neighbouring
-- leaf entries have equal totals.
pub record Invariant (half : ℕ) (X : Image) (Y : State) : Type 0 where
  pub structure : OwnStructure half X Y
  pub distinct : eqb X.head.kind 1 ≡ true → Distinct half (combine X.head.kind) Y.tree
