-- What is kept of a tree by every change: consecutive spans, and how many entries a page has. Assumes nothing.
use Rattle.std.specs.Prelude.{ℕ, zero, suc, ◌-◌, ◌≤◌, ◌<◌, ◌≡◌, ◌⊎◌, List, [], ◌∷◌, length}
use Rattle.rule.specs.declared.Pair.{Pair}
use Rattle.rule.specs.Time.{END}
use Rattle.page.specs.Layout.{capacity}
use Rattle.tree.specs.Tree.{Node, Subtree, Tree, pair_at}

-- What may be asked of an entry from its start to its end.
abbrev pub Asked : Type 0 → Type 1
Asked A = ℕ → ℕ → Node A → Type 0

-- Entries that follow each other from lo to hi with no gap, each of which is Q from its start to its end.
pub data Seg {A : Type 0} (Q : Asked A) : ℕ → ℕ → List (Node A) → Type 0 where
  done : {hi : ℕ} → Seg Q hi hi []
  more : {lo mid hi : ℕ} {x : Node A} {es : List (Node A)}
      → x.entry.start ≡ lo → lo < mid → Q lo mid x → Seg Q mid hi es → Seg Q lo hi (x ∷ es)

-- how many entries a page other than the root has
pub record Filled (half : ℕ) {A : Type 0} (es : List A) : Type 0 where
  pub least : half ≤ length es
  pub most : length es ≤ capacity half

-- An entry of a page of level l from lo to hi: a leaf's is B, an inner one leads to a filled page over the same span.
unfoldable pub Shaped : ℕ → Asked (Subtree 0) → (l : ℕ) → ℕ → ℕ → Node (Subtree l) → Type 0
Shaped half B zero lo hi x = B lo hi x
Shaped half B (suc l) lo hi x = Filled half x.subtree × Seg (λ a b y. Shaped half B l a b y) lo hi x.subtree

-- What is asked of a leaf entry by itself: its child is 0.
abbrev pub Leaf : Asked (Subtree 0)
Leaf lo hi x = x.entry.child ≡ 0

-- what is asked of it besides, where t is cut: it ends at t or before, or starts there or later
abbrev pub Apart : ℕ → ℕ → ℕ → Type 0
Apart t lo hi = (hi ≤ t) ⊎ (t ≤ lo)

-- What is asked of it besides where neighbouring leaf entries differ, by what each instant answers: its own answer, but for the first one,
-- isn't that of the instant before.
abbrev pub Differs : (ℕ → Pair) → ℕ → Type 0
Differs answer lo = 0 < lo → answer lo ≡ answer (lo - 1) → ⊥

-- how many entries a root has: a leaf one at the least, an inner one two
unfoldable pub root_least : ℕ → ℕ
root_least zero = 1
root_least (suc l) = 2

-- A tree as every sound image has it, over a leaf predicate B.
pub record Formed (half : ℕ) (B : Asked (Subtree 0)) (T : Tree) : Type 0 where
  pub least : root_least T.level ≤ length T.nodes
  pub most : length T.nodes ≤ capacity half
  pub spans : Seg (λ lo hi x. Shaped half B T.level lo hi x) 0 END T.nodes

-- No two neighbouring leaf entries have equal totals.
unfoldable pub Distinct : ℕ → (Pair → Pair → Pair) → Tree → Type 0
Distinct half ◌⊕◌ T = Formed half (λ lo hi x. Leaf lo hi x × Differs (pair_at ◌⊕◌ T) lo) T
