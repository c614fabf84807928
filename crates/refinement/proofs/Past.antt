-- A heal at END leaves the image as it is: no entry starts there, and no page is short. Assumes nothing.
use Prim.Native.Nat.{ℕ, zero, suc, ◌-◌, ◌≤◌, ◌<◌}
use mathlib.Core.Path.{◌≡◌, refl, ap, ◌∙◌}
use mathlib.Core.Bool.{Bool, true, false, ◌&&◌}
use mathlib.Core.List.{List}
use native.Mathlib.Omega.{arith}
use lib.Dec.{eqb, ltb}
use lib.ListN.{length, get_or, length-map}
use borrow.Author.Tests.{lt-ltb, le-ltb, ne_eqb}
use Rattle.rule.specs.declared.Pair.{Pair}
use Rattle.rule.specs.Pairs.{same_pair}
use Rattle.rule.specs.Time.{END}
use Rattle.page.specs.Entries.{at, index_of}
use Rattle.image.specs.Images.{Image}
use Rattle.steps.specs.Supply.{entries}
use Rattle.steps.specs.Heal.{joins_edge as joins_edge_x, heals, carry, short, collapse_if_single as collapse_if_single_x, heal_page}
use Rattle.steps.specs.Heal.{heal as heal_x}
use Rattle.tree.specs.Tree.{Node, Subtree, Nodes, no_node, flat, Tree, pair_at}
use Rattle.tree.specs.Cut.{State, root_node}
use Rattle.tree.specs.Shape.{Asked, Seg, done, more, Shaped, root_least, Formed}
use Rattle.tree.specs.Heal.{starts_leaf, joins_edge}
use Rattle.tree.proofs.Seg.{seg_le}
use Rattle.tree.proofs.Edge.{starts_inside}
use Rattle.refinement.specs.Represents.{Stores, Represents, Stocked, Full}
use Rattle.refinement.proofs.Paths.{from_root, entries_are, at_flat, there, has_index, stocked_on, stores_on}
use Rattle.refinement.proofs.Edges.{joins_edge_is}

-- one of consecutive entries up to hi, with its bounds
record Among {A : Type 0} (Q : Asked A) (hi : ℕ) (y : Node A) : Type 0 where
  lo : ℕ
  end : ℕ
  holds : Q lo end y
  starts : y.entry.start < end
  ends : end ≤ hi

among : {A : Type 0} {Q : Asked A} {lo hi : ℕ} {es : List (Node A)} (i : ℕ) (d : Node A) → Seg Q lo hi es → i < length es
    → Among Q hi (get_or es i d)
among i d done h = absurd (omega arith)
among zero d (more {lo} {mid} e k q r) h = record { lo = lo; end = mid; holds = q; starts = omega arith; ends = seg_le r }
among (suc i) d (more e k q r) h = among i d r (omega arith)

-- a test that fails, behind another
behind : (a : Bool) {b : Bool} → b ≡ false → a && b ≡ false
behind true e = e
behind false e = refl

module _ (half : ℕ) (◌⊕◌ : Pair → Pair → Pair) (t : ℕ) where
  past_leaf : {Q : Asked (Subtree 0)} {lo hi : ℕ} (x : Node (Subtree 1)) (X : Image) → Stores 1 X.page x → Stocked 1 x
      → Seg Q lo hi x.subtree
      → hi ≤ t
      → heal_page half ◌⊕◌ false t 0 x.entry.child X ≡ X
  unfolding heal_page heals
  past_leaf x X shown k r h =
      let es = flat x.subtree in
      let i = index_of t es in
      let a = among i (no_node 0) r (has_index 0 t x k) in
      let st : eqb (at es i).start t ≡ false =
      rw (at_flat 0 x.subtree i) (ne_eqb (there 0 t x.subtree).entry.start t (λ e. omega (arith, a.starts, a.ends))) in
      rw (entries_are 0 X x shown, behind (ltb 0 i) (ap (λ (b : Bool). b && same_pair (at es i).pair (at es (i - 1)).pair) st))

  -- one level up: the page below is not short
  past_up : (l : ℕ) (x : Node (Subtree (suc (suc l)))) (X : Image) → Stores (suc (suc l)) X.page x → Stocked (suc (suc l)) x
      → half ≤ length (there (suc l) t x.subtree).subtree
      → heal_page half ◌⊕◌ false t l (there (suc l) t x.subtree).entry.child X ≡ X
      → heal_page half ◌⊕◌ false t (suc l) x.entry.child X ≡ X
  unfolding heal_page carry short
  past_up l x X shown k least below =
      let y = there (suc l) t x.subtree in
      let p = y.entry.child in
      let n : length (entries X p) ≡ length y.subtree = ap length (entries_are l X y (stores_on (suc l) t x k X shown))
      ∙ length-map y.subtree (λ z. z.entry) in
      let long : ltb (length (entries X p)) half ≡ false = le-ltb (length (entries X p)) half (omega arith) in
      rw (entries_are (suc l) X x shown, at_flat (suc l) x.subtree (index_of t (flat x.subtree)), below, long)

  past_page : (B : Asked (Subtree 0)) (l lo hi : ℕ) (x : Node (Subtree (suc l))) (X : Image) → Stores (suc l) X.page x
      → Stocked (suc l) x
      → Seg (λ a b y. Shaped half B l a b y) lo hi x.subtree
      → hi ≤ t
      → heal_page half ◌⊕◌ false t l x.entry.child X ≡ X
  unfolding Shaped
  past_page B zero lo hi x X shown k r h = past_leaf x X shown k r h
  past_page B (suc l) lo hi x X shown k r h =
      let a = among (index_of t (flat x.subtree)) (no_node (suc l)) r (has_index (suc l) t x k) in
      past_up l x X shown k a.holds.0.least
      (past_page B l a.lo a.end (there (suc l) t x.subtree) X (stores_on (suc l) t x k X shown) (stocked_on (suc l) t x k)
      a.holds.1
      (omega (arith, a.ends)))

  -- the root stays
  stays : (l : ℕ) (x : Node (Subtree (suc l))) (X : Image) → X.head.height ≡ suc l → X.head.root ≡ x.entry.child
      → Stores (suc l) X.page x
      → Stocked (suc l) x
      → collapse_if_single_x ◌⊕◌ X ≡ X
  unfolding collapse_if_single_x Stocked root_least
  stays zero x X height root shown k = rw (le-ltb 1 X.head.height (omega arith))
  stays (suc l) x X height root shown k =
      let m : ℕ = length (entries X X.head.root) in
      let n : m ≡ length x.subtree =
      ap (λ (p : ℕ). length (entries X p)) root ∙ ap length (entries_are (suc l) X x shown) ∙ length-map x.subtree (λ y. y.entry) in
      let two : 2 ≤ m = omega (arith, n, k.0) in
      rw (lt-ltb 1 X.head.height (omega arith), ne_eqb m 1 (λ (e : m ≡ 1). omega arith))

  -- no leaf starts there
  no_start : (B : Asked (Subtree 0)) (l : ℕ) (es : Nodes l) → Seg (Shaped half B l) 0 END es → END ≤ t → starts_leaf t l es ≡ false
  no_start B l es r h = go (starts_leaf t l es) refl
    where
      go : (b : Bool) → starts_leaf t l es ≡ b → b ≡ false
      go true e = absurd (omega (arith, starts_inside half B t l (omega arith) (omega arith) r e))
      go false e = refl

  no_edge : (B : Asked (Subtree 0)) (totals : Bool) (T : Tree) → Formed half B T → END ≤ t → joins_edge ◌⊕◌ totals t T ≡ false
  unfolding joins_edge
  no_edge B totals T f h =
      behind totals
      (behind (ltb 0 t)
      (ap (λ (b : Bool). b && same_pair (pair_at ◌⊕◌ T t) (pair_at ◌⊕◌ T (t - 1))) (no_start B T.level T.nodes f.spans h)))

  pub heal_past : {B : Asked (Subtree 0)} (X : Image) (Y : State) → Represents X Y → Full Y → Formed half B Y.tree → END ≤ t
      → heal_x half ◌⊕◌ t X ≡ X
  unfolding heal_x root_node Full
  heal_past {B} X Y sh k f h =
      let l = Y.tree.level in
      let x = root_node Y.tree in
      let edge : joins_edge_x ◌⊕◌ t X ≡ false = joins_edge_is ◌⊕◌ t X Y sh k ∙ no_edge B (eqb X.head.kind 1) Y.tree f h in
      ap (λ (Z : Image). collapse_if_single_x ◌⊕◌ Z)
      (ap (λ (b : Bool). heal_page half ◌⊕◌ b t (X.head.height - 1) X.head.root X) edge
      ∙ from_root sh (λ n p. heal_page half ◌⊕◌ false t n p X)
      ∙ past_page B l 0 END x X sh.below k f.spans h)
      ∙ stays l x X sh.height sh.root sh.below k
