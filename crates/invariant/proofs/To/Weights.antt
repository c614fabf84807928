-- What is asked of the pairs of an entry and of all below it, for all kinds at once: each passes the test of its page, and has its widths.
-- Assumes nothing.
use Prim.Native.Nat.{ℕ, zero, suc, ◌+◌, ◌*◌, ◌≤◌}
use mathlib.Core.Path.{◌≡◌, refl}
use mathlib.Core.Bool.{Bool, true, false, and-eq-true_iff}
use mathlib.Core.List.{[], ◌∷◌}
use native.Mathlib.Omega.{arith}
use lib.Dec.{eqb}
use lib.IntN.{nat_abs}
use mir.Syntax.{w32, w64}
use mir.Val.{SFits}
use borrow.Author.Tests.{le-leb}
use Rattle.lists.specs.Lists.{All, all_none, all_more}
use Rattle.lists.proofs.Choices.{cond_one}
use Rattle.lists.proofs.All.{all_head, all_tail}
use Rattle.rule.specs.declared.Pair.{Pair}
use Rattle.rule.specs.Time.{most_value}
use Rattle.rule.specs.Bounds.{value_or_none}
use Rattle.rule.proofs.Signed.{sfits_nat_abs}
use Rattle.rule.proofs.Laws.{value_or_none_bound}
use Rattle.page.specs.declared.Head.{Head}
use Rattle.page.specs.Fit.{PageContext, pair_ok, most_changes}
use Rattle.tree.specs.Tree.{Node, Subtree, Nodes, Tree}
use Rattle.tree.specs.Conserved.{PathBounded}
use Rattle.invariant.specs.Invariant.{AnyPair, ValueOrNone, Bounds}

-- An entry of level l below pairs whose absolute sums and counts add to these.
pub record Weighed (kind changes l sums counts : ℕ) (x : Node (Subtree l)) : Type 0 where
  pub by_sum : eqb kind 1 ≡ true → PathBounded (λ p. nat_abs p.sum) AnyPair (most_value * changes) l sums x
  pub by_count : eqb kind 1 ≡ true → PathBounded (λ p. nat_abs p.count) AnyPair changes l counts x
  pub by_value : eqb kind 1 ≡ false → PathBounded (λ p. 0) ValueOrNone 0 l 0 x

-- ---- from the three measures, and down

pub weighed_all : (kind changes l sums counts : ℕ) (es : Nodes l)
    → (eqb kind 1 ≡ true → All (PathBounded (λ p. nat_abs p.sum) AnyPair (most_value * changes) l sums) es)
    → (eqb kind 1 ≡ true → All (PathBounded (λ p. nat_abs p.count) AnyPair changes l counts) es)
    → (eqb kind 1 ≡ false → All (PathBounded (λ p. 0) ValueOrNone 0 l 0) es)
    → All (λ x. Weighed kind changes l sums counts x) es
weighed_all kind changes l sums counts [] s c v = all_none
weighed_all kind changes l sums counts (x ∷ es) s c v =
    all_more (record { by_sum = λ e. all_head (s e); by_count = λ e. all_head (c e); by_value = λ e. all_head (v e) })
    (weighed_all kind changes l sums counts es (λ e. all_tail (s e)) (λ e. all_tail (c e)) (λ e. all_tail (v e)))

pub bounds_weighed : (kind changes : ℕ) (T : Tree) → Bounds kind changes T → All (λ x. Weighed kind changes T.level 0 0 x) T.nodes
bounds_weighed kind changes T b = weighed_all kind changes T.level 0 0 T.nodes b.sums b.counts b.values

pub weighed_below : (kind changes l sums counts : ℕ) (x : Node (Subtree (suc l))) → Weighed kind changes (suc l) sums counts x
    → All (λ y. Weighed kind changes l (sums + nat_abs x.entry.pair.sum) (counts + nat_abs x.entry.pair.count) y) x.subtree
unfolding PathBounded
weighed_below kind changes l sums counts x w =
    weighed_all kind changes l (sums + nat_abs x.entry.pair.sum) (counts + nat_abs x.entry.pair.count) x.subtree
    (λ e. (w.by_sum e).2) (λ e. (w.by_count e).2) (λ e. (w.by_value e).2)

-- ---- the entry itself

within_here : (norm : Pair → ℕ) (Each : Pair → Type 0) (most l above : ℕ) (x : Node (Subtree l)) → PathBounded norm Each most l above x
    → Each x.entry.pair × (above + norm x.entry.pair ≤ most)
unfolding PathBounded
within_here norm Each most zero above x w = w
within_here norm Each most (suc l) above x w = (w.0, w.1)

module _ (kind changes l sums counts : ℕ) (x : Node (Subtree l)) (w : Weighed kind changes l sums counts x) where
  pub sum_here : eqb kind 1 ≡ true → sums + nat_abs x.entry.pair.sum ≤ most_value * changes
  sum_here e = (within_here (λ p. nat_abs p.sum) AnyPair (most_value * changes) l sums x (w.by_sum e)).1

  pub count_here : eqb kind 1 ≡ true → counts + nat_abs x.entry.pair.count ≤ changes
  count_here e = (within_here (λ p. nat_abs p.count) AnyPair changes l counts x (w.by_count e)).1

  pub value_here : eqb kind 1 ≡ false → value_or_none x.entry.pair ≡ true
  value_here e = (within_here (λ p. 0) ValueOrNone 0 l 0 x (w.by_value e)).0

  pub pair_fits : changes ≤ most_changes → SFits w64 x.entry.pair.sum × SFits w32 x.entry.pair.count
  pair_fits slow = go (eqb kind 1) refl
    where
      go : (t : Bool) → eqb kind 1 ≡ t → SFits w64 x.entry.pair.sum × SFits w32 x.entry.pair.count
      go true e = (sfits_nat_abs w64 (omega (arith, sum_here e)), sfits_nat_abs w32 (omega (arith, count_here e)))
      go false e =
          let v : (nat_abs x.entry.pair.sum ≤ most_value)
          × (nat_abs x.entry.pair.count ≤ 1) = value_or_none_bound x.entry.pair (value_here e) in
          (sfits_nat_abs w64 (omega arith), sfits_nat_abs w32 (omega arith))

-- it passes the test of a page under the head that has kind and changes
pub pair_passes : (h : Head) (l sums counts : ℕ) (x : Node (Subtree l)) → Weighed h.kind h.changes l sums counts x
    → (at : PageContext) → at.sums ≡ sums → at.counts ≡ counts
    → pair_ok h at x.entry.pair ≡ true
unfolding pair_ok value_or_none
pair_passes h l sums counts x w at s c =
    cond_one (λ t. t ≡ true) (eqb h.kind 1)
    (λ e.
    let a : at.sums + nat_abs x.entry.pair.sum ≤ most_value * h.changes = omega (arith, sum_here _ _ l sums counts x w e) in
    let b : at.counts + nat_abs x.entry.pair.count ≤ h.changes = omega (arith, count_here _ _ l sums counts x w e) in
    simp and-eq-true_iff (le-leb _ _ a, le-leb _ _ b))
    (λ e. value_here _ _ l sums counts x w e)
