-- The total at an instant can be read from any page on its path down: each page can be searched, and what is combined on the way back stays
-- in bounds. Assumes nothing.
use Prim.Native.Nat.{ℕ, zero, suc, ◌+◌, ◌*◌, ◌≤◌}
use mathlib.Core.Path.{◌≡◌, sym, ◌∙◌, subst⁻¹}
use mathlib.Core.Bool.{true, true≢false}
use native.Mathlib.Omega.{arith}
use lib.Dec.{eqb}
use lib.IntN.{nat_abs}
use Rattle.lists.specs.Lists.{All}
use Rattle.lists.proofs.All.{all_at, all_weaken}
use Rattle.rule.specs.declared.Pair.{Pair}
use Rattle.rule.specs.Pairs.{combine}
use Rattle.rule.specs.Time.{most_value}
use Rattle.rule.specs.Bounds.{Combinable}
use Rattle.page.specs.declared.Entry.{Entry}
use Rattle.page.specs.Entries.{index_of}
use Rattle.page.specs.Fit.{most_changes}
use Rattle.image.specs.Images.{Image}
use Rattle.store.specs.Preconditions.{entry_for}
use Rattle.heal.specs.Edges.{EntryTotalled, Totalled}
use Rattle.tree.specs.Tree.{Node, Subtree, no_node, flat, node_of, pair_under, pair_in}
use Rattle.tree.specs.Supply.{Supply}
use Rattle.tree.specs.Conserved.{NormLaws, PathBounded}
use Rattle.tree.proofs.Conservation.Measures.{sums_bounded, counts_bounded}
use Rattle.refinement.specs.Represents.{Stocked}
use Rattle.refinement.proofs.Paths.{there, has_index, stocked_on}
use Rattle.refinement.proofs.Edges.{entry_there, total_is}
use Rattle.invariant.proofs.To.Weights.{Weighed}
use Rattle.preconditions.proofs.Pairs.{met_combinable}
use Rattle.preconditions.proofs.Paths.{Known, known_searchable, known_below}

-- What is below pairs whose measures add to `above` adds to no more than the most.
module _ {◌⊕◌ : Pair → Pair → Pair} {norm : Pair → ℕ} {Each : Pair → Type 0} (laws : NormLaws ◌⊕◌ norm Each) (most t : ℕ) where
  pub total_within : (l above : ℕ) (x : Node (Subtree (suc l))) → Stocked (suc l) x
      → All (λ y. PathBounded norm Each most l above y) x.subtree
      → above + norm (pair_in ◌⊕◌ l t x.subtree) ≤ most
  unfolding pair_in pair_under node_of PathBounded
  total_within zero above x k w = (all_at (index_of t (flat x.subtree)) (no_node 0) w (has_index 0 t x k)).1
  total_within (suc l) above x k w =
      let y = there (suc l) t x.subtree in
      let v = all_at (index_of t (flat x.subtree)) (no_node (suc l)) w (has_index (suc l) t x k) in
      omega (
        arith,
        laws.norm_sum y.entry.pair (pair_in ◌⊕◌ l t y.subtree),
        total_within l (above + norm y.entry.pair) y (stocked_on (suc l) t x k) v.2,
      )

module _ (kind changes t : ℕ) (totals : eqb kind 1 ≡ true) (slow : changes ≤ most_changes) where
  -- a pair and the total below it
  total_combinable : (l sums counts : ℕ) (y : Node (Subtree (suc l))) → Stocked (suc l) y
      → All (λ z. Weighed kind changes l (sums + nat_abs y.entry.pair.sum) (counts + nat_abs y.entry.pair.count) z) y.subtree
      → Combinable y.entry.pair (pair_in (combine kind) l t y.subtree)
  total_combinable l sums counts y k w =
      let a = total_within (sums_bounded kind) (most_value * changes) t l (sums + nat_abs y.entry.pair.sum) y k
      (all_weaken (λ z v. v.by_sum totals) w) in
      let b = total_within (counts_bounded kind totals) changes t l (counts + nat_abs y.entry.pair.count) y k
      (all_weaken (λ z v. v.by_count totals) w) in
      met_combinable kind changes y.entry.pair (pair_in (combine kind) l t y.subtree) slow
      (record {
        sums = λ e. omega (arith, a);
        counts = λ e. omega (arith, b);
        values = λ e. absurd (true≢false (sym totals ∙ e));
      })

  pub known_totalled : {half : ℕ} {X : Image} {S : Supply} (l : ℕ) {lo hi sums counts : ℕ} {x : Node (Subtree (suc l))}
      → Known half kind changes t X S l lo hi sums counts x
      → Totalled (combine kind) t l x.entry.child X
  unfolding Totalled
  known_totalled zero k = known_searchable k
  known_totalled {X = X} (suc l) {sums = sums} {counts} {x} k =
      let y = there (suc l) t x.subtree in
      let d = (known_below k).known in
      let e : entry_for t x.entry.child X ≡ y.entry = entry_there t (suc l) X x k.shown in
      record {
        searchable = known_searchable k;
        entry =
            subst⁻¹ (λ (f : Entry). EntryTotalled (combine kind) (λ q Y. Totalled (combine kind) t l q Y) t l f X) e
            (record {
              below = known_totalled l d;
              combines =
                  subst⁻¹ (λ (p : Pair). Combinable y.entry.pair p) (total_is (combine kind) t l X y d.stocked d.shown)
                  (total_combinable l sums counts y d.stocked d.weighed);
            });
      }
