-- Bounded pairs can be combined: with an effect, and the pair of an entry with those of the entries below it. Assumes nothing.
use Prim.Native.Nat.{ℕ, suc, ◌+◌, ◌*◌, ◌≤◌}
use mathlib.Core.Path.{◌≡◌, refl}
use mathlib.Core.Bool.{Bool, true, false}
use native.Mathlib.Omega.{arith}
use lib.Dec.{eqb}
use lib.IntN.{nat_abs}
use Rattle.lists.specs.Lists.{All}
use Rattle.lists.proofs.All.{all_weaken}
use Rattle.rule.specs.declared.Pair.{Pair}
use Rattle.rule.specs.Time.{most_value}
use Rattle.rule.specs.Bounds.{value_or_none, Effective, Combinable}
use Rattle.rule.proofs.Laws.{values_combinable}
use Rattle.page.specs.Fit.{most_changes}
use Rattle.tree.specs.Tree.{Node, Subtree}
use Rattle.invariant.proofs.To.Weights.{Weighed, weighed_below, sum_here, count_here, value_here}

-- Two pairs that are met together in an index of this kind after so many changes and one more: for kind 1 their absolute values add to
-- at most what these can add to, for kinds 2 and 3 each is a value or none.
pub record MetPairs (kind n : ℕ) (p q : Pair) : Type 0 where
  pub sums : eqb kind 1 ≡ true → nat_abs p.sum + nat_abs q.sum ≤ most_value * suc n
  pub counts : eqb kind 1 ≡ true → nat_abs p.count + nat_abs q.count ≤ suc n
  pub values : eqb kind 1 ≡ false → (value_or_none p ≡ true) × (value_or_none q ≡ true)

pub met_combinable : (kind n : ℕ) (p q : Pair) → n ≤ most_changes → MetPairs kind n p q → Combinable p q
met_combinable kind n p q few m = go (eqb kind 1) refl
  where
    go : (t : Bool) → eqb kind 1 ≡ t → Combinable p q
    go true e = record { sums = omega (arith, m.sums e, few); counts = omega (arith, m.counts e, few) }
    go false e = values_combinable p q (m.values e).0 (m.values e).1

module _ (kind n : ℕ) (few : n ≤ most_changes) where
  -- an entry's pair and an effect
  pub effect_combinable : (l sums counts : ℕ) (x : Node (Subtree l)) (effect : Pair) → Weighed kind n l sums counts x
      → Effective kind effect
      → Combinable x.entry.pair effect
  effect_combinable l sums counts x effect w f =
      met_combinable kind n x.entry.pair effect few
      (record {
        sums = λ e. omega (arith, sum_here kind n l sums counts x w e, f.sum);
        counts = λ e. omega (arith, count_here kind n l sums counts x w e, f.count);
        values = λ e. (value_here kind n l sums counts x w e, f.value e);
      })

  -- the pair of an entry and those of the entries below it
  pub below_combinable : (l sums counts : ℕ) (x : Node (Subtree (suc l))) → Weighed kind n (suc l) sums counts x
      → All (λ y. Combinable x.entry.pair y.entry.pair) x.subtree
  below_combinable l sums counts x w =
      let a : ℕ = sums + nat_abs x.entry.pair.sum in
      let b : ℕ = counts + nat_abs x.entry.pair.count in
      all_weaken
      (λ y v.
      met_combinable kind n x.entry.pair y.entry.pair few
      (record {
        sums = λ e. omega (arith, sum_here kind n l a b y v e);
        counts = λ e. omega (arith, count_here kind n l a b y v e);
        values = λ e. (value_here kind n (suc l) sums counts x w e, value_here kind n l a b y v e);
      }))
      (weighed_below kind n l sums counts x w)
