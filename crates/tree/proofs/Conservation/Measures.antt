-- The measures of each kind's pairs: for kind 1 the absolute sum and the absolute count, for kinds 2 and 3 that each is a value or none.
-- Assumes nothing.
use Prim.Native.Nat.{ℕ, ◌+◌, ◌≤◌}
use mathlib.Core.Path.{◌≡◌, refl}
use mathlib.Core.Logic.{inl}
use mathlib.Core.Bool.{true, false}
use native.Mathlib.Omega.{arith}
use lib.Dec.{eqb}
use lib.IntN.{nat_abs}
use borrow.Author.Tests.{eqb-true}
use Rattle.rule.specs.declared.Pair.{Pair}
use Rattle.rule.specs.Pairs.{none, combine}
use Rattle.rule.specs.Bounds.{value_or_none}
use Rattle.rule.proofs.Laws.{combine_sum_bound, total_count_bound, value_or_none_is, combine_value_or_none}
use Rattle.tree.specs.Conserved.{NormLaws}

-- a measure with nothing asked of each pair
measured : {◌⊕◌ : Pair → Pair → Pair} {norm : Pair → ℕ} → norm none ≡ 0 → ((p q : Pair) → norm (◌⊕◌ p q) ≤ norm p + norm q)
    → NormLaws ◌⊕◌ norm (λ p. Unit {0})
measured z s = record { norm_none = z; norm_sum = s; each_none = tt; each_sum = λ p q a b. tt }

pub sums_bounded : (kind : ℕ) → NormLaws (combine kind) (λ p. nat_abs p.sum) (λ p. Unit {0})
sums_bounded kind = measured refl (combine_sum_bound kind)

-- kinds 2 and 3 have a mark there
pub counts_bounded : (kind : ℕ) → eqb kind 1 ≡ true → NormLaws (combine kind) (λ p. nat_abs p.count) (λ p. Unit {0})
counts_bounded kind k = rw (eqb-true kind 1 k) (measured refl total_count_bound)

pub values_bounded : (kind : ℕ) → eqb kind 1 ≡ false → NormLaws (combine kind) (λ p. 0) (λ p. value_or_none p ≡ true)
values_bounded kind k =
    record {
      norm_none = refl;
      norm_sum = λ p q. omega arith;
      each_none = (value_or_none_is none).1 (inl refl);
      each_sum = λ p q. combine_value_or_none kind p q k;
    }
