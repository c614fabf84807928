-- A test of each index of a range, as a chain of an iterator's methods makes it. Assumes nothing.
use Rattle.std.proofs.Common.{◌≡◌, ℕ, zero, suc, ◌+◌, Bool, ◌&&◌, sym, refl, ap, ◌∙◌, arith}
use Rattle.std.specs.List.{list_all, range_with_len}
use mathlib.Core.Bool.{and-true, and_assoc}
use native.Mathlib.Nat.{zero-add}
use Rattle.fields.specs.Bytes.{every}

every_first : (n : ℕ) (p : ℕ → Bool) → p 0 && every n (λ i. p (suc i)) ≡ every (suc n) p
unfolding every
every_first zero p = and-true (p 0)
every_first (suc n) p =
    sym (and_assoc (p 0) (every n (λ i. p (suc i))) (p (suc n))) ∙ ap (λ t. t && p (suc n)) (every_first n p)

next : (a i : ℕ) → a + 1 + i ≡ a + suc i
next a i = omega arith

pub all_from : (a n : ℕ) (p : ℕ → Bool) → list_all p (range_with_len a n) ≡ every n (λ i. p (a + i))
unfolding every
all_from a zero p = refl
all_from a (suc n) p =
    ap (λ t. p a && t) (all_from (a + 1) n p)
    ∙ (λ j. p (here j) && every n (λ i. p (next a i j)))
    ∙ every_first n (λ i. p (a + i))
  where
    here : a ≡ a + 0
    here = omega arith

pub all_indices : (n : ℕ) (p : ℕ → Bool) → list_all p (range_with_len 0 n) ≡ every n p
all_indices n p = all_from 0 n p ∙ (λ j. every n (λ i. p (zero-add i j)))
