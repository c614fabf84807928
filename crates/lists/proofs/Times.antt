-- How often a number stands in a list, and the counting argument: lists that hold only numbers from 1 to m, none twice, hold each
-- of these once exactly if they are m long together. Assumes nothing.
use mathlib.Core.Path.{◌≡◌, refl, sym, ap, ◌∙◌}
use mathlib.Core.Bool.{Bool, true, and-eq-true_iff}
use mathlib.Core.List.{List, [], ◌∷◌, ◌++◌}
use Prim.Native.Nat.{ℕ, suc, ◌+◌, ◌≤◌, ◌<◌}
use native.Mathlib.Omega.{arith}
use native.Mathlib.Decide.{ℕ_discrete}
use lib.ListN.{length}
use Rattle.lists.specs.Lists.{listed, concat_map, hit, times, sum, total, all_of}
use Rattle.lists.proofs.Totals.{total_add, total_most, total_zeros, total_ones, all_ones, total_one, total_hits, hit_same, hit_other}
use Rattle.lists.proofs.Concat.{sum_append, sum_concat_map}

pub times_none : (p : ℕ) → times p [] ≡ 0
unfolding times
times_none p = refl

pub times_cons : (p q : ℕ) (qs : List ℕ) → times p (q ∷ qs) ≡ hit p q + times p qs
unfolding times
times_cons p q qs = refl

pub times_same : (p q : ℕ) (qs : List ℕ) → p ≡ q → times p (q ∷ qs) ≡ suc (times p qs)
times_same p q qs e = omega (arith, times_cons p q qs, hit_same p q e)

pub times_other : (p q : ℕ) (qs : List ℕ) → (p ≡ q → ⊥) → times p (q ∷ qs) ≡ times p qs
times_other p q qs d = omega (arith, times_cons p q qs, hit_other p q d)

-- as a sum, of 1 for that number alone
pub times_is : (p : ℕ) (ps : List ℕ) → times p ps ≡ sum (hit p) ps
unfolding times sum
times_is p [] = refl
times_is p (q ∷ qs) = ap (λ n. hit p q + n) (times_is p qs)

pub times_append : (p : ℕ) (xs ys : List ℕ) → times p (xs ++ ys) ≡ times p xs + times p ys
times_append p xs ys = omega (arith, times_is p (xs ++ ys), sum_append (hit p) xs ys, times_is p xs, times_is p ys)

-- in lists one behind another
pub times_concat_map : {A : Type 0} (f : A → List ℕ) (g : ℕ → A) (n p : ℕ)
    → times p (concat_map f (listed n g)) ≡ total n (λ i. times p (f (g i)))
times_concat_map f g n p =
    times_is p (concat_map f (listed n g))
    ∙ sum_concat_map (hit p) f g n
    ∙ (λ j. total n (λ i. sym (times_is p (f (g i))) j))

-- ---- each element once

-- what adds to 1 over the numbers below n for each element adds to the length for all
ones_length : (n : ℕ) (f : ℕ → ℕ → ℕ) (ps : List ℕ) → ((p : ℕ) → 1 ≤ times p ps → total n (λ i. f i p) ≡ 1)
    → total n (λ i. sum (f i) ps) ≡ length ps
unfolding sum
ones_length n f [] h = total_zeros n
ones_length n f (p ∷ ps) h =
    omega (
      arith,
      total_add n (λ i. f i p) (λ i. sum (f i) ps),
      h p (omega (arith, times_same p p ps refl)),
      ones_length n f ps (λ q l. h q (omega (arith, times_cons q p ps))),
    )

-- the elements at place i, for all places, are all elements
pub sum_hits : (n : ℕ) (place : ℕ → ℕ) (ps : List ℕ) → ((p : ℕ) → 1 ≤ times p ps → place p < n)
    → total n (λ i. sum (λ p. hit i (place p)) ps) ≡ length ps
sum_hits n place ps h = ones_length n (λ i p. hit i (place p)) ps (λ p l. total_hits n (place p) (h p l))

-- ---- the counting argument

-- only numbers from 1 to m
abbrev pub Within : ℕ → List ℕ → Type 0
Within m xs = (p : ℕ) → 1 ≤ times p xs → (1 ≤ p) × (p ≤ m)

length_total : (m : ℕ) (xs : List ℕ) → Within m xs → total m (λ i. times (suc i) xs) ≡ length xs
length_total m xs w =
    (λ j. total m (λ i. times_is (suc i) xs j))
    ∙ ones_length m (λ i. hit (suc i)) xs (λ p l. total_one m p (w p l).0 (w p l).1)

pub short_of_once : (m : ℕ) (xs : List ℕ) → Within m xs → ((p : ℕ) → times p xs ≤ 1) → length xs ≤ m
short_of_once m xs w h = omega (arith, length_total m xs w, total_most m (λ i. times (suc i) xs) (λ i l. h (suc i)))

module _ (m : ℕ) (xs ys : List ℕ) (v : Within m xs) (w : Within m ys) where
  both_total : total m (λ i. times (suc i) xs + times (suc i) ys) ≡ length xs + length ys
  both_total =
      omega (
        arith,
        total_add m (λ i. times (suc i) xs) (λ i. times (suc i) ys),
        length_total m xs v,
        length_total m ys w,
      )

  pub count_of_once : ((i : ℕ) → i < m → times (suc i) xs + times (suc i) ys ≡ 1) → length xs + length ys ≡ m
  count_of_once h = sym both_total ∙ total_ones m (λ i. times (suc i) xs + times (suc i) ys) h

  pub once_of_count : ((p : ℕ) → times p xs + times p ys ≤ 1) → length xs + length ys ≡ m → (i : ℕ) → i < m
      → times (suc i) xs + times (suc i) ys ≡ 1
  once_of_count h e = all_ones m (λ i. times (suc i) xs + times (suc i) ys) (λ i l. h (suc i)) (both_total ∙ e)

-- ---- what holds of every number of a list

pub all_of_each : (ok : ℕ → Bool) (xs : List ℕ) → all_of ok xs ≡ true → (p : ℕ) → 1 ≤ times p xs → ok p ≡ true
unfolding all_of
all_of_each ok [] e p h = absurd (omega (arith, times_none p))
all_of_each ok (x ∷ xs) e p h =
    let k = simp and-eq-true_iff at e in
    go (ℕ_discrete p x) k.0 (all_of_each ok xs k.1 p)
  where
    go : Dec (p ≡ x) → ok x ≡ true → (1 ≤ times p xs → ok p ≡ true) → ok p ≡ true
    go (yes c) here later = ap ok c ∙ here
    go (no c) here later = later (omega (arith, times_other p x xs c))

pub each_all_of : (ok : ℕ → Bool) (xs : List ℕ) → ((p : ℕ) → 1 ≤ times p xs → ok p ≡ true) → all_of ok xs ≡ true
unfolding all_of
each_all_of ok [] f = refl
each_all_of ok (x ∷ xs) f =
    simp and-eq-true_iff
    (f x (omega (arith, times_same x x xs refl)), each_all_of ok xs (λ p h. f p (omega (arith, times_cons p x xs))))
