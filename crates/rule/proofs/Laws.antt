-- The laws of the combining rules: each is lawful, and what each keeps within bounds. Assumes nothing.
use Rattle.std.proofs.Common.{int_eq, ap₂, ◌≡◌, ℕ, ◌+◌, ◌≤◌, max, Bool, true, false, cond, ◌&&◌, eqb, ◌⊎◌, ◌↔◌, ℤ, pos, ◌+ℤ◌, nat_abs, sym, refl, ap, ◌∙◌, inl, inr, ⊎_elim, arith, w32, w64, SFits, eqb-true, le-leb, leb-true}
use mathlib.Core.Path.{subst⁻¹}
use mathlib.Core.Bool.{and-false}
use lib.IntN.{+ℤ_assoc, +ℤ_comm, +ℤ_idl, +ℤ_invr}
use Rattle.rule.specs.declared.Pair.{Pair}
use Rattle.rule.specs.Time.{most_value, value_ok}
use Rattle.rule.specs.Pairs.{none, opposite, same_number, same_pair, added, greater, lesser, better, combine, Lawful, Invertible}
use Rattle.rule.specs.Bounds.{Combinable, value_or_none}
use Rattle.rule.proofs.Tests.{one_test, both, either}
use Rattle.rule.proofs.Signed.{sfits_nat_abs, nat_abs_add, same_number_is, int_eq_same}
use Rattle.rule.proofs.Order.{Best, least, greatest}

-- ---- equal pairs

-- what `p == q` answers on pairs is the test for equal pairs
pub pairs_equal : (p q : Pair) → int_eq p.sum q.sum && int_eq p.count q.count ≡ same_pair p q
unfolding same_pair
pairs_equal p q = ap₂ ◌&&◌ (int_eq_same p.sum q.sum) (int_eq_same p.count q.count)

pub pair_eq : {p q : Pair} → p.sum ≡ q.sum → p.count ≡ q.count → p ≡ q
pair_eq e f = λ i. record { sum = e i; count = f i }

pub same_pair_is : (p q : Pair) → (same_pair p q ≡ true) ↔ (p ≡ q)
unfolding same_pair
same_pair_is p q =
    (λ t. pair_eq (fields.0 t).0 (fields.0 t).1, λ e. fields.1 (ap (λ (r : Pair). r.sum) e, ap (λ (r : Pair). r.count) e))
  where
    fields : (same_pair p q ≡ true) ↔ ((p.sum ≡ q.sum) × (p.count ≡ q.count))
    fields =
        both (same_number p.sum q.sum) (same_number p.count q.count)
        (same_number_is p.sum q.sum)
        (same_number_is p.count q.count)

none_or : (p : Pair) → (p ≡ none) ⊎ (same_pair p none ≡ false)
none_or p = go (same_pair p none) refl
  where
    go : (x : Bool) → same_pair p none ≡ x → (p ≡ none) ⊎ (same_pair p none ≡ false)
    go true e = inl ((same_pair_is p none).0 e)
    go false e = inr e

-- ---- kind 1

added_lawful : Lawful added
unfolding added
added_lawful =
    record {
      assoc = λ p q r. pair_eq (+ℤ_assoc p.sum q.sum r.sum) (+ℤ_assoc p.count q.count r.count);
      comm = λ p q. pair_eq (+ℤ_comm p.sum q.sum) (+ℤ_comm p.count q.count);
      unit = λ p. pair_eq (+ℤ_idl p.sum) (+ℤ_idl p.count);
    }

pub invertible : Invertible (combine 1)
unfolding combine added
invertible = record { undone = λ p. pair_eq (+ℤ_invr p.sum) (+ℤ_invr p.count) }

pub kind_inverse : (kind : ℕ) → eqb kind 1 ≡ true → Invertible (combine kind)
kind_inverse kind h = subst⁻¹ (λ k. Invertible (combine k)) (eqb-true kind 1 h) invertible

-- where an entry can be undone, a pair that is combined with two tells them apart as they are
module _ {◌⊕◌ : Pair → Pair → Pair} (laws : Lawful ◌⊕◌) (undo : Invertible ◌⊕◌) where
  infixl 60 ◌⊕◌
  pub cancel : (p q r : Pair) → p ⊕ q ≡ p ⊕ r → q ≡ r
  cancel p q r e = sym (back q) ∙ ap (λ (z : Pair). opposite p ⊕ z) e ∙ back r
    where
      back : (q : Pair) → opposite p ⊕ (p ⊕ q) ≡ q
      back q =
          sym (laws.assoc (opposite p) p q) ∙ ap (λ (z : Pair). z ⊕ q) (laws.comm (opposite p) p ∙ undo.undone p) ∙ laws.unit q

  pub same_above : (p q r : Pair) → same_pair (p ⊕ q) (p ⊕ r) ≡ same_pair q r
  same_above p q r =
      one_test (same_pair (p ⊕ q) (p ⊕ r)) (same_pair q r)
      (λ t. cancel p q r ((same_pair_is (p ⊕ q) (p ⊕ r)).0 t), λ e. (same_pair_is (p ⊕ q) (p ⊕ r)).1 (ap (λ (z : Pair). p ⊕ z) e))
      (same_pair_is q r)

-- ---- kinds 2 and 3: for any choice of the better of two numbers

-- the better of two values, with the mark
abbrev value_of : (ℤ → ℤ → ℤ) → Pair → Pair → Pair
value_of best p q = record { sum = best p.sum q.sum; count = pos 1 }

module _ (best : ℤ → ℤ → ℤ) where
  infixl 60 ◌⊕◌
  abbrev ◌⊕◌ : Pair → Pair → Pair
  p ⊕ q = better best p q

  -- what holds of both pairs and of the better value holds of the two together
  pub better_is {ℓ} : (P : Pair → Type ℓ) (p q : Pair) → P p → P q → P (value_of best p q) → P (better best p q)
  unfolding better
  better_is P p q a b v = go (same_pair p none) (same_pair q none)
    where
      go : (x y : Bool) → P (cond x q (cond y p (value_of best p q)))
      go true y = b
      go false true = a
      go false false = v

  better_some : (p q : Pair) → same_pair p none ≡ false → same_pair q none ≡ false → p ⊕ q ≡ value_of best p q
  unfolding better
  better_some p q e f = rw (e, f)

  marked : (p q : Pair) → same_pair (value_of best p q) none ≡ false
  unfolding same_pair same_number
  marked p q = and-false (same_number (best p.sum q.sum) (pos 0))

  unit_left : (p : Pair) → none ⊕ p ≡ p
  unfolding better same_pair same_number
  unit_left p = refl

  unit_right : (p : Pair) → p ⊕ none ≡ p
  unfolding better same_pair same_number
  unit_right p = ⊎_elim (λ e. rw e (unit_left none)) (λ f. rw f refl) (none_or p)

  module _ (choice : Best best) where
    better_comm : (p q : Pair) → p ⊕ q ≡ q ⊕ p
    better_comm p q =
        ⊎_elim (λ e. rw e (unit_left q ∙ sym (unit_right q)))
        (λ x. ⊎_elim (λ f. rw f (unit_right p ∙ sym (unit_left p))) (both_some x) (none_or q)) (none_or p)
      where
        both_some : same_pair p none ≡ false → same_pair q none ≡ false → p ⊕ q ≡ q ⊕ p
        both_some x y = better_some p q x y ∙ pair_eq (choice.comm p.sum q.sum) refl ∙ sym (better_some q p y x)

    better_assoc : (p q r : Pair) → (p ⊕ q) ⊕ r ≡ p ⊕ (q ⊕ r)
    better_assoc p q r =
        ⊎_elim (λ e. rw e (ap (λ t. t ⊕ r) (unit_left q) ∙ sym (unit_left (q ⊕ r))))
        (λ x. ⊎_elim (λ e. rw e (ap (λ t. t ⊕ r) (unit_right p) ∙ sym (ap (λ t. p ⊕ t) (unit_left r))))
        (λ y. ⊎_elim (λ e. rw e (unit_right (p ⊕ q) ∙ sym (ap (λ t. p ⊕ t) (unit_right q))))
        (all_some x y) (none_or r)) (none_or q)) (none_or p)
      where
        all_some : same_pair p none ≡ false → same_pair q none ≡ false → same_pair r none ≡ false → (p ⊕ q) ⊕ r ≡ p ⊕ (q ⊕ r)
        all_some x y z =
            rw (better_some p q x y, better_some q r y z)
            (better_some (value_of best p q) r (marked p q) z
            ∙ pair_eq (choice.assoc p.sum q.sum r.sum) refl
            ∙ sym (better_some p (value_of best q r) x (marked q r)))

    better_lawful : Lawful (better best)
    better_lawful = record { assoc = better_assoc; comm = better_comm; unit = unit_left }

-- ---- by the kind

abbrev of_tests : Bool → Bool → Pair → Pair → Pair
of_tests x y p q = cond x (added p q) (cond y (better greater p q) (better lesser p q))

-- what holds of the better of any choice holds of kinds 2 and 3
pub by_choice {ℓ} : (P : (Pair → Pair → Pair) → Type ℓ) → ((best : ℤ → ℤ → ℤ) → Best best → P (better best)) → (kind : ℕ)
    → eqb kind 1 ≡ false → P (combine kind)
unfolding combine
by_choice P b kind e = subst⁻¹ (λ (x : Bool). P (of_tests x (eqb kind 2))) e (go (eqb kind 2))
  where
    go : (y : Bool) → P (of_tests false y)
    go true = b greater greatest
    go false = b lesser least

-- and what holds of adding too, of every kind
pub by_kind {ℓ} : (P : (Pair → Pair → Pair) → Type ℓ) → P added → ((best : ℤ → ℤ → ℤ) → Best best → P (better best)) → (kind : ℕ)
    → P (combine kind)
unfolding combine
by_kind P a b kind = go (eqb kind 1) refl
  where
    go : (x : Bool) → eqb kind 1 ≡ x → P (combine kind)
    go true e = subst⁻¹ (λ (x : Bool). P (of_tests x (eqb kind 2))) e a
    go false e = by_choice P b kind e

pub lawful : (kind : ℕ) → Lawful (combine kind)
lawful = by_kind Lawful added_lawful better_lawful

-- ---- the ways out of the code

pub combine_left : (kind : ℕ) (p q : Pair) → same_pair p none ≡ true → q ≡ combine kind p q
combine_left kind p q e = rw ((same_pair_is p none).0 e) (sym ((lawful kind).unit q))

pub combine_right : (kind : ℕ) (p q : Pair) → same_pair q none ≡ true → p ≡ combine kind p q
combine_right kind p q e = rw ((same_pair_is q none).0 e) (sym ((lawful kind).comm p none ∙ (lawful kind).unit p))

pub combine_some : (kind : ℕ) (p q : Pair) → eqb kind 1 ≡ false → same_pair p none ≡ false → same_pair q none ≡ false
    → value_of (λ a b. cond (eqb kind 2) (greater a b) (lesser a b)) p q ≡ combine kind p q
unfolding combine better
combine_some kind p q k e f = rw (k, e, f) (go (eqb kind 2))
  where
    go : (y : Bool) → value_of (λ a b. cond y (greater a b) (lesser a b)) p q ≡ cond y (value_of greater p q) (value_of lesser p q)
    go true = refl
    go false = refl

-- ---- bounds

-- the better of two numbers is no farther from zero than both are
pub best_bound : {best : ℤ → ℤ → ℤ} → Best best → (a b : ℤ) → nat_abs (best a b) ≤ max (nat_abs a) (nat_abs b)
best_bound {best} choice a b = ⊎_elim (λ e. rw e (omega arith)) (λ e. rw e (omega arith)) (choice.picks a b)

pub better_sum_bound : {best : ℤ → ℤ → ℤ} → Best best → (p q : Pair)
    → nat_abs (better best p q).sum ≤ max (nat_abs p.sum) (nat_abs q.sum)
better_sum_bound {best} choice p q =
    better_is best (λ r. nat_abs r.sum ≤ max (nat_abs p.sum) (nat_abs q.sum)) p q (omega arith) (omega arith)
    (best_bound choice p.sum q.sum)

pub combine_sum_bound : (kind : ℕ) (p q : Pair) → nat_abs (combine kind p q).sum ≤ nat_abs p.sum + nat_abs q.sum
unfolding added
combine_sum_bound kind p q =
    by_kind (λ rule. nat_abs (rule p q).sum ≤ nat_abs p.sum + nat_abs q.sum)
    (nat_abs_add p.sum q.sum)
    (λ best choice. omega (arith, better_sum_bound choice p q))
    kind

-- kind 1 has no such mark
pub total_count_bound : (p q : Pair) → nat_abs (combine 1 p q).count ≤ nat_abs p.count + nat_abs q.count
unfolding combine added
total_count_bound p q = nat_abs_add p.count q.count

-- pairs that can be combined fit their types, and so do their totals
pub record Fitting (p q : Pair) : Type 0 where
  pub sum₁ : SFits w64 p.sum
  pub sum₂ : SFits w64 q.sum
  pub count₁ : SFits w32 p.count
  pub count₂ : SFits w32 q.count
  pub sums : SFits w64 (p.sum +ℤ q.sum)
  pub counts : SFits w32 (p.count +ℤ q.count)

pub fitting : (p q : Pair) → Combinable p q → Fitting p q
fitting p q ok =
    record {
      sum₁ = sfits_nat_abs w64 (omega arith);
      sum₂ = sfits_nat_abs w64 (omega arith);
      count₁ = sfits_nat_abs w32 (omega arith);
      count₂ = sfits_nat_abs w32 (omega arith);
      sums = sfits_nat_abs w64 (omega (arith, nat_abs_add p.sum q.sum));
      counts = sfits_nat_abs w32 (omega (arith, nat_abs_add p.count q.count));
    }

-- ---- a value or none

pub value_ok_is : (v : ℤ) → (value_ok v ≡ true) ↔ (nat_abs v ≤ most_value)
unfolding value_ok
value_ok_is v = (leb-true (nat_abs v) most_value, le-leb (nat_abs v) most_value)

pub value_or_none_is : (p : Pair) → (value_or_none p ≡ true) ↔ ((p ≡ none) ⊎ ((nat_abs p.sum ≤ most_value) × (p.count ≡ pos 1)))
unfolding value_or_none
value_or_none_is p =
    either (same_pair p none) (value_ok p.sum && same_number p.count (pos 1))
    (same_pair_is p none)
    (both (value_ok p.sum) (same_number p.count (pos 1)) (value_ok_is p.sum) (same_number_is p.count (pos 1)))

pub value_or_none_bound : (p : Pair) → value_or_none p ≡ true → (nat_abs p.sum ≤ most_value) × (nat_abs p.count ≤ 1)
value_or_none_bound p t = ⊎_elim (λ e. rw e (omega arith)) (λ h. (h.0, rw h.1 (omega arith))) ((value_or_none_is p).0 t)

pub combine_value_or_none : (kind : ℕ) (p q : Pair) → eqb kind 1 ≡ false → value_or_none p ≡ true → value_or_none q ≡ true
    → value_or_none (combine kind p q) ≡ true
combine_value_or_none kind p q k a b =
    by_choice (λ rule. value_or_none (rule p q) ≡ true)
    (λ best choice. better_is best (λ r. value_or_none r ≡ true) p q a b
    ((value_or_none_is (value_of best p q)).1
    (inr (omega (arith, best_bound choice p.sum q.sum, value_or_none_bound p a, value_or_none_bound q b), refl))))
    kind k

pub values_combinable : (p q : Pair) → value_or_none p ≡ true → value_or_none q ≡ true → Combinable p q
values_combinable p q a b = omega (arith, value_or_none_bound p a, value_or_none_bound q b)
