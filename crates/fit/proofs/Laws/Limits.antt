-- The limits of a page allow an entry exactly where it may stand there, by the kind and by what is left of the bounds. Assumes nothing.
use Rattle.std.proofs.Common.{◌≡◌, ℕ, ◌+◌, ◌-◌, ◌*◌, ◌%◌, ◌^◌, ◌<◌, ◌≤◌, Bool, true, false, cond, ◌&&◌, eqb, ltb, leb, ◌⊎◌, ℤ, pos, negsuc, nat_abs, sym, refl, ap, ◌∙◌, ap₂, inl, inr, arith, w32, w64, to_z, le-ltb, eq-eqb, eqb-true}
use mathlib.Core.Bool.{and-false, and-eq-true_iff, false≢true}
use native.Mathlib.Decide.{dec_lt}
use lib.Dec.{leb-zero}
use mir.Facts.{to_z_pos, to_z_inj}
use Rattle.rule.specs.Time.{most_value}
use Rattle.rule.specs.Pairs.{pair, none}
use Rattle.rule.specs.Bounds.{value_or_none}
use Rattle.rule.proofs.Tests.{one_test, both}
use Rattle.rule.proofs.Laws.{value_or_none_is}
use Rattle.rule.proofs.Wrapped.{abs_low, abs_high}
use Rattle.page.specs.declared.Head.{Head}
use Rattle.page.specs.Fit.{PageContext, child_ok}
use Rattle.fit.specs.Limits.{allows, LimitsOf}
use Rattle.fit.proofs.Tests.{le_is, lt_is}
use Rattle.fit.proofs.Laws.Parts.{pair_total, pair_mark}

-- ---- the child, by the level

-- the first child of a level, and the number behind the last
abbrev pub first_child : ℕ → ℕ
first_child level = cond (eqb level 0) 0 1

abbrev pub past_child : ℕ → ℕ → ℕ
past_child pages level = cond (eqb level 0) 1 pages

child_within : (pages level child : ℕ)
    → (leb (first_child level) child && ltb child (past_child pages level)) ≡ child_ok pages level child
unfolding child_ok
child_within pages level child = go (eqb level 0)
  where
    only : ltb child 1 ≡ eqb child 0
    only = one_test _ _ (lt_is child 1) (λ h. omega (arith, eqb-true child 0 h), λ h. eq-eqb child 0 (omega arith))

    go : (leaf : Bool) → (leb (cond leaf 0 1) child && ltb child (cond leaf 1 pages))
        ≡ cond leaf (eqb child 0) (leb 1 child && ltb child pages)
    go true = ap₂ ◌&&◌ (leb-zero child) only
    go false = refl

past_small : (leaf : Bool) (pages : ℕ) → pages < 2 ^ 32 → cond leaf 1 pages < 2 ^ 32
past_small true pages h = omega arith
past_small false pages h = h

first_small : (leaf : Bool) → cond leaf 0 1 ≤ 1
first_small true = omega arith
first_small false = omega arith

-- no child lies below 0
none_below : (a : Bool) (child : ℕ) (b : Bool) → ((a && ltb child 0) && b) ≡ false
none_below a child b = ap (λ t. (a && t) && b) (le-ltb child 0 (omega arith)) ∙ ap (λ t. t && b) (and-false a)

-- ---- the count, by its bits

count_within : (c b : ℕ) → c < 2 ^ 32 → leb ((c + b) % 2 ^ 32) (2 * b) ≡ leb (nat_abs (to_z w32 c)) b
count_within c b h = go (dec_lt c (2 ^ 31))
  where
    go : Dec (c < 2 ^ 31) → leb ((c + b) % 2 ^ 32) (2 * b) ≡ leb (nat_abs (to_z w32 c)) b
    go (yes l) =
        let a : nat_abs (to_z w32 c) ≡ c = abs_low w32 l in
        one_test _ _ (le_is _ (2 * b)) (λ k. omega (arith, (le_is _ b).0 k), λ k. (le_is _ b).1 (omega arith))
    go (no l) =
        let a : nat_abs (to_z w32 c) ≡ 2 ^ 32 - c = abs_high w32 (omega arith) h (omega arith) in
        one_test _ _ (le_is _ (2 * b)) (λ k. omega (arith, (le_is _ b).0 k), λ k. (le_is _ b).1 (omega arith))

-- what is left of a bound
left_within : (above n most : ℕ) → above ≤ most → leb n (most - above) ≡ leb (above + n) most
left_within above n most h = one_test _ _ (le_is n _) (λ k. omega (arith, (le_is _ most).0 k), λ k. (le_is _ most).1 (omega arith))

-- ---- a value or none, by the bits

bits_are : (c k : ℕ) → c < 2 ^ 32 → k < 2 ^ 31 → to_z w32 c ≡ pos k → c ≡ k
bits_are c k h l e = to_z_inj {w = w32} (record { fits = h }) (record { fits = omega arith }) (e ∙ sym (to_z_pos w32 l))

no_number : (z : ℤ) → nat_abs z ≤ 0 → z ≡ pos 0
no_number (pos n) h = ap pos (omega arith)
no_number (negsuc n) h = absurd (omega arith)

value_within : (x c : ℕ) → c < 2 ^ 32
    → (leb (nat_abs (to_z w64 x)) (0 + most_value * c) && leb ((c + 0) % 2 ^ 32) 1) ≡ value_or_none (pair (to_z w64 x) (to_z w32 c))
value_within x c h =
    one_test _ _ (both _ _ (le_is _ _) (le_is _ _))
    (λ t. within ((value_or_none_is _).0 t), λ k. (value_or_none_is _).1 (go (dec_lt c 1) k.0 (omega (arith, k.1))))
  where
    go : Dec (c < 1) → nat_abs (to_z w64 x) ≤ 0 + most_value * c → c ≤ 1
        → (pair (to_z w64 x) (to_z w32 c) ≡ none) ⊎ ((nat_abs (to_z w64 x) ≤ most_value) × (to_z w32 c ≡ pos 1))
    go (yes l) k m =
        let z : c ≡ 0 = omega arith in
        inl (ap₂ pair (no_number (to_z w64 x) (omega arith)) (ap (to_z w32) z))
    go (no l) k m =
        let z : c ≡ 1 = omega arith in
        inr (omega arith, ap (to_z w32) z)

    within : (pair (to_z w64 x) (to_z w32 c) ≡ none) ⊎ ((nat_abs (to_z w64 x) ≤ most_value) × (to_z w32 c ≡ pos 1))
        → (nat_abs (to_z w64 x) ≤ 0 + most_value * c) × ((c + 0) % 2 ^ 32 ≤ 1)
    within (inl e) =
        let z : c ≡ 0 = bits_are c 0 h (omega arith) (ap (λ q. q.count) e) in
        let y : nat_abs (to_z w64 x) ≡ 0 = ap (λ q. nat_abs q.sum) e in
        (omega arith, omega arith)
    within (inr f) =
        let z : c ≡ 1 = bits_are c 1 h (omega arith) f.1 in
        (omega (arith, f.0), omega arith)

-- ---- the limits of a page

module _ (h : Head) (at : PageContext) (first past : ℕ) (e : first ≡ first_child at.level)
    (f : past ≡ past_child h.pages at.level) where
  child_of : (child : ℕ) → (leb first child && ltb child past) ≡ child_ok h.pages at.level child
  child_of child = ap₂ (λ a b. leb a child && ltb child b) e f ∙ child_within h.pages at.level child

  first_low : first ≤ 1
  first_low = rw e (first_small (eqb at.level 0))

  past_low : h.pages < 2 ^ 32 → past < 2 ^ 32
  past_low p = rw f (past_small (eqb at.level 0) h.pages p)

  -- kinds 2 and 3
  pub limits_mark : h.pages < 2 ^ 32 → eqb h.kind 1 ≡ false
      → LimitsOf h at (record { sum = 0; each = most_value; below = 0; span = 1; first = first; past = past })
  unfolding allows
  limits_mark p k =
      record {
        small = record {
          sum = omega arith;
          each = omega arith;
          below = omega arith;
          span = omega arith;
          first = first_low;
          past = past_low p;
          twice = omega arith;
        };
        same = λ x c i _ g. ap₂ ◌&&◌ (child_of i) (value_within x c g ∙ sym (pair_mark h at _ k));
      }

  -- kind 1, as far as the entries above leave room
  pub limits_total : h.pages < 2 ^ 32 → h.changes < 2 ^ 32 → eqb h.kind 1 ≡ true
      → at.sums ≤ most_value * h.changes → at.counts ≤ h.changes
      → LimitsOf h at (record {
        sum = most_value * h.changes - at.sums;
        each = 0;
        below = h.changes - at.counts;
        span = 2 * (h.changes - at.counts);
        first = first;
        past = past;
      })
  unfolding allows
  limits_total p m k a b =
      record {
        small = record {
          sum = omega arith;
          each = omega arith;
          below = omega arith;
          span = omega arith;
          first = first_low;
          past = past_low p;
          twice = omega arith;
        };
        same = λ x c i _ g.
            let room : most_value * h.changes - at.sums + 0 * c ≡ most_value * h.changes - at.sums = omega arith in
            ap₂ ◌&&◌ (child_of i)
            (ap₂ ◌&&◌ (ap (leb _) room ∙ left_within at.sums _ _ a) (count_within c _ g ∙ left_within at.counts _ _ b)
            ∙ sym (pair_total h at _ k));
      }

  -- kind 1, where those above have gone past a bound: nothing fits
  pub limits_none : eqb h.kind 1 ≡ true → (leb at.sums (most_value * h.changes) && leb at.counts h.changes) ≡ false
      → LimitsOf h at (record { sum = 0; each = 0; below = 0; span = 0; first = first; past = 0 })
  unfolding allows
  limits_none k n =
      record {
        small = record {
          sum = omega arith;
          each = omega arith;
          below = omega arith;
          span = omega arith;
          first = first_low;
          past = omega arith;
          twice = omega arith;
        };
        same = λ x c i _ g.
            none_below (leb first i) i _
            ∙ sym (ap (λ t. child_ok h.pages at.level i && t)
            (pair_total h at _ k ∙ unfit (nat_abs (to_z w64 x)) (nat_abs (to_z w32 c))) ∙ and-false (child_ok _ _ i));
      }
    where
      unfit : (x c : ℕ) → (leb (at.sums + x) (most_value * h.changes) && leb (at.counts + c) h.changes) ≡ false
      unfit x c = one_test _ _ (both _ _ (le_is _ _) (le_is _ _)) (λ t. absurd (false≢true t), λ q. sym n ∙ fits q)
        where
          fits : (at.sums + x ≤ most_value * h.changes) × (at.counts + c ≤ h.changes)
              → (leb at.sums (most_value * h.changes) && leb at.counts h.changes) ≡ true
          fits q =
              let a : at.sums ≤ most_value * h.changes = omega arith in
              let b : at.counts ≤ h.changes = omega arith in
              (and-eq-true_iff _ _).1 ((le_is _ _).1 a, (le_is _ _).1 b)
