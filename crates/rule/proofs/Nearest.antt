-- Rounding: `hundredths` is the one whole number that the words of document 02, (ix), name. Assumes nothing.
use Rattle.std.proofs.Common.{◌≡◌, ℕ, suc, ◌+◌, ◌-◌, ◌*◌, ◌/◌, ◌%◌, ◌<◌, ◌≤◌, Bool, true, false, cond, not, ◌&&◌, ◌||◌, eqb, ltb, ◌⊎◌, ℤ, pos, negsuc, ◌+ℤ◌, ◌*ℤ◌, neg_ℤ, nat_abs, sym, refl, ap, ◌∙◌, inl, inr, ⊎_elim, le_refl, mul-le-mul_right, mod-lt, suc-mul, le_antisymm, eq-or-lt_of_le, div-add-mod', arith, ltb-false, ltb-true, eqb-true}
use lib.IntN.{neg_ℤ-neg_ℤ, neg_ℤ-+ℤ, *ℤ_comm}
use borrow.Author.Tests.{eqb-false}
use Rattle.rule.specs.Averages.{next_taken, nearest, distance, Nearest, TheNearest, hundredths}
use Rattle.rule.proofs.Signed.{nat_abs_neg, nat_abs_minus, neg_mul, parity}

-- ---- of two candidates, where every other number is a whole step away or more: the nearer one, and of two that are as near the even one

module _ {n : ℤ} {d : ℕ} (k other : ℤ) (places : (j : ℤ) → (j ≡ k) ⊎ ((j ≡ other) ⊎ (d ≤ distance n d j)))
    (short : distance n d k < d) (nearer : distance n d k ≤ distance n d other)
    (tie : distance n d other ≡ distance n d k → (nat_abs k % 2 ≡ 0) × (nat_abs other % 2 ≡ 1)) where
  -- the other one would have to be as near, and even
  not_other : Nearest n d other → ⊥
  not_other near =
      let as_near : distance n d other ≡ distance n d k = le_antisymm (near.none_nearer k) nearer in
      let even = near.even k (λ e. omega (arith, ap nat_abs e, tie as_near)) (sym as_near) in
      omega (arith, (tie as_near).1)

  the_nearer : TheNearest n d k
  the_nearer =
      record {
        is =
            record {
              none_nearer = λ j.
                  ⊎_elim (λ e. rw e (le_refl (distance n d k)))
                  (⊎_elim (λ e. rw e nearer) (λ far. omega (arith, far, short))) (places j);
              even = λ j differs as_near.
                  ⊎_elim (λ e. absurd (differs e))
                  (⊎_elim (λ e. (tie (rw e at as_near)).0) (λ far. absurd (omega (arith, far, short, as_near)))) (places j);
            };
        only = λ j near.
            ⊎_elim (λ e. e)
            (⊎_elim (λ e. absurd (not_other (rw e at near))) (λ far. absurd (omega (arith, far, short, near.none_nearer k)))) (places j);
      }

swapped {ℓ} : {A B C : Type ℓ} → A ⊎ (B ⊎ C) → B ⊎ (A ⊎ C)
swapped = ⊎_elim (λ x. inr (inl x)) (⊎_elim inl (λ z. inr (inr z)))

-- ---- distances from a number that isn't negative

to_positive : (a d b : ℕ) → distance (pos a) d (pos b) ≡ (a - b * d) + (b * d - a)
to_positive a d b = nat_abs_minus a (b * d)

to_negative : (a d b : ℕ) → distance (pos a) d (negsuc b) ≡ a + suc b * d
to_negative a d b = rw (neg_ℤ-neg_ℤ (pos (suc b * d))) refl

module _ (a d : ℕ) (some : 0 < d) where
  abbrev q : ℕ
  q = a / d

  abbrev r : ℕ
  r = a % d

  parts : (a ≡ q * d + r) × (r < d)
  parts = (sym (div-add-mod' a d), mod-lt a some)

  at_quotient : distance (pos a) d (pos q) ≡ r
  at_quotient = omega (arith, to_positive a d q, parts)

  at_next : distance (pos a) d (pos (suc q)) ≡ d - r
  at_next = omega (arith, to_positive a d (suc q), suc-mul q d, parts)

  -- every other whole number is a whole step away, or more
  place : (j : ℤ) → (j ≡ pos q) ⊎ ((j ≡ pos (suc q)) ⊎ (d ≤ distance (pos a) d j))
  place (negsuc b) = inr (inr (omega (arith, to_negative a d b, suc-mul b d)))
  place (pos b) = go (ltb b q) refl
    where
      behind : suc q < b → d ≤ distance (pos a) d (pos b)
      behind h =
          let m : suc (suc q) * d ≤ b * d = mul-le-mul_right d h in
          omega (arith, to_positive a d b, suc-mul (suc q) d, suc-mul q d, parts)

      go : (t : Bool) → ltb b q ≡ t → (pos b ≡ pos q) ⊎ ((pos b ≡ pos (suc q)) ⊎ (d ≤ distance (pos a) d (pos b)))
      go true e =
          let m : suc b * d ≤ q * d = mul-le-mul_right d (ltb-true b q e) in
          inr (inr (omega (arith, to_positive a d b, suc-mul b d, parts)))
      go false e =
          ⊎_elim (λ f. inl (ap pos (sym f)))
          (λ h. ⊎_elim (λ f. inr (inl (ap pos (sym f)))) (λ g. inr (inr (behind g))) (eq-or-lt_of_le h))
          (eq-or-lt_of_le (ltb-false b q e))

  -- ---- which of the two, where q stays and where the next is taken

  stays : 2 * r ≤ d → (2 * r ≡ d → q % 2 ≡ 0) → TheNearest (pos a) d (pos q)
  stays low even =
      the_nearer (pos q) (pos (suc q)) place (omega (arith, at_quotient, parts)) (omega (arith, at_quotient, at_next, parts))
      (λ e. omega (arith, even (omega (arith, at_quotient, at_next, parts, e))))

  passes : d ≤ 2 * r → (2 * r ≡ d → q % 2 ≡ 1) → TheNearest (pos a) d (pos (suc q))
  passes high odd =
      the_nearer (pos (suc q)) (pos q) (λ j. swapped (place j)) (omega (arith, at_next, parts)) (omega (arith, at_quotient, at_next, parts))
      (λ e. omega (arith, odd (omega (arith, at_quotient, at_next, parts, e))))

  pub nearest_is : TheNearest (pos a) d (pos (nearest a d))
  unfolding nearest next_taken
  nearest_is = go (ltb d (2 * r)) (eqb (2 * r) d) (eqb (q % 2) 0) refl refl refl
    where
      go : (x y z : Bool) → ltb d (2 * r) ≡ x → eqb (2 * r) d ≡ y → eqb (q % 2) 0 ≡ z
          → TheNearest (pos a) d (pos (cond (x || (y && not z)) (suc q) q))
      go true y z e f g = let h : d < 2 * r = ltb-true d (2 * r) e in passes (omega arith) (λ i. absurd (omega arith))
      go false true true e f g =
          let h : 2 * r ≡ d = eqb-true (2 * r) d f in stays (omega arith) (λ i. eqb-true (q % 2) 0 g)
      go false true false e f g =
          let h : 2 * r ≡ d = eqb-true (2 * r) d f in passes (omega arith) (λ i. odd (eqb-false (q % 2) 0 g))
        where
          odd : (q % 2 ≡ 0 → ⊥) → q % 2 ≡ 1
          odd n = ⊎_elim (λ k. absurd (n k)) (λ k. k) (parity q)
      go false false z e f g =
          let h : 2 * r ≤ d = ltb-false d (2 * r) e in stays h (λ i. absurd (eqb-false (2 * r) d f i))

-- ---- below zero all is turned round

turned : (n : ℤ) (d : ℕ) (j : ℤ) → distance (neg_ℤ n) d j ≡ distance n d (neg_ℤ j)
turned n d j =
    ap nat_abs (sym (neg_ℤ-+ℤ n (j *ℤ pos d)))
    ∙ nat_abs_neg (n +ℤ j *ℤ pos d)
    ∙ ap (λ z. nat_abs (n +ℤ z)) (sym (ap neg_ℤ (neg_mul j d) ∙ neg_ℤ-neg_ℤ (j *ℤ pos d)))

nearest_turned : {n : ℤ} {d : ℕ} {k : ℤ} → Nearest n d k → Nearest (neg_ℤ n) d (neg_ℤ k)
nearest_turned {n} {d} {k} near =
    record {
      none_nearer = λ j. rw (turned n d j, turned n d (neg_ℤ k), neg_ℤ-neg_ℤ k) (near.none_nearer (neg_ℤ j));
      even = λ j other as_near.
          rw (nat_abs_neg k)
          (near.even (neg_ℤ j) (λ e. other (sym (neg_ℤ-neg_ℤ j) ∙ ap neg_ℤ e))
          (rw (turned n d j, turned n d (neg_ℤ k), neg_ℤ-neg_ℤ k) at as_near));
    }

the_nearest_turned : {n : ℤ} {d : ℕ} {k : ℤ} → TheNearest n d k → TheNearest (neg_ℤ n) d (neg_ℤ k)
the_nearest_turned {n} {d} {k} t =
    record {
      is = nearest_turned t.is;
      only = λ j near. sym (neg_ℤ-neg_ℤ j) ∙ ap neg_ℤ (t.only (neg_ℤ j) (rw (neg_ℤ-neg_ℤ n) at (nearest_turned near)));
    }

pub hundredths_nearest : (sum : ℤ) (count : ℕ) → 0 < count → TheNearest (pos 100 *ℤ sum) count (hundredths sum count)
unfolding hundredths
hundredths_nearest (pos n) count some = nearest_is (100 * n) count some
hundredths_nearest (negsuc n) count some = the_nearest_turned (nearest_is (100 * suc n) count some)

-- ---- the average of the opposite sum

mul_neg : (m : ℕ) (k : ℤ) → pos m *ℤ neg_ℤ k ≡ neg_ℤ (pos m *ℤ k)
mul_neg m k = *ℤ_comm (pos m) (neg_ℤ k) ∙ neg_mul k m ∙ ap neg_ℤ (*ℤ_comm k (pos m))

pub hundredths_opposite : (sum : ℤ) (count : ℕ) → 0 < count → hundredths (neg_ℤ sum) count ≡ neg_ℤ (hundredths sum count)
hundredths_opposite sum count some =
    (the_nearest_turned (hundredths_nearest sum count some)).only (hundredths (neg_ℤ sum) count)
    (rw (mul_neg 100 sum) at (hundredths_nearest (neg_ℤ sum) count some).is)
