-- Document 01, "Time and value": the pair that an index answers, and how two pairs of a kind are combined. Assumes nothing.
use Rattle.std.specs.Prelude.{◌≡◌, ℕ, Bool, false, cond, ◌&&◌, ℤ, pos, negsuc, ◌+ℤ◌, neg_ℤ, ◌==◌, int_le}
use Rattle.rule.specs.declared.Pair.{Pair}

-- (sum, count)
abbrev pub pair : ℤ → ℤ → Pair
pair sum count = record { sum = sum; count = count }

-- (0, 0): what an instant answers where nothing counts
abbrev pub none : Pair
none = pair (pos 0) (pos 0)

-- "an entry adds (v, 1), a withdrawal (−v, −1)"
abbrev pub entry_effect : ℤ → Pair
entry_effect v = record { sum = v; count = pos 1 }

abbrev pub opposite : Pair → Pair
opposite p = record { sum = neg_ℤ p.sum; count = neg_ℤ p.count }

-- the test for equal numbers
unfoldable pub same_number : ℤ → ℤ → Bool
same_number (pos m) (pos n) = m == n
same_number (pos m) (negsuc n) = false
same_number (negsuc m) (pos n) = false
same_number (negsuc m) (negsuc n) = m == n

-- the test for equal pairs: sum and count
unfoldable pub same_pair : Pair → Pair → Bool
same_pair p q = same_number p.sum q.sum && same_number p.count q.count

-- "Kind 1 answers the pair (sum, count)"
unfoldable pub added : Pair → Pair → Pair
added p q = record { sum = p.sum +ℤ q.sum; count = p.count +ℤ q.count }

unfoldable pub greater : ℤ → ℤ → ℤ
greater a b = cond (int_le a b) b a

unfoldable pub lesser : ℤ → ℤ → ℤ
lesser a b = cond (int_le a b) a b

-- "Kinds 2 and 3 answer (greatest or least value, 1), or (0, 0) for nothing; the count field is only that mark."
unfoldable pub better : (ℤ → ℤ → ℤ) → Pair → Pair → Pair
better best p q =
    cond (same_pair p none) q
    (cond (same_pair q none) p
    (record { sum = best p.sum q.sum; count = pos 1 }))

-- the combining rule of a kind: 1 totals, 2 greatest, 3 least
unfoldable pub combine : ℕ → Pair → Pair → Pair
combine kind p q = cond (kind == 1) (added p q) (cond (kind == 2) (better greater p q) (better lesser p q))

module _ (◌⊕◌ : Pair → Pair → Pair) where
  infixl 60 ◌⊕◌
  -- What is used of a combining rule: every fact that the kinds share is proved from these laws alone.
  pub record Lawful : Type 0 where
    pub assoc : (p q r : Pair) → (p ⊕ q) ⊕ r ≡ p ⊕ (q ⊕ r)
    pub comm : (p q : Pair) → p ⊕ q ≡ q ⊕ p
    pub unit : (p : Pair) → none ⊕ p ≡ p

  -- What kind 1 has besides: a withdrawal undoes its entry.
  pub record Invertible : Type 0 where
    pub undone : (p : Pair) → p ⊕ opposite p ≡ none
