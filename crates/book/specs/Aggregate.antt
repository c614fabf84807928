-- The aggregate that source document 000 defines, over accepted changes and apart from index and book: over all tuples whose valid
-- intervals overlap with [t−w, t]. Assumes nothing.
use Rattle.std.specs.Prelude.{ℕ, ◌-◌, ◌≡◌, Bool, true, false, cond, ◌&&◌, List, [], ◌∷◌, eqb, leb, ltb, ℤ, pos, ◌+ℤ◌, neg_ℤ}
use Rattle.rule.specs.declared.Pair.{Pair}
use Rattle.rule.specs.Pairs.{none, same_number, greater, lesser}
use Rattle.calls.specs.Changes.{Side, entering, withdrawing, Change}

-- "A booking counts at instant t if [s, e) overlaps [t−w, t]"
unfoldable pub counts_at : ℕ → Change → ℕ → Bool
counts_at w c t = leb c.s t && ltb (t - w) c.e

-- the changes that count at t
unfoldable pub counting : ℕ → List Change → ℕ → List Change
counting w [] t = []
counting w (c ∷ cs) t = cond (counts_at w c t) (c ∷ counting w cs t) (counting w cs t)

-- "a withdrawal counting as a negative entry"
unfoldable pub signed : Side → ℤ → ℤ
signed entering v = v
signed withdrawing v = neg_ℤ v

-- sum and count
unfoldable pub sum_of : List Change → ℤ
sum_of [] = pos 0
sum_of (c ∷ cs) = signed c.side c.v +ℤ sum_of cs

unfoldable pub count_of : List Change → ℤ
count_of [] = pos 0
count_of (c ∷ cs) = signed c.side (pos 1) +ℤ count_of cs

-- greatest and least, of the value v and those that follow
unfoldable pub best_of : (ℤ → ℤ → ℤ) → ℤ → List Change → ℤ
best_of best v [] = v
best_of best v (c ∷ cs) = best v (best_of best c.v cs)

unfoldable pub best_pair : (ℤ → ℤ → ℤ) → List Change → Pair
best_pair best [] = none
best_pair best (c ∷ cs) = record { sum = best_of best c.v cs; count = pos 1 }

-- kind 1: (sum, count); kinds 2 and 3: (greatest or least, 1), or (0, 0) for nothing
unfoldable pub aggregate_of : ℕ → List Change → Pair
aggregate_of kind cs =
    cond (eqb kind 1) (record { sum = sum_of cs; count = count_of cs })
    (cond (eqb kind 2) (best_pair greater cs) (best_pair lesser cs))

unfoldable pub aggregate : ℕ → ℕ → List Change → ℕ → Pair
aggregate kind w cs t = aggregate_of kind (counting w cs t)

-- "A withdrawal matches an entry of the same v, s and e"
unfoldable pub same_booking : Change → Change → Bool
same_booking c d = same_number c.v d.v && (eqb c.s d.s && eqb c.e d.e)

-- the live bookings without one that c matches, the latest such; and whether there is one
unfoldable pub without : Change → List Change → List Change
without c [] = []
without c (d ∷ ds) = cond (same_booking c d) ds (d ∷ without c ds)

unfoldable pub live_has : Change → List Change → Bool
live_has c [] = false
live_has c (d ∷ ds) = cond (same_booking c d) true (live_has c ds)

-- the live bookings after one more change, and after all, the latest first
unfoldable pub live_after : Change → List Change → List Change
live_after c live = cond_side c.side
  where
    cond_side : Side → List Change
    cond_side entering = c ∷ live
    cond_side withdrawing = without c live

unfoldable pub live_from : List Change → List Change → List Change
live_from live [] = live
live_from live (c ∷ cs) = live_from (live_after c live) cs

-- "every withdrawal matches an earlier entry not yet withdrawn"
unfoldable pub Matched : List Change → List Change → Type 0
Matched live [] = Unit {0}
Matched live (c ∷ cs) = Matches c.side × Matched (live_after c live) cs
  where
    Matches : Side → Type 0
    Matches entering = Unit {0}
    Matches withdrawing = live_has c live ≡ true
