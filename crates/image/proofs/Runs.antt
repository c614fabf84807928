-- How many runs walks in turn find, what joining makes of them, and which neighbours differ. Assumes nothing.
use Prim.Native.Nat.{ℕ, zero, suc, ◌*◌, ◌≤◌}
use mathlib.Core.Path.{◌≡◌, refl, sym, ap, ap₂, ◌∙◌}
use mathlib.Core.Bool.{Bool, true, false, cond, not, ◌&&◌, and_assoc, false≢true}
use mathlib.Core.List.{List, [], ◌∷◌, ◌++◌, map}
use native.Mathlib.Nat.{mul-add}
use native.Mathlib.Omega.{arith}
use lib.ListN.{length, length-append, length-map}
use Rattle.lists.specs.Lists.{total}
use Rattle.rule.specs.declared.Pair.{Pair}
use Rattle.rule.specs.Pairs.{same_pair, combine}
use Rattle.rule.proofs.Laws.{lawful, invertible, same_above}
use Rattle.image.specs.Listing.{Run, Walked, nothing, then, in_turn, under, join_after, join, differ_after, neighbours_differ}

-- ---- walks in turn

pub turn_le : (n : ℕ) (f : ℕ → Walked) (g : ℕ → ℕ) (k : ℕ) → ((i : ℕ) → length (f i).runs ≤ k * g i)
    → length (in_turn n f).runs ≤ k * total n g
unfolding total in_turn then nothing
turn_le zero f g k h = omega arith
turn_le (suc n) f g k h =
    rw (mul-add k (total n g) (g n)) (omega (arith, length-append (in_turn n f).runs (f n).runs, turn_le n f g k h, h n))

pub picked_le : (t : Bool) (w : Walked) (k m : ℕ) → length w.runs ≤ k * m → length (cond t w nothing).runs ≤ k * cond t m 0
unfolding nothing
picked_le true w k m e = e
picked_le false w k m e = omega arith

pub length_under : (comb : Pair → Pair → Pair) (p : Pair) (w : Walked) → length (under comb p w).runs ≡ length w.runs
unfolding under
length_under comb p w = length-map w.runs _

-- ---- joining makes them fewer

join_after_few : (p : Pair) (rs : List Run) → length (join_after p rs) ≤ length rs
unfolding join_after
join_after_few p [] = omega arith
join_after_few p (r ∷ rs) = pick (same_pair p r.pair) (join_after_few p rs) (join_after_few r.pair rs)
  where
    pick : (t : Bool) → length (join_after p rs) ≤ length rs → length (join_after r.pair rs) ≤ length rs
        → length (cond t (join_after p rs) (r ∷ join_after r.pair rs)) ≤ suc (length rs)
    pick true x y = omega arith
    pick false x y = omega arith

pub join_few : (rs : List Run) → length (join rs) ≤ length rs
unfolding join
join_few [] = omega arith
join_few (r ∷ rs) = omega (arith, join_after_few r.pair rs)

-- ---- and no two neighbours are left with the same pair

differ_joined_after : (p : Pair) (rs : List Run) → differ_after p (join_after p rs) ≡ true
unfolding differ_after join_after
differ_joined_after p [] = refl
differ_joined_after p (r ∷ rs) =
    pick (same_pair p r.pair) refl (differ_joined_after p rs) (differ_joined_after r.pair rs)
  where
    pick : (t : Bool) → same_pair p r.pair ≡ t → differ_after p (join_after p rs) ≡ true
        → differ_after r.pair (join_after r.pair rs) ≡ true
        → differ_after p (cond t (join_after p rs) (r ∷ join_after r.pair rs)) ≡ true
    pick true e x y = x
    pick false e x y = rw e y

pub differ_joined : (rs : List Run) → neighbours_differ (join rs) ≡ true
unfolding join neighbours_differ
differ_joined [] = refl
differ_joined (r ∷ rs) = differ_joined_after r.pair rs

-- ---- runs that differ from their neighbours are joined to none

join_after_none : (p : Pair) (rs : List Run) → differ_after p rs ≡ true → join_after p rs ≡ rs
unfolding differ_after join_after
join_after_none p [] e = refl
join_after_none p (r ∷ rs) e = pick (same_pair p r.pair) e (join_after_none r.pair rs)
  where
    pick : (t : Bool) → not t && differ_after r.pair rs ≡ true → (differ_after r.pair rs ≡ true → join_after r.pair rs ≡ rs)
        → cond t (join_after p rs) (r ∷ join_after r.pair rs) ≡ r ∷ rs
    pick true d x = absurd (false≢true d)
    pick false d x = ap (λ z. r ∷ z) (x d)

pub join_none : (rs : List Run) → neighbours_differ rs ≡ true → join rs ≡ rs
unfolding join neighbours_differ
join_none [] e = refl
join_none (r ∷ rs) e = ap (λ z. r ∷ z) (join_after_none r.pair rs e)

-- and the other way round, by their number
all_after : (p : Pair) (rs : List Run) → length (join_after p rs) ≡ length rs → differ_after p rs ≡ true
unfolding differ_after join_after
all_after p [] e = refl
all_after p (r ∷ rs) e = pick (same_pair p r.pair) e (all_after r.pair rs)
  where
    pick : (t : Bool) → length (cond t (join_after p rs) (r ∷ join_after r.pair rs)) ≡ suc (length rs)
        → (length (join_after r.pair rs) ≡ length rs → differ_after r.pair rs ≡ true)
        → not t && differ_after r.pair rs ≡ true
    pick true d x = absurd (omega (arith, join_after_few p rs))
    pick false d x = x (omega arith)

pub all_differ : (rs : List Run) → length (join rs) ≡ length rs → neighbours_differ rs ≡ true
unfolding join neighbours_differ
all_differ [] e = refl
all_differ (r ∷ rs) e = all_after r.pair rs (omega arith)

-- ---- neighbours of runs that stand one behind another, and of totals

-- the pair of the last run, of those behind one whose pair is p
unfoldable pub pair_after : Pair → List Run → Pair
pair_after p [] = p
pair_after p (r ∷ rs) = pair_after r.pair rs

pub pair_after_append : (p : Pair) (rs qs : List Run) → pair_after p (rs ++ qs) ≡ pair_after (pair_after p rs) qs
unfolding pair_after
pair_after_append p [] qs = refl
pair_after_append p (r ∷ rs) qs = pair_after_append r.pair rs qs

pub differ_append : (p : Pair) (rs qs : List Run) → differ_after p (rs ++ qs) ≡ differ_after p rs && differ_after (pair_after p rs) qs
unfolding differ_after pair_after
differ_append p [] qs = refl
differ_append p (r ∷ rs) qs =
    ap (λ t. not (same_pair p r.pair) && t) (differ_append r.pair rs qs)
    ∙ sym (and_assoc (not (same_pair p r.pair)) (differ_after r.pair rs) (differ_after (pair_after r.pair rs) qs))

module _ (q : Pair) where
  -- the runs with q combined into each, as totals
  abbrev pub totals : List Run → List Run
  totals rs = map (λ r. record { start = r.start; pair = combine 1 q r.pair }) rs

  pub pair_after_totals : (p : Pair) (rs : List Run) → pair_after (combine 1 q p) (totals rs) ≡ combine 1 q (pair_after p rs)
  unfolding pair_after
  pair_after_totals p [] = refl
  pair_after_totals p (r ∷ rs) = pair_after_totals r.pair rs

  pub differ_totals : (p : Pair) (rs : List Run) → differ_after (combine 1 q p) (totals rs) ≡ differ_after p rs
  unfolding differ_after
  differ_totals p [] = refl
  differ_totals p (r ∷ rs) = ap₂ (λ s t. not s && t) (same_above (lawful 1) invertible q p r.pair) (differ_totals r.pair rs)
