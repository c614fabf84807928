-- The aggregate of source document 000 as a total, and so as the book's pair. Assumes nothing.
use Prim.Native.Nat.{ℕ, ◌-◌, ◌<◌}
use mathlib.Core.Path.{◌≡◌, refl, sym, ap, ◌∙◌}
use mathlib.Core.Bool.{Bool, true, false, cond, not, ◌&&◌, and-true, and-false, true≢false}
use mathlib.Core.List.{List, [], ◌∷◌}
use lib.Dec.{eqb, leb, ltb}
use lib.IntN.{ℤ, pos}
use Rattle.lists.specs.Lists.{All, all_none, all_more}
use Rattle.lists.proofs.All.{all_weaken}
use Rattle.rule.specs.Time.{END}
use Rattle.rule.specs.Pairs.{none, entry_effect, opposite, same_number, same_pair, added, greater, lesser, better, combine}
use Rattle.rule.proofs.Laws.{lawful, same_pair_is}
use Rattle.calls.specs.Changes.{withdraws, effect, Change}
use Rattle.book.specs.Book.{book_of, book_pair}
use Rattle.book.specs.Aggregate.{counts_at, counting, signed, sum_of, count_of, best_of, best_pair, aggregate_of, aggregate, Matched}
use Rattle.book.specs.Aggregate.{live_from}
use Rattle.demands.specs.Items.{effect_of, Spanned, Enters, Sided}
use Rattle.demands.proofs.Book.Spans.{span_is, overlap_is}
use Rattle.demands.proofs.Book.Totals.{total, total_same, unit_right, cond_unit}
use Rattle.demands.proofs.Book.Struck.{by_side}
use Rattle.demands.proofs.Book.Live.{live_enters, live_total}
use Rattle.demands.proofs.Book.Shares.{share, sided_undone, sided_entries}
use Rattle.demands.proofs.Book.Books.{within, book_total}

-- ---- the changes that count

each_counting : {P : Change → Type 0} (w t : ℕ) {cs : List Change} → All P cs → All P (counting w cs t)
unfolding counting
each_counting w t all_none = all_none
each_counting {P} w t (all_more {x = c} {xs = cs} p h) = go (counts_at w c t) (each_counting w t h)
  where
    go : (x : Bool) → All P (counting w cs t) → All P (cond x (c ∷ counting w cs t) (counting w cs t))
    go true k = all_more p k
    go false k = k

-- where a change counts for the aggregate
abbrev pub overlap : ℕ → ℕ → ℕ → ℕ → Bool
overlap w t s e = leb s t && ltb (t - w) e

counting_total : (kind w t : ℕ) (cs : List Change)
    → total (combine kind) effect_of (counting w cs t) ≡ total (combine kind) (share (overlap w t)) cs
unfolding total counting share counts_at
counting_total kind w t [] = refl
counting_total kind w t (c ∷ cs) =
    go (overlap w t c.s c.e) (counting_total kind w t cs)
    ∙ sym (cond_unit (lawful kind) (overlap w t c.s c.e) (effect_of c) (total (combine kind) (share (overlap w t)) cs))
  where
    go : (x : Bool) → total (combine kind) effect_of (counting w cs t) ≡ total (combine kind) (share (overlap w t)) cs
        → total (combine kind) effect_of (cond x (c ∷ counting w cs t) (counting w cs t))
        ≡ cond x (combine kind (effect_of c) (total (combine kind) (share (overlap w t)) cs))
        (total (combine kind) (share (overlap w t)) cs)
    go true ih = ap (λ z. combine kind (effect_of c) z) ih
    go false ih = ih

-- ---- kind 1

sums_total : (cs : List Change) → record { sum = sum_of cs; count = count_of cs } ≡ total added effect_of cs
unfolding sum_of count_of total added effect_of effect signed
sums_total [] = refl
sums_total (c ∷ cs) =
    by_side (λ c. record { sum = sum_of (c ∷ cs); count = count_of (c ∷ cs) } ≡ added (effect_of c) (total added effect_of cs))
    (λ b. ap (λ z. added (entry_effect b.v) z) (sums_total cs))
    (λ b. ap (λ z. added (opposite (entry_effect b.v)) z) (sums_total cs))
    c

-- ---- kinds 2 and 3

marked : (v : ℤ) → same_pair (entry_effect v) none ≡ false
unfolding same_pair same_number
marked v = and-false (same_number v (pos 0))

module _ (best : ℤ → ℤ → ℤ) where
  alone : (v : ℤ) → entry_effect v ≡ better best (entry_effect v) none
  unfolding better
  alone v = rw (marked v, (same_pair_is none none).1 refl)

  of_two : (v u : ℤ) → entry_effect (best v u) ≡ better best (entry_effect v) (entry_effect u)
  unfolding better
  of_two v u = rw (marked v, marked u)

  best_total : {cs : List Change} → All Enters cs → best_pair best cs ≡ total (better best) effect_of cs
  unfolding best_of best_pair total effect_of effect withdraws
  best_total all_none = refl
  best_total (all_more {x = c} {xs = cs} n h) =
      by_side (λ c. Enters c → best_pair best (c ∷ cs) ≡ better best (effect_of c) (total (better best) effect_of cs))
      (λ b n. go b.v cs ∙ ap (λ z. better best (entry_effect b.v) z) (best_total h))
      (λ b n. absurd (true≢false n))
      c n
    where
      go : (v : ℤ) (ds : List Change) → record { sum = best_of best v ds; count = pos 1 } ≡ better best (entry_effect v) (best_pair best ds)
      go v [] = alone v
      go v (d ∷ ds) = of_two v (best_of best d.v ds)

-- ---- every kind

aggregate_of_total : (kind : ℕ) {cs : List Change} → All (Sided kind) cs → aggregate_of kind cs ≡ total (combine kind) effect_of cs
unfolding aggregate_of combine
aggregate_of_total kind {cs} = go (eqb kind 1) (eqb kind 2)
  where
    go : (x y : Bool) → All (λ c. withdraws c.side && not x ≡ false) cs
        → cond x (record { sum = sum_of cs; count = count_of cs }) (cond y (best_pair greater cs) (best_pair lesser cs))
        ≡ total (λ p q. cond x (added p q) (cond y (better greater p q) (better lesser p q))) effect_of cs
    go true y h = sums_total cs
    go false true h = best_total greater (all_weaken (λ c n. sym (and-true (withdraws c.side)) ∙ n) h)
    go false false h = best_total lesser (all_weaken (λ c n. sym (and-true (withdraws c.side)) ∙ n) h)

module _ (kind w : ℕ) (t : ℕ) where
  pub aggregate_total : {cs : List Change} → All (Sided kind) cs → aggregate kind w cs t ≡ total (combine kind) (share (overlap w t)) cs
  unfolding aggregate
  aggregate_total {cs} h = aggregate_of_total kind (each_counting w t h) ∙ counting_total kind w t cs

  -- the book's pair is the aggregate
  pub book_aggregate : {cs : List Change} → t < END → All Spanned cs → All (Sided kind) cs
      → book_pair (book_of kind w cs) t ≡ aggregate kind w cs t
  unfolding share
  book_aggregate {cs} l spans sided =
      book_total kind w t cs
      ∙ total_same (combine kind) (share (within w t)) (share (overlap w t)) (all_weaken same_test spans)
      ∙ sym (aggregate_total sided)
    where
      same_test : (c : Change) → Spanned c → share (within w t) c ≡ share (overlap w t) c
      same_test c h = ap (λ x. cond x (effect_of c) none) (sym (overlap_is c.s c.e w t (span_is c.s c.e h) l))

  -- "If every withdrawal matches an earlier entry not yet withdrawn, this is the aggregate over live bookings."
  pub aggregate_live : {cs : List Change} → All (Sided kind) cs → Matched [] cs
      → aggregate kind w cs t ≡ aggregate kind w (live_from [] cs) t
  unfolding total
  aggregate_live {cs} h m =
      aggregate_total h
      ∙ sym (unit_right (lawful kind) (total (combine kind) (share (overlap w t)) cs))
      ∙ sym (live_total (lawful kind) (share (overlap w t)) [] cs all_none (sided_undone kind (overlap w t) h) m)
      ∙ sym (aggregate_total (sided_entries kind (live_enters [] cs all_none)))
