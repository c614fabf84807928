-- What the walk from a page on is: unfit, or its entries in turn. Assumes nothing.
use mathlib.Core.Path.{◌≡◌, refl, sym, ap, ap₂, ◌∙◌}
use mathlib.Core.Bool.{Bool, true, false, cond}
use mathlib.Core.List.{List, [], ◌∷◌, map-append}
use Prim.Native.Nat.{ℕ, zero, suc, ◌≤◌, max}
use native.Mathlib.Omega.{arith}
use borrow.Author.Tests.{eq-eqb, ne_eqb}
use Rattle.rule.specs.declared.Pair.{Pair}
use Rattle.rule.specs.Pairs.{none, combine}
use Rattle.rule.proofs.Laws.{lawful}
use Rattle.page.specs.Layout.{entry_count, start_at, pair_at, child_at}
use Rattle.page.specs.Fit.{context_below, page_fit}
use Rattle.image.specs.Listing as image
use Rattle.image.specs.Listing.{nothing, stopped, then, in_turn, under, leaf_run, walk_page, walk}
use Rattle.listing.specs.declared.SpanQuery.{SpanQuery}
use Rattle.listing.specs.declared.Cursor.{Cursor}
use Rattle.listing.specs.Walks.{bytes_at, page_walk, cursor_below, meets, one_run, entry_walk}

-- ---- pairs combined into every run

module _ (kind : ℕ) where
  pub under_under : (p q : Pair) (w : image.Walked)
      → under (combine kind) p (under (combine kind) q w) ≡ under (combine kind) (combine kind p q) w
  unfolding under
  under_under p q w = ap (λ l. record { fit = w.fit; runs = l }) (go w.runs)
    where
      go : (rs : List image.Run)
          → (under (combine kind) p (under (combine kind) q (record { fit = true; runs = rs }))).runs ≡
          (under (combine kind) (combine kind p q) (record { fit = true; runs = rs })).runs
      go [] = refl
      go (r ∷ rs) = ap₂ ◌∷◌ (ap (λ x. record { start = r.start; pair = x }) (sym ((lawful kind).assoc p q r.pair))) (go rs)

  pub under_none : (w : image.Walked) → under (combine kind) none w ≡ w
  unfolding under
  under_none w = ap (λ l. record { fit = w.fit; runs = l }) (go w.runs)
    where
      go : (rs : List image.Run) → (under (combine kind) none (record { fit = true; runs = rs })).runs ≡ rs
      go [] = refl
      go (r ∷ rs) = ap₂ ◌∷◌ (ap (λ x. record { start = r.start; pair = x }) ((lawful kind).unit r.pair)) (go rs)

pub under_turn : (comb : Pair → Pair → Pair) (p : Pair) (n : ℕ) (f : ℕ → image.Walked)
    → under comb p (in_turn n f) ≡ in_turn n (λ i. under comb p (f i))
unfolding under in_turn then nothing
under_turn comb p zero f = refl
under_turn comb p (suc n) f =
    ap (λ l. record { fit = (then (in_turn n f) (f n)).fit; runs = l }) (map-append _ (in_turn n f).runs (f n).runs)
    ∙ ap (λ w. then w (under comb p (f n))) (under_turn comb p n f)

-- ---- an entry, by whether it overlaps the span

module _ (img : List ℕ) (q : SpanQuery) (on : Cursor) (i : ℕ) where
  pub entry_apart : meets q (bytes_at q.half img on) on i ≡ false → entry_walk img q on i ≡ nothing
  unfolding entry_walk
  entry_apart e = rw e

  pub entry_leaf : meets q (bytes_at q.half img on) on i ≡ true → on.at.level ≡ 0
      → {start : ℕ} {pair : Pair} → start ≡ max q.a (start_at (bytes_at q.half img on) i)
      → pair ≡ (cursor_below q (bytes_at q.half img on) on i).above
      → entry_walk img q on i ≡ one_run start pair
  unfolding entry_walk
  entry_leaf e z s p = rw (e, eq-eqb on.at.level 0 z) (ap₂ one_run (sym s) (sym p))

  pub entry_inner : meets q (bytes_at q.half img on) on i ≡ true → 1 ≤ on.at.level → {below : Cursor}
      → below ≡ cursor_below q (bytes_at q.half img on) on i
      → entry_walk img q on i ≡ page_walk img q below
  unfolding entry_walk
  entry_inner e l d = rw (e, ne_eqb on.at.level 0 (λ z. absurd (omega arith))) (ap (page_walk img q) (sym d))

-- ---- a page

module _ (img : List ℕ) (q : SpanQuery) (on : Cursor) where
  abbrev s : List ℕ
  s = bytes_at q.half img on

  -- the pairs above, combined into a walk
  abbrev total : image.Walked → image.Walked
  total w = under (combine q.head.kind) on.above w

  -- the walk from the page under the i-th entry
  abbrev deeper : ℕ → ℕ → image.Walked
  deeper i l = walk q.half q.head img q.a q.b l (context_below q.half s on.at i) (child_at q.half s i)

  -- what an entry gives, with the pairs above combined into it, is its walk
  module _ (i : ℕ) where
    leaf_met : on.at.level ≡ 0
        → total (cond (meets q s on i) (leaf_run q.a (start_at s i) (pair_at q.half s i)) nothing) ≡ entry_walk img q on i
    unfolding entry_walk under leaf_run nothing
    leaf_met e = rw (eq-eqb on.at.level 0 e) (go (meets q s on i))
      where
        go : (t : Bool) → total (cond t (leaf_run q.a (start_at s i) (pair_at q.half s i)) nothing)
            ≡ cond t (one_run (max q.a (start_at s i)) (cursor_below q s on i).above) nothing
        go true = refl
        go false = refl

    inner_met : (l : ℕ) → on.at.level ≡ suc l
        → total (cond (meets q s on i) (under (combine q.head.kind) (pair_at q.half s i) (deeper i l)) nothing)
        ≡ entry_walk img q on i
    unfolding entry_walk page_walk under nothing context_below
    inner_met l e = rw (ne_eqb on.at.level 0 (λ z. absurd (omega arith))) (go (meets q s on i))
      where
        below : Cursor
        below = cursor_below q s on i

        down : l ≡ below.at.level
        down = omega arith

        go : (t : Bool)
            → total (cond t (under (combine q.head.kind) (pair_at q.half s i) (deeper i l)) nothing) ≡
            cond t (page_walk img q below) nothing
        go true =
            under_under q.head.kind on.above (pair_at q.half s i) (deeper i l)
            ∙ ap (λ k. under (combine q.head.kind) below.above (deeper i k)) down
        go false = refl

  pub page_stopped : page_fit q.half q.head on.at s ≡ false → page_walk img q on ≡ stopped
  unfolding page_walk walk walk_page under stopped
  page_stopped e = go on.at.level
    where
      go : (l : ℕ) → total (walk q.half q.head img q.a q.b l on.at on.page) ≡ stopped
      go zero = rw e
      go (suc l) = rw e

  pub page_in_turn : page_fit q.half q.head on.at s ≡ true → page_walk img q on ≡ in_turn (entry_count s) (entry_walk img q on)
  unfolding page_walk walk walk_page
  page_in_turn e = go on.at.level refl
    where
      turns : (f : ℕ → image.Walked) → ((i : ℕ) → total (f i) ≡ entry_walk img q on i)
          → total (in_turn (entry_count s) f) ≡ in_turn (entry_count s) (entry_walk img q on)
      turns f h = under_turn (combine q.head.kind) on.above (entry_count s) f ∙ ap (in_turn (entry_count s)) (λ j i. h i j)

      go : (l : ℕ) → on.at.level ≡ l
          → total (walk q.half q.head img q.a q.b l on.at on.page) ≡ in_turn (entry_count s) (entry_walk img q on)
      go zero d = rw e (turns _ (λ i. leaf_met i d))
      go (suc l) d = rw e (turns _ (λ i. inner_met i l d))
