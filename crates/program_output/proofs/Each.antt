-- What holds of each run that a walk finds. Assumes nothing.
use mathlib.Core.Path.{◌≡◌, refl}
use mathlib.Core.Bool.{Bool, true, false, cond}
use mathlib.Core.List.{List}
use Prim.Native.Nat.{ℕ, zero, suc, ◌<◌}
use native.Mathlib.Omega.{arith}
use Rattle.lists.specs.Lists.{All, all_none, all_more}
use Rattle.lists.proofs.All.{all_append}
use Rattle.rule.specs.declared.Pair.{Pair}
use Rattle.rule.specs.Pairs.{same_pair}
use Rattle.rule.specs.Time.{overlaps}
use Rattle.page.specs.declared.Head.{Head}
use Rattle.page.specs.Layout.{entry_count, start_at}
use Rattle.page.specs.Fit.{PageContext, end_at, page_fit}
use Rattle.image.specs.Listing.{Run, Walked, nothing, stopped, then, in_turn, walk_page, join_after, join}

module _ {P : Run → Type 0} where
  pick : (t : Bool) {xs ys : List Run} → All P xs → All P ys → All P (cond t xs ys)
  pick true a b = a
  pick false a b = b

  -- the joined runs are some of the runs
  each_after : (p : Pair) {rs : List Run} → All P rs → All P (join_after p rs)
  unfolding join_after
  each_after p all_none = all_none
  each_after p (all_more {x = r} {xs = rs} q a) = pick (same_pair p r.pair) (each_after p a) (all_more q (each_after r.pair a))

  pub each_join : {rs : List Run} → All P rs → All P (join rs)
  unfolding join
  each_join all_none = all_none
  each_join (all_more {x = r} q a) = all_more q (each_after r.pair a)

  each_turn : (n : ℕ) (f : ℕ → Walked) → ((i : ℕ) → i < n → All P (f i).runs) → All P (in_turn n f).runs
  unfolding in_turn then nothing
  each_turn zero f h = all_none
  each_turn (suc n) f h = all_append (each_turn n f (λ i l. h i (omega arith))) (h n (omega arith))

  -- of a page, if it is fit, and of each entry
  pub each_page : (half : ℕ) (h : Head) (a b : ℕ) (at : PageContext) (s : List ℕ) (below : ℕ → Walked)
      → (page_fit half h at s ≡ true → (i : ℕ) → i < entry_count s → All P (below i).runs) → All P (walk_page half h a b at s below).runs
  unfolding walk_page stopped nothing
  each_page half h a b at s below f = go (page_fit half h at s) refl
    where
      found : ℕ → Walked
      found i = cond (overlaps a b (start_at s i) (end_at s at.hi i)) (below i) nothing

      one : (t : Bool) (w : Walked) → All P w.runs → All P (cond t w nothing).runs
      one true w e = e
      one false w e = all_none

      go : (t : Bool) → page_fit half h at s ≡ t → All P (cond t (in_turn (entry_count s) found) stopped).runs
      go true e = each_turn (entry_count s) found (λ i l. one (overlaps a b (start_at s i) (end_at s at.hi i)) (below i) (f e i l))
      go false e = all_none
