-- The pairs of a way combined on the way back and on the way down give the same. Assumes nothing.
use Prim.Native.Nat.{ℕ, zero, suc, ◌+◌, ◌-◌}
use mathlib.Core.Path.{◌≡◌, refl, sym, ◌∙◌}
use mathlib.Core.Bool.{Bool, true, false, cond, true≢false}
use mathlib.Core.List.{List}
use native.Mathlib.Omega.{arith}
use Rattle.lists.proofs.Choices.{cond_one}
use Rattle.rule.specs.declared.Pair.{Pair}
use Rattle.rule.specs.Pairs.{none, combine}
use Rattle.rule.proofs.Laws.{lawful}
use Rattle.page.specs.declared.Head.{Head}
use Rattle.page.specs.Entries.{index_of}
use Rattle.page.specs.Layout.{entries_of, start_at, pair_at, child_at, head_of}
use Rattle.page.specs.Fit.{PageContext, root_context, end_at, context_below, page_fit}
use Rattle.image.specs.Images.{page_at}
use Rattle.image.specs.Instant.{Lookup, stopped, leaf_answer, above, look_by, look_up}
use Rattle.image.specs.Descent.{Descent, descent_of, descend, Associative, from_root, SameBothWays}

module _ {◌⊕◌ : Pair → Pair → Pair} (rule : Associative ◌⊕◌) where
  infixl 60 ◌⊕◌
  -- what was found below, seen from the root: with the pairs above combined already and so many pages read
  seen : Pair → ℕ → Lookup → Descent
  seen so_far pages w = record { fit = w.fit; pair = cond w.fit (so_far ⊕ w.pair) none; pages = pages + w.pages }

  seen_above : (so_far p : Pair) (pages : ℕ) (w : Lookup) → seen so_far pages (above ◌⊕◌ p w) ≡ seen (so_far ⊕ p) (suc pages) w
  unfolding seen above
  seen_above so_far p pages w = λ j. record { fit = w.fit; pair = go w.fit j; pages = e j }
    where
      go : (b : Bool) → cond b (so_far ⊕ cond b (p ⊕ w.pair) none) none ≡ cond b ((so_far ⊕ p) ⊕ w.pair) none
      go true = sym (rule.assoc so_far p w.pair)
      go false = refl

      e : pages + suc w.pages ≡ suc pages + w.pages
      e = omega arith

  -- from the root nothing was combined yet; a way that met an unfit page has no pair
  seen_first : (w : Lookup) → (w.fit ≡ false → w.pair ≡ none) → seen none 0 w ≡ descent_of w
  unfolding seen descent_of
  seen_first w bare = λ j. record { fit = w.fit; pair = go w.fit refl j; pages = e j }
    where
      go : (b : Bool) → w.fit ≡ b → cond b (none ⊕ w.pair) none ≡ w.pair
      go true f = rule.unit w.pair
      go false f = sym (bare f)

      e : 0 + w.pages ≡ w.pages
      e = omega arith

  module _ (half : ℕ) (h : Head) (img : List ℕ) (t : ℕ) where
    down : (level : ℕ) (at : PageContext) (p : ℕ) (so_far : Pair) (pages : ℕ)
        → seen so_far pages (look_by ◌⊕◌ half h img t level at p) ≡ descend ◌⊕◌ half h img t level at p so_far pages
    unfolding look_by descend seen leaf_answer stopped
    down zero at p so_far pages =
        let s = page_at half img p in
        let i = index_of t (entries_of half s) in
        go (page_fit half h at s) (pair_at half s i) (start_at s i) (end_at s at.hi i)
      where
        one : pages + 1 ≡ suc pages
        one = omega arith

        go : (b : Bool) (q : Pair) (start end : ℕ) → seen so_far pages (cond b (leaf_answer q start end) stopped)
            ≡ cond b (record { fit = true; pair = so_far ⊕ q; pages = suc pages }) (record { fit = false; pair = none; pages = suc pages })
        go true q start end = λ j. record { fit = true; pair = so_far ⊕ q; pages = one j }
        go false q start end = λ j. record { fit = false; pair = none; pages = one j }
    down (suc l) at p so_far pages =
        let s = page_at half img p in
        let i = index_of t (entries_of half s) in
        let d = context_below half s at i in
        go (page_fit half h at s) (pair_at half s i) (look_by ◌⊕◌ half h img t l d (child_at half s i))
        (down l d (child_at half s i) (so_far ⊕ pair_at half s i) (suc pages))
      where
        one : pages + 1 ≡ suc pages
        one = omega arith

        go : (b : Bool) (q : Pair) (w : Lookup) {below : Descent} → seen (so_far ⊕ q) (suc pages) w ≡ below
            → seen so_far pages (cond b (above ◌⊕◌ q w) stopped) ≡ cond b below (record { fit = false; pair = none; pages = suc pages })
        go true q w e = seen_above so_far q pages w ∙ e
        go false q w e = λ j. record { fit = false; pair = none; pages = one j }

-- a way that meets an unfit page has no pair
pub look_none : (comb : Pair → Pair → Pair) (half : ℕ) (h : Head) (img : List ℕ) (t level : ℕ) (at : PageContext) (p : ℕ)
    → (look_by comb half h img t level at p).fit ≡ false → (look_by comb half h img t level at p).pair ≡ none
unfolding look_by stopped leaf_answer above
look_none comb half h img t zero at p =
    cond_one (λ (w : Lookup). w.fit ≡ false → w.pair ≡ none) (page_fit half h at (page_at half img p))
    (λ _ e. absurd (true≢false e)) (λ _ _. refl)
look_none comb half h img t (suc l) at p =
    cond_one (λ (w : Lookup). w.fit ≡ false → w.pair ≡ none) (page_fit half h at (page_at half img p)) (λ _ e. rw e) (λ _ _. refl)

pub same_both_ways : SameBothWays
unfolding SameBothWays
same_both_ways comb rule half h img t level at p =
    sym (seen_first rule _ (look_none comb half h img t level at p)) ∙ down rule half h img t level at p none 0

-- every kind's rule
associative : (kind : ℕ) → Associative (combine kind)
associative kind = record { assoc = (lawful kind).assoc; unit = (lawful kind).unit }

pub from_root_is : (half : ℕ) (img : List ℕ) (t : ℕ) → descent_of (look_up half img t) ≡ from_root half img t
unfolding look_up from_root SameBothWays
from_root_is half img t =
    let h : Head = head_of (page_at half img 0) in
    same_both_ways (combine h.kind) (associative h.kind) half h img t (h.height - 1) (root_context h) h.root
