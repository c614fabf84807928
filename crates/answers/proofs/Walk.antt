-- A walk that met only fit pages: its runs tile the part of the span that its context covers, each instant with the pair that a lookup
-- finds. Assumes nothing.
use Prim.Native.Nat.{ℕ, zero, suc, ◌≤◌, ◌<◌, max, min}
use mathlib.Core.Path.{◌≡◌, refl, sym, ap, ◌∙◌}
use mathlib.Core.Bool.{Bool, true, false, cond, ◌&&◌, and-eq-true_iff, true≢false}
use mathlib.Core.List.{List}
use native.Mathlib.Omega.{arith}
use native.Mathlib.Decide.{dec_lt}
use borrow.Author.Tests.{ltb-true, lt-ltb}
use Rattle.lists.proofs.Choices.{chose}
use Rattle.rule.specs.declared.Pair.{Pair}
use Rattle.rule.specs.Pairs.{combine}
use Rattle.rule.specs.Time.{overlaps}
use Rattle.page.specs.declared.Head.{Head}
use Rattle.page.specs.Layout.{entry_count, start_at, pair_at, child_at}
use Rattle.page.specs.Fit.{PageContext, context_below, end_at, page_fit}
use Rattle.fit.proofs.Laws.Parts.{fewest_pos}
use Rattle.image.specs.Images.{page_at}
use Rattle.image.specs.Sound.{tree_fit}
use Rattle.image.specs.Instant.{look}
use Rattle.image.specs.Listing.{Walked, nothing, stopped, then, in_turn, under, leaf_run, walk_page, walk}
use Rattle.fit.proofs.Laws.Spans.{bound, bound_next, bound_in, bound_past, bound_rises, found_only}
use Rattle.soundness.proofs.Tree.{tree_parts}
use Rattle.fit.proofs.Laws.Pages.{PageFit, page_fit_is}
use Rattle.image.proofs.Tiles.{Tiles, done, tiles_none, tiles_one, tiles_append, tiles_map}
use Rattle.answers.proofs.Look.{Found, found_leaf, found_inner}

-- the instant of [a, b] nearest to x
abbrev pub within : ℕ → ℕ → ℕ → ℕ
within a b x = max a (min b x)

-- ---- walks in turn

went_on : (c : Bool) (w : Walked) → (cond c w stopped).fit ≡ true → (c ≡ true) × (w.fit ≡ true)
unfolding stopped
went_on c w = chose (λ (v : Walked). v.fit) c w refl

turn_tiles : {Q : ℕ → Pair → Type 0} (n : ℕ) (g : ℕ → Walked) (b : ℕ → ℕ) → (in_turn n g).fit ≡ true
    → ((i : ℕ) → i < n → (g i).fit ≡ true → Tiles Q (b i) (b (suc i)) (g i).runs) → Tiles Q (b 0) (b n) (in_turn n g).runs
unfolding in_turn then nothing
turn_tiles zero g b e f = done
turn_tiles (suc n) g b e f =
    let k = simp and-eq-true_iff at e in
    tiles_append (turn_tiles n g b k.0 (λ i l. f i (omega arith))) (f n (omega arith) k.1)

turn_fit : (n : ℕ) (g : ℕ → Walked) → ((i : ℕ) → i < n → (g i).fit ≡ true) → (in_turn n g).fit ≡ true
unfolding in_turn then nothing
turn_fit zero g f = refl
turn_fit (suc n) g f = simp and-eq-true_iff (turn_fit n g (λ i l. f i (omega arith)), f n (omega arith))

-- ---- one entry: nothing, if it doesn't overlap the span

module _ (a b lo hi : ℕ) where
  apart : overlaps a b lo hi ≡ false → a < b → lo < hi → within a b lo ≡ within a b hi
  unfolding overlaps
  apart e l s = go (dec_lt lo b) (dec_lt a hi)
    where
      go : Dec (lo < b) → Dec (a < hi) → within a b lo ≡ within a b hi
      go (yes x) (yes y) = absurd (true≢false (sym (λ j. lt-ltb lo b x j && lt-ltb a hi y j) ∙ e))
      go (yes x) (no y) = omega arith
      go (no x) y = omega arith

  entry_tiles : {Q : ℕ → Pair → Type 0} (w : Walked) → a < b → lo < hi → (cond (overlaps a b lo hi) w nothing).fit ≡ true
      → (lo < b → a < hi → w.fit ≡ true → Tiles Q (within a b lo) (within a b hi) w.runs)
      → Tiles Q (within a b lo) (within a b hi) (cond (overlaps a b lo hi) w nothing).runs
  unfolding overlaps nothing
  entry_tiles {Q} w l s e f = go (overlaps a b lo hi) refl e
    where
      go : (c : Bool) → overlaps a b lo hi ≡ c → (cond c w nothing).fit ≡ true
          → Tiles Q (within a b lo) (within a b hi) (cond c w nothing).runs
      go true d e =
          let k = simp and-eq-true_iff at d in
          f (ltb-true lo b k.0) (ltb-true a hi k.1) e
      go false d e = tiles_none (apart d l s)

-- ---- a page

-- what a page's entries give that overlap [a, b)
abbrev picked : ℕ → ℕ → ℕ → List ℕ → (ℕ → Walked) → ℕ → Walked
picked a b hi s below i = cond (overlaps a b (start_at s i) (end_at s hi i)) (below i) nothing

module _ (half : ℕ) (h : Head) (a b : ℕ) (some : 1 ≤ half) (l : a < b) (at : PageContext) (s : List ℕ) where
  page_tiles : {Q : ℕ → Pair → Type 0} (below : ℕ → Walked) → (walk_page half h a b at s below).fit ≡ true
      → ((i : ℕ) → i < entry_count s → start_at s i < b → a < end_at s at.hi i → (below i).fit ≡ true
      → Tiles Q (within a b (start_at s i)) (within a b (end_at s at.hi i)) (below i).runs)
      → Tiles Q (within a b at.lo) (within a b at.hi) (walk_page half h a b at s below).runs
  unfolding walk_page
  page_tiles {Q} below e g =
      let k = went_on _ _ e in
      let f : PageFit half h at s = (page_fit_is half h at s).0 k.0 in
      let n : ℕ = entry_count s in
      let c : ℕ → ℕ = bound s at.hi in
      let first : c 0 ≡ at.lo = bound_in s at.hi 0 (omega (arith, fewest_pos half at some, f.least)) ∙ f.first in
      let last : c n ≡ at.hi = bound_past s at.hi n (omega arith) in
      let all : Tiles Q (within a b (c 0)) (within a b (c n)) (in_turn n (picked a b at.hi s below)).runs =
      turn_tiles n (picked a b at.hi s below) (λ i. within a b (c i)) k.1
      (λ i m fits.
      let lo : c i ≡ start_at s i = bound_in s at.hi i m in
      let hi : c (suc i) ≡ end_at s at.hi i = sym (bound_next s at.hi i) in
      rw (lo, hi) (entry_tiles a b (start_at s i) (end_at s at.hi i) (below i) l (omega (arith, bound_rises f i m)) fits (g i m))) in
      rw k.0 (rw (first, last) at all)

-- ---- from a page down

-- the page on which a walk begins
pub walk_top : (half : ℕ) (h : Head) (img : List ℕ) (a b l : ℕ) (at : PageContext) (p : ℕ) → (walk half h img a b l at p).fit ≡ true
    → page_fit half h at (page_at half img p) ≡ true
unfolding walk walk_page
walk_top half h img a b zero at p e = (went_on _ _ e).0
walk_top half h img a b (suc l) at p e = (went_on _ _ e).0

module _ (half : ℕ) (h : Head) (img : List ℕ) (a b : ℕ) (some : 1 ≤ half) (l : a < b) where
  pub walk_tiles : (v : ℕ) (at : PageContext) (p : ℕ) → (walk half h img a b v at p).fit ≡ true
      → Tiles (λ t q. Found (look half h img t v at p) q) (within a b at.lo) (within a b at.hi) (walk half h img a b v at p).runs
  unfolding walk leaf_run under context_below
  walk_tiles zero at p e =
      let s : List ℕ = page_at half img p in
      let top = walk_top half h img a b zero at p e in
      let f = (page_fit_is half h at s).0 top in
      page_tiles half h a b some l at s (λ i. leaf_run a (start_at s i) (pair_at half s i)) e
      (λ i m x y fits.
      tiles_one (omega arith) (omega (arith, bound_rises f i m, bound_in s at.hi i m, bound_next s at.hi i))
      (λ t u w. found_leaf half h img t at p i top (found_only f t i m (omega arith) (omega arith))))
  walk_tiles (suc v) at p e =
      let s : List ℕ = page_at half img p in
      let below : ℕ → Walked =
      λ i. under (combine h.kind) (pair_at half s i) (walk half h img a b v (context_below half s at i) (child_at half s i)) in
      let top = walk_top half h img a b (suc v) at p e in
      let f = (page_fit_is half h at s).0 top in
      page_tiles half h a b some l at s below e
      (λ i m x y fits.
      tiles_map (combine h.kind (pair_at half s i)) (walk_tiles v (context_below half s at i) (child_at half s i) fits)
      (λ t q u w found. found_inner half h img t at p i top (found_only f t i m (omega arith) (omega arith)) v found))

-- ---- where every page of the tree is fit

page_walked : (half : ℕ) (h : Head) (a b : ℕ) (at : PageContext) (s : List ℕ) (below : ℕ → Walked) → page_fit half h at s ≡ true
    → ((i : ℕ) → i < entry_count s → (below i).fit ≡ true) → (walk_page half h a b at s below).fit ≡ true
unfolding walk_page
page_walked half h a b at s below e f =
    ap (λ c. (cond c (in_turn (entry_count s) (picked a b at.hi s below)) stopped).fit) e
    ∙ turn_fit (entry_count s) _ (λ i l. pick (overlaps a b (start_at s i) (end_at s at.hi i)) (below i) (f i l))
  where
    pick : (c : Bool) (w : Walked) → w.fit ≡ true → (cond c w nothing).fit ≡ true
    pick true w e = e
    pick false w e = unfold nothing in refl

module _ (half : ℕ) (h : Head) (img : List ℕ) (a b : ℕ) where
  pub walk_fit : (l : ℕ) (at : PageContext) (p : ℕ) → tree_fit half h img l at p ≡ true → (walk half h img a b l at p).fit ≡ true
  unfolding walk tree_fit leaf_run under
  walk_fit zero at p e = page_walked half h a b at (page_at half img p) _ e (λ i l. refl)
  walk_fit (suc l) at p e =
      page_walked half h a b at (page_at half img p) _ (simp and-eq-true_iff at e).0
      (λ i m. walk_fit l _ _ ((tree_parts half h img l at p e).1 i m))
