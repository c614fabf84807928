-- No two looks of a walk find the same page fit, on any image: the places of one level have spans that follow each other, a page's
-- first start lies in the span of its place, and other levels differ in the level field. So a page stands at no two places of a fit
-- tree. By recursion on the level. Assumes nothing.
use mathlib.Core.Path.{◌≡◌, refl, sym, ap, ◌∙◌}
use mathlib.Core.Bool.{Bool, true, false, cond, and-eq-true_iff}
use mathlib.Core.List.{List, [], ◌∷◌, ◌++◌}
use Prim.Native.Nat.{ℕ, zero, suc, ◌+◌, ◌-◌, ◌≤◌, ◌<◌, min}
use native.Mathlib.Omega.{arith}
use native.Mathlib.Decide.{ℕ_discrete, dec_le}
use lib.ListN.{length}
use Rattle.fields.proofs.Laws.Tests.{every_all}
use Rattle.page.specs.declared.Head.{Head}
use Rattle.page.specs.Layout.{capacity, level_of, entry_count, start_at, child_at, entry_at, entries_of}
use Rattle.page.specs.Fit.{PageContext, context_below, end_at, page_fit}
use Rattle.image.specs.Images.{page_at}
use Rattle.image.specs.Sound.{tree_fit, tree_pages}
use Rattle.image.specs.Trail.{Visit, each_in_turn, finds_fit, visits, every_entry}
use Rattle.image.specs.Looks.{found_fit}
use Rattle.lists.specs.Lists.{listed, concat_map, hit, times, total}
use Rattle.lists.proofs.Totals.{hit_same, hit_other, Held, total_held, total_some}
use Rattle.lists.proofs.Concat.{concat_map_more, concat_map_length}
use Rattle.lists.proofs.Times.{times_cons, times_concat_map, short_of_once}
use Rattle.fit.proofs.Laws.Pages.{PageFit, page_fit_is}
use Rattle.fit.proofs.Laws.Spans.{bound, bound_next, bound_in, bound_past, bound_rises, first_low, span_some}

-- Page p, whose bytes are s, stands k times in a part of the tree: at most once, and then it is a page of the image whose level
-- is below l and whose first start lies in the part's span.
pub record Placed (k p : ℕ) (s : List ℕ) (l lo hi pages : ℕ) : Type 0 where
  pub held : Held k (start_at s 0) lo hi
  pub low : 1 ≤ k → level_of s < l
  pub inside : 1 ≤ k → (1 ≤ p) × (p < pages)

nowhere : (p : ℕ) (s : List ℕ) (l lo hi pages : ℕ) → Placed 0 p s l lo hi pages
nowhere p s l lo hi pages =
    record {
      held = record { most = omega arith; inside = λ h. absurd (omega arith) };
      low = λ h. absurd (omega arith);
      inside =
          λ h. absurd (omega arith);
    }

-- ---- what the definitions say at a page with pages below it

pub tree_parts : (half : ℕ) (h : Head) (img : List ℕ) (l : ℕ) (at : PageContext) (q : ℕ) → tree_fit half h img (suc l) at q ≡ true
    → PageFit half h at (page_at half img q)
    × ((i : ℕ) → i < entry_count (page_at half img q)
    → tree_fit half h img l (context_below half (page_at half img q) at i) (child_at half (page_at half img q) i) ≡ true)
unfolding tree_fit
tree_parts half h img l at q t =
    let k = simp and-eq-true_iff at t in
    ((page_fit_is half h at (page_at half img q)).0 k.0, every_all _ _ k.1)

-- the page itself
pub top_fit : (half : ℕ) (h : Head) (img : List ℕ) (l : ℕ) (at : PageContext) (q : ℕ) → tree_fit half h img l at q ≡ true
    → page_fit half h at (page_at half img q) ≡ true
unfolding tree_fit
top_fit half h img zero at q t = t
top_fit half h img (suc l) at q t = (simp and-eq-true_iff at t).0

pub tree_top : (half : ℕ) (h : Head) (img : List ℕ) (l : ℕ) (at : PageContext) (q : ℕ) → tree_fit half h img l at q ≡ true
    → PageFit half h at (page_at half img q)
tree_top half h img l at q t = (page_fit_is half h at (page_at half img q)).0 (top_fit half h img l at q t)

module _ (half : ℕ) (img : List ℕ) (l q : ℕ) (m : entry_count (page_at half img q) ≤ capacity half) where
  pub tree_more : tree_pages half img (suc l) q
      ≡ q ∷ concat_map (λ e. tree_pages half img l e.child)
      (listed (entry_count (page_at half img q)) (λ i. entry_at half (page_at half img q) i))
  unfolding tree_pages entries_of
  tree_more =
      let s : List ℕ = page_at half img q in
      let all : min (entry_count s) (capacity half) ≡ entry_count s = omega arith in
      ap (λ n. q ∷ concat_map (λ e. tree_pages half img l e.child) (listed n (λ i. entry_at half s i))) all

  pub tree_times : (p : ℕ)
      → times p (tree_pages half img (suc l) q)
      ≡ hit p q
      + total (entry_count (page_at half img q)) (λ i. times p (tree_pages half img l (child_at half (page_at half img q) i)))
  unfolding entry_at
  tree_times p =
      ap (times p) tree_more
      ∙ times_cons p q _
      ∙ ap (λ k. hit p q + k)
      (times_concat_map (λ e. tree_pages half img l e.child) (λ i. entry_at half (page_at half img q) i)
      (entry_count (page_at half img q)) p)

  pub tree_length : length (tree_pages half img (suc l) q)
      ≡ suc (total (entry_count (page_at half img q)) (λ i. length (tree_pages half img l (child_at half (page_at half img q) i))))
  unfolding entry_at
  tree_length =
      ap length tree_more
      ∙ ap suc
      (concat_map_length (λ e. tree_pages half img l e.child) (λ i. entry_at half (page_at half img q) i)
      (entry_count (page_at half img q)))

-- ---- what the looks below a page's entries find, one after the other

module _ (half : ℕ) (h : Head) (img : List ℕ) where
  pub found_append : (vs ws : List Visit) → found_fit half h img (vs ++ ws) ≡ found_fit half h img vs ++ found_fit half h img ws
  unfolding found_fit
  found_append [] ws = refl
  found_append (v ∷ vs) ws = go (finds_fit half h img v) (found_append vs ws)
    where
      go : (c : Bool) → found_fit half h img (vs ++ ws) ≡ found_fit half h img vs ++ found_fit half h img ws
          → cond c (v.page ∷ found_fit half h img (vs ++ ws)) (found_fit half h img (vs ++ ws))
          ≡ cond c (v.page ∷ found_fit half h img vs) (found_fit half h img vs) ++ found_fit half h img ws
      go true r = ap (λ z. v.page ∷ z) r
      go false r = r

  pub found_joined : {A : Type 0} (n : ℕ) (f : ℕ → List Visit) (g : A → List ℕ) (e : ℕ → A)
      → ((i : ℕ) → i < n → found_fit half h img (f i) ≡ g (e i)) → found_fit half h img (each_in_turn n f) ≡ concat_map g (listed n e)
  unfolding each_in_turn found_fit concat_map listed
  found_joined zero f g e r = refl
  found_joined (suc n) f g e r =
      found_append (each_in_turn n f) (f n)
      ∙ (λ j. found_joined n f g e (λ i l. r i (omega arith)) j ++ r n (omega arith) j)
      ∙ sym (concat_map_more g e n)

  found_times : (n : ℕ) (f : ℕ → List Visit) (p : ℕ)
      → times p (found_fit half h img (each_in_turn n f)) ≡ total n (λ i. times p (found_fit half h img (f i)))
  found_times n f p =
      ap (times p) (found_joined n f (λ i. found_fit half h img (f i)) (λ i. i) (λ i l. refl))
      ∙ times_concat_map (λ i. found_fit half h img (f i)) (λ i. i) n p

-- ---- one page with what stands below it

module _ (half : ℕ) (h : Head) (img : List ℕ) (p : ℕ) where
  top : (l q rest : ℕ) (at : PageContext) → PageFit half h at (page_at half img q) → at.level ≡ l → 1 ≤ q → q < h.pages
      → Placed rest p (page_at half img p) l at.lo at.hi h.pages
      → Placed (hit p q + rest) p (page_at half img p) (suc l) at.lo at.hi h.pages
  top l q rest at f e a b r = go (ℕ_discrete p q) (dec_le 1 rest)
    where
      go : Dec (p ≡ q) → Dec (1 ≤ rest) → Placed (hit p q + rest) p (page_at half img p) (suc l) at.lo at.hi h.pages
      go (yes c) (yes z) = absurd (omega (arith, r.low z, f.level, ap (λ n. level_of (page_at half img n)) c))
      go (yes c) (no z) =
          let one : hit p q + rest ≡ 1 = omega (arith, hit_same p q c) in
          rw (one, c)
          (record {
            held = record { most = omega arith; inside = λ k. omega (arith, f.first, span_some f) };
            low = λ k. omega (arith, f.level);
            inside = λ k. (a, b);
          })
      go (no c) z =
          let none : hit p q + rest ≡ rest = omega (arith, hit_other p q c) in
          rw none (record { held = r.held; low = λ k. omega (arith, r.low k); inside = r.inside })

  -- the parts below a page's entries, one after the other
  below : (l : ℕ) (s : List ℕ) (at : PageContext) → PageFit half h at s → (f : ℕ → ℕ)
      → ((i : ℕ) → i < entry_count s → Placed (f i) p (page_at half img p) l (start_at s i) (end_at s at.hi i) h.pages)
      → Placed (total (entry_count s) f) p (page_at half img p) l at.lo at.hi h.pages
  below l s at t f g =
      let b : ℕ → ℕ = bound s at.hi in
      let all : Held (total (entry_count s) f) (start_at (page_at half img p) 0) (b 0) (b (entry_count s)) =
      total_held (entry_count s) f b (start_at (page_at half img p) 0) (bound_rises t)
      (λ i k. rw (bound_in s at.hi i k, ← (bound_next s at.hi i)) (g i k).held) in
      record {
        held =
            record {
              most = all.most;
              inside = λ k. omega (arith, all.inside k, first_low t, bound_past s at.hi (entry_count s) (omega arith));
            };
        low = total_some (entry_count s) f (λ i k. (g i k).low);
        inside = total_some (entry_count s) f (λ i k. (g i k).inside);
      }

  -- no two looks of a walk from a page on find page p fit
  pub visits_placed : (into : PageContext → List ℕ → ℕ → Bool) (l : ℕ) (at : PageContext) (q : ℕ) → at.level ≡ l → 1 ≤ q → q < h.pages
      → Placed (times p (found_fit half h img (visits half h img into l at q))) p (page_at half img p) (suc l) at.lo at.hi h.pages
  unfolding visits found_fit finds_fit times context_below
  visits_placed into zero at q e a b = go (page_fit half h at (page_at half img q)) refl
    where
      s : List ℕ
      s = page_at half img p

      go : (c : Bool) → page_fit half h at (page_at half img q) ≡ c
          → Placed (times p (cond c (q ∷ []) [])) p s 1 at.lo at.hi h.pages
      go true f = top zero q 0 at ((page_fit_is half h at (page_at half img q)).0 f) e a b (nowhere p s zero at.lo at.hi h.pages)
      go false f = nowhere p s 1 at.lo at.hi h.pages
  visits_placed into (suc l) at q e a b =
      go (λ i. visits_placed into l (context_below half (page_at half img q) at i) (child_at half (page_at half img q) i))
      (page_fit half h at (page_at half img q)) refl
    where
      s : List ℕ
      s = page_at half img q

      looks : ℕ → List Visit
      looks i = cond (into at s i) (visits half h img into l (context_below half s at i) (child_at half s i)) []

      one : (i : ℕ) (c : Bool)
          → Placed (times p (found_fit half h img (visits half h img into l (context_below half s at i) (child_at half s i)))) p
          (page_at half img p) (suc l)
          (start_at s i) (end_at s at.hi i) h.pages
          → Placed (times p (found_fit half h img
          (cond c (visits half h img into l (context_below half s at i) (child_at half s i)) []))) p (page_at half img p)
          (suc l) (start_at s i) (end_at s at.hi i) h.pages
      one i true r = r
      one i false r = nowhere p (page_at half img p) (suc l) (start_at s i) (end_at s at.hi i) h.pages

      go : ((i : ℕ) → at.level - 1 ≡ l → 1 ≤ child_at half s i → child_at half s i < h.pages
          → Placed (times p (found_fit half h img (visits half h img into l (context_below half s at i) (child_at half s i)))) p
          (page_at half img p) (suc l)
          (start_at s i) (end_at s at.hi i) h.pages)
          → (c : Bool) → page_fit half h at s ≡ c
          → Placed
          (times p
          (cond c (q ∷ found_fit half h img (cond c (each_in_turn (entry_count s) looks) []))
          (found_fit half h img (cond c (each_in_turn (entry_count s) looks) []))))
          p (page_at half img p) (suc (suc l)) at.lo at.hi h.pages
      go down true f =
          let k : PageFit half h at s = (page_fit_is half h at s).0 f in
          rw (found_times half h img (entry_count s) looks p)
          (top (suc l) q (total (entry_count s) (λ i. times p (found_fit half h img (looks i)))) at k e a b
          (below (suc l) s at k (λ i. times p (found_fit half h img (looks i)))
          (λ i m.
          let c = (k.children i m).inner (omega arith) in
          one i (into at s i) (down i (omega arith) c.0 c.1))))
      go down false f = nowhere p (page_at half img p) (suc (suc l)) at.lo at.hi h.pages

-- a walk into every entry of a fit tree finds its pages fit, in turn
module _ (half : ℕ) (h : Head) (img : List ℕ) where
  pub tree_found : (l : ℕ) (at : PageContext) (q : ℕ) → tree_fit half h img l at q ≡ true
      → found_fit half h img (visits half h img every_entry l at q) ≡ tree_pages half img l q
  unfolding visits found_fit finds_fit tree_fit tree_pages every_entry entry_at
  tree_found zero at q t = ap (λ c. cond c (q ∷ []) []) t
  tree_found (suc l) at q t =
      let k = tree_parts half h img l at q t in
      let s : List ℕ = page_at half img q in
      let looks : ℕ → List Visit = λ i. visits half h img every_entry l (context_below half s at i) (child_at half s i) in
      let fits = top_fit half h img (suc l) at q t in
      ap
      (λ c.
      cond c (q ∷ found_fit half h img (cond c (each_in_turn (entry_count s) looks) []))
      (found_fit half h img (cond c (each_in_turn (entry_count s) looks) [])))
      fits
      ∙ ap (λ r. q ∷ r)
      (found_joined half h img (entry_count s) looks (λ e. tree_pages half img l e.child) (λ i. entry_at half s i)
      (λ i m. tree_found l (context_below half s at i) (child_at half s i) (k.1 i m)))
      ∙ sym (tree_more half img l q k.0.most)

  pub tree_placed : (p l : ℕ) (at : PageContext) (q : ℕ) → at.level ≡ l → 1 ≤ q → q < h.pages → tree_fit half h img l at q ≡ true
      → Placed (times p (tree_pages half img l q)) p (page_at half img p) (suc l) at.lo at.hi h.pages
  tree_placed p l at q e a b t = rw (tree_found l at q t) at (visits_placed half h img p every_entry l at q e a b)

pub tree_some : (half : ℕ) (img : List ℕ) (l q : ℕ) → 1 ≤ length (tree_pages half img l q)
unfolding tree_pages
tree_some half img zero q = omega arith
tree_some half img (suc l) q = omega arith

-- a fit tree has no more pages than the image has for it
pub tree_short : (half : ℕ) (h : Head) (img : List ℕ) (l : ℕ) (at : PageContext) (q : ℕ) → at.level ≡ l → 1 ≤ q → q < h.pages
    → tree_fit half h img l at q ≡ true → length (tree_pages half img l q) < h.pages
tree_short half h img l at q e a b t =
    let all : (p : ℕ) → Placed (times p (tree_pages half img l q)) p (page_at half img p) (suc l) at.lo at.hi h.pages =
    λ p. tree_placed half h img p l at q e a b t in
    omega (
      arith,
      short_of_once (h.pages - 1) (tree_pages half img l q) (λ p k. omega (arith, (all p).inside k)) (λ p. (all p).held.most),
    )
