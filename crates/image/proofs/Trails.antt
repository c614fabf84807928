-- What an instant and a listing find is told by the pages that they look at: all are fit, or one isn't; and an instant reports as many as
-- it looks at. Assumes nothing.
use Prim.Native.Nat.{ℕ, zero, suc, ◌-◌, ◌≤◌, ◌<◌}
use mathlib.Core.Path.{◌≡◌, refl, sym, ap, ◌∙◌, subst⁻¹}
use mathlib.Core.Bool.{Bool, true, false, cond, ◌&&◌, and-eq-true_iff, and_assoc, false≢true}
use mathlib.Core.List.{List, [], ◌∷◌, ◌++◌, append-nil, Memᴰ}
use native.Mathlib.Omega.{arith}
use native.Mathlib.Decide.{dec_lt}
use lib.ListN.{length}
use lib.Dec.{eqb}
use borrow.Author.Tests.{eq-eqb, ne_eqb}
use Rattle.lists.proofs.Choices.{either}
use Rattle.rule.specs.declared.Pair.{Pair}
use Rattle.rule.specs.Pairs.{combine}
use Rattle.rule.specs.Time.{overlaps}
use Rattle.page.specs.declared.Head.{Head}
use Rattle.page.specs.Entries.{index_of}
use Rattle.page.specs.Layout.{entry_count, start_at, pair_at, child_at, entries_of, head_of}
use Rattle.page.specs.Fit.{PageContext, root_context, context_below, fewest, end_at, page_fit}
use Rattle.image.specs.Images.{page_at}
use Rattle.image.specs.Instant.{Lookup, stopped, leaf_answer, above, look_by, look, look_up}
use Rattle.image.specs.Listing.{Walked, nothing, then, in_turn, under, leaf_run, walk_page, walk, walk_over}
use Rattle.image.specs.Listing
use Rattle.image.specs.Trail.{Visit, each_in_turn, finds_fit, all_fit, up_to_unfit, EndsUnfit, visits, trail, entry_of, entries_over}
use Rattle.image.specs.Trail.{instant_trail, listing_trail}
use Rattle.image.proofs.Found.{room, found_within}

-- ---- one entry's part of what each gives in turn

each_none : (f : ℕ → List Visit) (k n : ℕ) → n ≤ k → each_in_turn n (λ i. cond (eqb i k) (f i) []) ≡ []
unfolding each_in_turn
each_none f k zero l = refl
each_none f k (suc n) l =
    λ j. each_none f k n (omega arith) j ++ cond (ne_eqb n k (λ e. omega arith) j) (f n) []

pub each_one : (f : ℕ → List Visit) (k n : ℕ) → k < n → each_in_turn n (λ i. cond (eqb i k) (f i) []) ≡ f k
unfolding each_in_turn
each_one f k zero l = absurd (omega arith)
each_one f k (suc n) l = go (dec_lt k n) (each_one f k n)
  where
    go : Dec (k < n) → (k < n → each_in_turn n (λ i. cond (eqb i k) (f i) []) ≡ f k)
        → each_in_turn n (λ i. cond (eqb i k) (f i) []) ++ cond (eqb n k) (f n) [] ≡ f k
    go (yes m) before = (λ j. before m j ++ cond (ne_eqb n k (λ e. omega arith) j) (f n) []) ∙ append-nil (f k)
    go (no m) before =
        let e : n ≡ k = omega arith in
        (λ j. each_none f k n (omega arith) j ++ cond (eq-eqb n k e j) (f n) []) ∙ ap f e

module _ (half : ℕ) (h : Head) (img : List ℕ) where
  -- ---- lists of looks

  pub all_fit_append : (xs ys : List Visit) → all_fit half h img (xs ++ ys) ≡ all_fit half h img xs && all_fit half h img ys
  unfolding all_fit
  all_fit_append [] ys = refl
  all_fit_append (x ∷ xs) ys =
      ap (λ c. finds_fit half h img x && c) (all_fit_append xs ys)
      ∙ sym (and_assoc (finds_fit half h img x) (all_fit half h img xs) (all_fit half h img ys))

  -- a walk that ends at the first unfit page has met one where the whole would
  pub all_fit_up_to : (vs : List Visit) → all_fit half h img (up_to_unfit half h img vs) ≡ all_fit half h img vs
  unfolding all_fit up_to_unfit
  all_fit_up_to [] = refl
  all_fit_up_to (v ∷ vs) = go (finds_fit half h img v) (all_fit_up_to vs)
    where
      go : (c : Bool) → all_fit half h img (up_to_unfit half h img vs) ≡ all_fit half h img vs
          → c && all_fit half h img (cond c (up_to_unfit half h img vs) []) ≡ c && all_fit half h img vs
      go true e = e
      go false e = refl

  -- and one that meets none is the whole
  pub up_to_all : (vs : List Visit) → all_fit half h img vs ≡ true → up_to_unfit half h img vs ≡ vs
  unfolding all_fit up_to_unfit
  up_to_all [] e = refl
  up_to_all (v ∷ vs) e =
      let k = (and-eq-true_iff (finds_fit half h img v) (all_fit half h img vs)).0 e in
      λ j. v ∷ (ap (λ c. cond c (up_to_unfit half h img vs) []) k.0 ∙ up_to_all vs k.1) j

  pub each_fits : {v : Visit} {vs : List Visit} → Memᴰ v vs → all_fit half h img vs ≡ true → finds_fit half h img v ≡ true
  unfolding all_fit
  each_fits (Memᴰ.head {x = x} {xs = xs} e) a =
      ap (finds_fit half h img) e ∙ ((and-eq-true_iff (finds_fit half h img x) (all_fit half h img xs)).0 a).0
  each_fits (Memᴰ.tail {x = x} {xs = xs} m) a = each_fits m ((and-eq-true_iff (finds_fit half h img x) (all_fit half h img xs)).0 a).1

  pub one_unfit : (vs : List Visit) → all_fit half h img vs ≡ false → (v : Visit) × Memᴰ v vs × (finds_fit half h img v ≡ false)
  unfolding all_fit
  one_unfit [] e = absurd (false≢true (sym e))
  one_unfit (v ∷ vs) e = go (finds_fit half h img v) refl e (one_unfit vs)
    where
      go : (c : Bool) → finds_fit half h img v ≡ c → c && all_fit half h img vs ≡ false
          → (all_fit half h img vs ≡ false → (v : Visit) × Memᴰ v vs × (finds_fit half h img v ≡ false))
          → (w : Visit) × Memᴰ w (v ∷ vs) × (finds_fit half h img w ≡ false)
      go true f a rest = let r = rest a in (r.0, Memᴰ.tail r.1, r.2)
      go false f a rest = (v, Memᴰ.head refl, f)

  -- the walk ends with the first unfit page
  ends_unfit : (vs : List Visit) → all_fit half h img vs ≡ false → EndsUnfit half h img (up_to_unfit half h img vs)
  unfolding all_fit up_to_unfit
  ends_unfit [] e = absurd (false≢true (sym e))
  ends_unfit (v ∷ vs) e = go (finds_fit half h img v) refl e (ends_unfit vs)
    where
      go : (c : Bool) → finds_fit half h img v ≡ c → c && all_fit half h img vs ≡ false
          → (all_fit half h img vs ≡ false → EndsUnfit half h img (up_to_unfit half h img vs))
          → EndsUnfit half h img (v ∷ cond c (up_to_unfit half h img vs) [])
      go true f a rest =
          let r = rest a in
          record {
            before = v ∷ r.before;
            last = r.last;
            in_turn = ap (λ ws. v ∷ ws) r.in_turn;
            fit_before = (and-eq-true_iff (finds_fit half h img v) (all_fit half h img r.before)).1 (f, r.fit_before);
            unfit_last = r.unfit_last;
          }
      go false f a rest = record { before = []; last = v; in_turn = refl; fit_before = refl; unfit_last = f }

  -- ---- an instant

  -- what was found, by the looks: whether all pages are fit, and how many were read
  pub record Told (r : Lookup) (vs : List Visit) : Type 0 where
    pub fit : r.fit ≡ all_fit half h img vs
    pub pages : r.pages ≡ length (up_to_unfit half h img vs)

  at_leaf : (c : Bool) (q : Pair) (start end : ℕ) (v : Visit) → finds_fit half h img v ≡ c
      → Told (cond c (leaf_answer q start end) stopped) (v ∷ [])
  unfolding all_fit up_to_unfit leaf_answer stopped
  at_leaf true q start end v e = record { fit = λ j. sym e j && true; pages = λ j. length (v ∷ cond (sym e j) [] []) }
  at_leaf false q start end v e = record { fit = λ j. sym e j && true; pages = λ j. length (v ∷ cond (sym e j) [] []) }

  at_inner : (c : Bool) (comb : Pair → Pair → Pair) (q : Pair) (r : Lookup) (v : Visit) (below : List Visit)
      → finds_fit half h img v ≡ c
      → (c ≡ true → Told r below)
      → Told (cond c (above comb q r) stopped) (v ∷ cond c below [])
  unfolding all_fit up_to_unfit above stopped
  at_inner true comb q r v below e told =
      let k = told refl in
      record {
        fit = k.fit ∙ (λ j. sym e j && all_fit half h img below);
        pages = ap suc k.pages ∙ (λ j. length (v ∷ cond (sym e j) (up_to_unfit half h img below) []));
      }
  at_inner false comb q r v below e told = record { fit = λ j. sym e j && true; pages = λ j. length (v ∷ cond (sym e j) [] []) }

  pub look_told : (t l : ℕ) (at : PageContext) (p : ℕ) → 1 ≤ fewest half at
      → Told (look half h img t l at p) (visits half h img (entry_of half t) l at p)
  unfolding look_by visits finds_fit entry_of fewest context_below
  look_told t zero at p some = at_leaf (page_fit half h at (page_at half img p)) _ _ _ (record { at = at; page = p }) refl
  look_told t (suc l) at p some =
      at_inner (page_fit half h at s) (combine h.kind) (pair_at half s i)
      (look half h img t l (context_below half s at i) (child_at half s i))
      (record { at = at; page = p }) _ refl
      (λ fits. below fits (look_told t l (context_below half s at i) (child_at half s i) (child_some fits)))
    where
      s : List ℕ
      s = page_at half img p

      i : ℕ
      i = index_of t (entries_of half s)

      child_some : page_fit half h at s ≡ true → 1 ≤ fewest half (context_below half s at i)
      child_some fits = room half h at s some fits

      below : page_fit half h at s ≡ true
          → Told (look half h img t l (context_below half s at i) (child_at half s i))
          (visits half h img (entry_of half t) l (context_below half s at i) (child_at half s i))
          → Told (look half h img t l (context_below half s at i) (child_at half s i))
          (each_in_turn (entry_count s)
          (λ k. cond (entry_of half t at s k)
          (visits half h img (entry_of half t) l (context_below half s at k) (child_at half s k)) []))
      below fits told =
          let f : ℕ → List Visit = λ k. visits half h img (entry_of half t) l (context_below half s at k) (child_at half s k) in
          subst⁻¹ (Told (look half h img t l (context_below half s at i) (child_at half s i)))
          (each_one f i (entry_count s) (found_within half h at s some fits t)) told

  -- ---- a listing

  in_turn_told : (f : ℕ → Walked) (g : ℕ → List Visit) (n : ℕ) → ((i : ℕ) → (f i).fit ≡ all_fit half h img (g i))
      → (in_turn n f).fit ≡ all_fit half h img (each_in_turn n g)
  unfolding in_turn nothing then each_in_turn all_fit
  in_turn_told f g zero each = refl
  in_turn_told f g (suc n) each = (λ j. in_turn_told f g n each j && each n j) ∙ sym (all_fit_append (each_in_turn n g) (g n))

  in_turn_fit : (f : ℕ → Walked) (n : ℕ) → ((i : ℕ) → (f i).fit ≡ true) → (in_turn n f).fit ≡ true
  unfolding in_turn nothing then
  in_turn_fit f zero each = refl
  in_turn_fit f (suc n) each = λ j. in_turn_fit f n each j && each n j

  chosen : (c : Bool) (w : Walked) (vs : List Visit) → w.fit ≡ all_fit half h img vs
      → (cond c w nothing).fit ≡ all_fit half h img (cond c vs [])
  unfolding nothing all_fit
  chosen true w vs e = e
  chosen false w vs e = refl

  -- a page of the walk and those below it; none is below a leaf
  page_told : (c : Bool) (w : Walked) (v : Visit) (below : List Visit) → finds_fit half h img v ≡ c → w.fit ≡ all_fit half h img below
      → (cond c w Listing.stopped).fit ≡ all_fit half h img (v ∷ cond c below [])
  unfolding all_fit Listing.stopped
  page_told true w v below e told = told ∙ (λ j. sym e j && all_fit half h img below)
  page_told false w v below e told = λ j. sym e j && true

  leaf_told : (c : Bool) (w : Walked) (v : Visit) → finds_fit half h img v ≡ c → w.fit ≡ true
      → (cond c w Listing.stopped).fit ≡ all_fit half h img (v ∷ [])
  unfolding all_fit Listing.stopped
  leaf_told true w v e told = told ∙ (λ j. sym e j && true)
  leaf_told false w v e told = λ j. sym e j && true

  walk_told : (a b l : ℕ) (at : PageContext) (p : ℕ)
      → (walk half h img a b l at p).fit ≡ all_fit half h img (visits half h img (entries_over a b) l at p)
  unfolding walk walk_page visits finds_fit all_fit entries_over leaf_run under
  walk_told a b zero at p =
      let s : List ℕ = page_at half img p in
      leaf_told (page_fit half h at s) _ (record { at = at; page = p }) refl
      (in_turn_fit _ (entry_count s)
      (λ i. chosen (overlaps a b (start_at s i) (end_at s at.hi i)) (leaf_run a (start_at s i) (pair_at half s i)) [] refl
      ∙ either (λ (vs : List Visit). all_fit half h img vs ≡ true) refl refl (overlaps a b (start_at s i) (end_at s at.hi i))))
  walk_told a b (suc l) at p =
      let s : List ℕ = page_at half img p in
      page_told (page_fit half h at s) _ (record { at = at; page = p }) _ refl
      (in_turn_told _ _ (entry_count s)
      (λ i.
      chosen (overlaps a b (start_at s i) (end_at s at.hi i))
      (under (combine h.kind) (pair_at half s i) (walk half h img a b l (context_below half s at i) (child_at half s i)))
      (visits half h img (entries_over a b) l (context_below half s at i) (child_at half s i))
      (walk_told a b l (context_below half s at i) (child_at half s i))))

-- ---- from the root

pub root_some : (half : ℕ) (h : Head) → 1 ≤ fewest half (root_context h)
unfolding fewest root_context
root_some half h = either (λ n. 1 ≤ n) (omega arith) (omega arith) (eqb (h.height - 1) 0)

module _ (half : ℕ) (img : List ℕ) where
  abbrev h : Head
  h = head_of (page_at half img 0)

  pub look_up_fit : (t : ℕ) → (look_up half img t).fit ≡ all_fit half h img (instant_trail half t img)
  unfolding look_up instant_trail trail
  look_up_fit t =
      (look_told half h img t (h.height - 1) (root_context h) h.root (root_some half h)).fit
      ∙ sym (all_fit_up_to half h img (visits half h img (entry_of half t) (h.height - 1) (root_context h) h.root))

  -- an unfit page that an instant looks at is the last one
  pub instant_ends : (t : ℕ) → all_fit half h img (instant_trail half t img) ≡ false → EndsUnfit half h img (instant_trail half t img)
  unfolding instant_trail trail
  instant_ends t e =
      let vs : List Visit = visits half h img (entry_of half t) (h.height - 1) (root_context h) h.root in
      ends_unfit half h img vs (sym (all_fit_up_to half h img vs) ∙ e)

  pub look_up_looks : (t : ℕ) → (look_up half img t).pages ≡ length (instant_trail half t img)
  unfolding look_up instant_trail trail
  look_up_looks t = (look_told half h img t (h.height - 1) (root_context h) h.root (root_some half h)).pages

  pub walk_over_fit : (a b : ℕ) → (walk_over half img a b).fit ≡ all_fit half h img (listing_trail half a b img)
  unfolding walk_over listing_trail trail
  walk_over_fit a b =
      walk_told half h img a b (h.height - 1) (root_context h) h.root
      ∙ sym (all_fit_up_to half h img (visits half h img (entries_over a b) (h.height - 1) (root_context h) h.root))
