-- The counts of a walk: at a leaf, from what was found in a page and what the pages below ask for, and how large they can be. Assumes
-- nothing.
use Prim.Native.Nat.{ℕ, zero, suc, ◌*◌, ◌-◌, ◌≤◌, ◌<◌}
use mathlib.Core.Path.{◌≡◌, refl, sym, ap, ◌∙◌, subst⁻¹}
use mathlib.Core.Bool.{Bool, true, false, cond}
use mathlib.Core.List.{List}
use native.Mathlib.Omega.{arith}
use lib.Dec.{eqb}
use lib.ListN.{length}
use borrow.Author.Tests.{eq-eqb, ne_eqb}
use Rattle.page.specs.declared.Entry.{Entry}
use Rattle.page.specs.Entries.{at as entry_in, index_of}
use Rattle.page.specs.Fit.{most_height}
use Rattle.image.specs.Images.{Image, image_of}
use Rattle.store.specs.declared.Found.{Found}
use Rattle.store.specs.Preconditions.{found_in}
use Rattle.steps.specs.Supply.{entries}
use Rattle.page_need.specs.declared.Need.{Need}
use Rattle.page_need.specs.Needs.{add_needs, leaf_need, page_need, one_cut, parted_cuts, both_cuts}
use Rattle.page_need.specs.Leads.{Small}
use Rattle.page_need.proofs.Counts.{page_need_adds, page_need_pages, leaf_adds}
use Rattle.page_need.proofs.Below.{FoundBelow, has_later, not_later}

-- ---- the counts, level by level

module _ (half t : ℕ) (X : Image) where
  pub one_leaf : (l : ℕ) (e : Entry) {r : Need} → l ≡ 0 → r ≡ leaf_need t e → r ≡ one_cut half t l e X
  unfolding one_cut
  one_leaf zero e z h = h
  one_leaf (suc l) e z h = absurd (omega arith)

  inner_one : (l : ℕ) (e : Entry) (hi : ℕ) {m : Found} {n r : Need} → ¬ (l ≡ 0) → m ≡ found_in hi t (entries X e.child)
      → n ≡ one_cut half t (l - 1) m.entry X
      → r ≡ page_need half m.count n → r ≡ one_cut half t l e X
  unfolding one_cut found_in
  inner_one zero e hi z a b c = absurd (z refl)
  inner_one (suc l) e hi {m = m} z a b c =
      let d : suc l - 1 ≡ l = omega arith in
      c
      ∙ (ap (page_need half m.count) (b ∙ ap (λ i. one_cut half t i m.entry X) d)
      ∙ ap (λ (k : Found). page_need half k.count (one_cut half t l k.entry X)) a)

module _ (half s t : ℕ) (X : Image) where
  pub apart_is : (l : ℕ) (x y : Entry) {a b r : Need} → a ≡ one_cut half s l x X → b ≡ one_cut half t l y X → r ≡ add_needs a b
      → r ≡ parted_cuts half s t l x y X
  apart_is l x y a b c = c ∙ (λ j. add_needs (a j) (b j))

  pub both_leaf : (l : ℕ) (e : Entry) {a b r : Need} → l ≡ 0 → a ≡ leaf_need s e → b ≡ leaf_need t e → r ≡ add_needs a b
      → r ≡ both_cuts half s t l e X
  unfolding both_cuts
  both_leaf zero e z a b c = c ∙ (λ j. add_needs (a j) (b j))
  both_leaf (suc l) e z a b c = absurd (omega arith)

  -- the two go on to the same entry, or part there
  inner_both : (l : ℕ) (e : Entry) (hi : ℕ) {m k : Found} {n r : Need} → ¬ (l ≡ 0) → m ≡ found_in hi s (entries X e.child)
      → k ≡ found_in hi t (entries X e.child)
      → n ≡ cond (eqb m.index k.index) (both_cuts half s t (l - 1) m.entry X)
      (parted_cuts half s t (l - 1) m.entry k.entry X)
      → r ≡ page_need half m.count n → r ≡ both_cuts half s t l e X
  unfolding both_cuts found_in
  inner_both zero e hi z a b c d = absurd (z refl)
  inner_both (suc l) e hi {m} z a b c d =
      let v : suc l - 1 ≡ l = omega arith in
      d
      ∙ ap (page_need half m.count) c
      ∙ (λ j.
      page_need half (a j).count
      (cond (eqb (a j).index (b j).index) (both_cuts half s t (v j) (a j).entry X)
      (parted_cuts half s t (v j) (a j).entry (b j).entry X)))

-- ---- no count is large

module _ (half t : ℕ) (X : Image) where
  one_most : (l : ℕ) (e : Entry) → ((one_cut half t l e X).adds ≤ 1) × ((one_cut half t l e X).pages ≤ l)
  unfolding one_cut leaf_need
  one_most zero e = (leaf_adds t e, omega arith)
  one_most (suc l) e =
      let es = entries X e.child in
      let x = entry_in es (index_of t es) in (
        page_need_adds half (length es) (one_cut half t l x X),
        omega
            (arith, page_need_pages half (length es) (one_cut half t l x X), (one_most l x).1),
      )

module _ (half s t : ℕ) (X : Image) where
  both_most : (l : ℕ) (e : Entry) → ((both_cuts half s t l e X).adds ≤ 2) × ((both_cuts half s t l e X).pages ≤ 2 * l)
  unfolding both_cuts add_needs leaf_need
  both_most zero e = (omega (arith, leaf_adds s e, leaf_adds t e), omega arith)
  both_most (suc l) e =
      let es = entries X e.child in
      let x = entry_in es (index_of s es) in
      let y = entry_in es (index_of t es) in
      let below = cond (eqb (index_of s es) (index_of t es)) (both_cuts half s t l x X)
      (add_needs (one_cut half s l x X) (one_cut half t l y X)) in
      let few : below.pages ≤ 2 * l =
      go (both_cuts half s t l x X) (one_cut half s l x X) (one_cut half t l y X) (eqb (index_of s es) (index_of t es)) (both_most l x).1
      (one_most half s X l x).1 (one_most half t X l y).1 in
      (omega (arith, page_need_adds half (length es) below), omega (arith, page_need_pages half (length es) below))
    where
      go : (a b d : Need) (c : Bool) → a.pages ≤ 2 * l → b.pages ≤ l → d.pages ≤ l → (cond c a (add_needs b d)).pages ≤ 2 * l
      go a b d true f g h = f
      go a b d false f g h = omega arith

module _ (half : ℕ) (X : Image) (l : ℕ) (e : Entry) (low : l ≤ most_height) {n : Need} where
  pub small_one : (t : ℕ) → n ≡ one_cut half t l e X → Small n
  small_one t h = subst⁻¹ Small h (omega (arith, one_most half t X l e))

  pub small_both : (s t : ℕ) → n ≡ both_cuts half s t l e X → Small n
  small_both s t h = subst⁻¹ Small h (omega (arith, both_most half s t X l e))

pub small_leaf : (t : ℕ) (e : Entry) {n : Need} → n ≡ leaf_need t e → Small n
unfolding leaf_need
small_leaf t e h = subst⁻¹ Small h (omega (arith, leaf_adds t e))

small_apart : (half s t : ℕ) (X : Image) (l : ℕ) (x y : Entry) {n : Need} → l ≤ most_height → n ≡ parted_cuts half s t l x y X → Small n
unfolding add_needs
small_apart half s t X l x y low h = subst⁻¹ Small h (omega (arith, one_most half s X l x, one_most half t X l y))

-- ---- where the counts go on, by what was found

module _ {half : ℕ} {img : List ℕ} {hi t l : ℕ} {e : Entry} {m : Found} (k : FoundBelow half img hi t l e m) {n : Need}
    (h : n ≡ one_cut half t (l - 1) m.entry (image_of half img)) where
  pub one_small : Small n
  one_small = small_one half (image_of half img) (l - 1) m.entry (omega (arith, k.page.low)) t h

  pub one_inner : {r : Need} → r ≡ page_need half m.count n → r ≡ one_cut half t l e (image_of half img)
  one_inner = inner_one half t (image_of half img) l e hi k.inner k.is h

module _ {half : ℕ} {img : List ℕ} {hi s l : ℕ} {e : Entry} {m : Found} (k : FoundBelow half img hi s l e m) {t : ℕ} (later : s < t) where
  abbrev X : Image
  X = image_of half img

  abbrev on : Entry → Bool → Need
  on y b = cond b (both_cuts half s t (l - 1) m.entry X) (parted_cuts half s t (l - 1) m.entry y X)

  first_slot : m.index ≡ index_of s (entries X e.child)
  unfolding found_in
  first_slot = ap (λ (n : Found). n.index) k.is

  module _ {n : Need} (h : n ≡ both_cuts half s t (l - 1) m.entry X) where
    pub same_small : Small n
    same_small = small_both half X (l - 1) m.entry (omega (arith, k.page.low)) s t h

    pub same_inner : {r : Need} → t < m.end → r ≡ page_need half m.count n → r ≡ both_cuts half s t l e X
    unfolding found_in
    same_inner before =
        let es = entries X e.child in
        inner_both half s t X l e hi k.inner k.is refl
        (h ∙ ap (on (found_in hi t es).entry) (sym (eq-eqb m.index (index_of t es) (first_slot ∙ has_later k later before))))

  module _ {m' : Found} (k' : FoundBelow half img hi t l e m') {n : Need}
      (h : n ≡ parted_cuts half s t (l - 1) m.entry m'.entry X) where
    pub apart_small : Small n
    apart_small = small_apart half s t X (l - 1) m.entry m'.entry (omega (arith, k.page.low)) h

    second_slot : m'.index ≡ index_of t (entries X e.child)
    unfolding found_in
    second_slot = ap (λ (n : Found). n.index) k'.is

    pub apart_inner : {r : Need} → t < hi → m.end ≤ t → r ≡ page_need half m.count n → r ≡ both_cuts half s t l e X
    apart_inner low past =
        inner_both half s t X l e hi k.inner k.is k'.is
        (h ∙ ap (on m'.entry)
        (sym (ne_eqb m.index m'.index (λ z. not_later k later low past (sym first_slot ∙ z ∙ second_slot)))))
