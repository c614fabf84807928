-- What a fit page is, fact by fact. Assumes nothing.
use Rattle.std.proofs.Common.{◌≡◌, ℕ, suc, ◌+◌, ◌-◌, ◌*◌, ◌<◌, ◌≤◌, true, false, eqb, ltb, leb, ◌↔◌, List, nat_abs, sym, ◌∙◌, true≢false, arith, eqb-true}
use borrow.Author.Tests.{eqb-false}
use Rattle.rule.specs.declared.Pair.{Pair}
use Rattle.rule.specs.Time.{most_value}
use Rattle.rule.specs.Bounds.{value_or_none}
use Rattle.rule.proofs.Tests.{both}
use Rattle.page.specs.declared.Head.{Head}
use Rattle.page.specs.Layout.{capacity, level_of, entry_count, start_at, pair_at, child_at, unused_ok}
use Rattle.page.specs.Fit.{PageContext, fewest, starts_ok, child_ok, children_ok, pair_ok, pairs_ok, page_fit}
use Rattle.fit.proofs.Tests.{le_is, lt_is, eq_is, each_is, case_is}
use Rattle.fit.proofs.Laws.Parts.{fewest_pos, entry_count_is, child_leaf, child_inner, pair_total, pair_mark}

-- "an inner entry's child lies in 1 to n−1, a leaf's is 0"
pub record Child (pages level child : ℕ) : Type 0 where
  pub leaf : level ≡ 0 → child ≡ 0
  pub inner : 1 ≤ level → (1 ≤ child) × (child < pages)

-- "for kind 1 the absolute sums of an entry and of those above it on its way add to at most 1,000,000 × changes, absolute
-- counts to at most changes"
pub record Total (h : Head) (at : PageContext) (p : Pair) : Type 0 where
  pub sums : at.sums + nat_abs p.sum ≤ most_value * h.changes
  pub counts : at.counts + nat_abs p.count ≤ h.changes

-- "kinds 2 and 3 have (0, 0) or a value with 1"
pub record Paired (h : Head) (at : PageContext) (p : Pair) : Type 0 where
  pub total : eqb h.kind 1 ≡ true → Total h at p
  pub mark : eqb h.kind 1 ≡ false → value_or_none p ≡ true

pub record PageFit (half : ℕ) (h : Head) (at : PageContext) (s : List ℕ) : Type 0 where
  pub level : level_of s ≡ at.level
  pub least : fewest half at ≤ entry_count s
  pub most : entry_count s ≤ capacity half
  pub first : start_at s 0 ≡ at.lo
  pub rising : (i : ℕ) → i < entry_count s - 1 → start_at s i < start_at s (suc i)
  pub last : start_at s (entry_count s - 1) < at.hi
  pub unused : unused_ok half s ≡ true
  pub children : (i : ℕ) → i < entry_count s → Child h.pages at.level (child_at half s i)
  pub pairs : (i : ℕ) → i < entry_count s → Paired h at (pair_at half s i)

pub child_is : (pages level child : ℕ) → (child_ok pages level child ≡ true) ↔ Child pages level child
child_is pages level child = case_is (eqb level 0) _ leaf inner
  where
    leaf : eqb level 0 ≡ true → (child_ok pages level child ≡ true) ↔ Child pages level child
    leaf e =
        let z : level ≡ 0 = eqb-true level 0 e in
        rw (child_leaf pages level child e) (
          λ h. record { leaf = λ _. (eq_is child 0).0 h; inner = λ l. absurd (omega arith) },
          λ c. (eq_is child 0).1 (c.leaf z),
        )

    pos_of : (n : ℕ) → (n ≡ 0 → ⊥) → 1 ≤ n
    pos_of n f = omega arith

    inner : eqb level 0 ≡ false → (child_ok pages level child ≡ true) ↔ Child pages level child
    inner e =
        let within = both (leb 1 child) (ltb child pages) (le_is 1 child) (lt_is child pages) in
        rw (child_inner pages level child e) (
          λ h. record { leaf = λ z. absurd (eqb-false level 0 e z); inner = λ _. within.0 h },
          λ c. within.1 (c.inner (pos_of level (eqb-false level 0 e))),
        )

pub pair_is : (h : Head) (at : PageContext) (p : Pair) → (pair_ok h at p ≡ true) ↔ Paired h at p
pair_is h at p = case_is (eqb h.kind 1) _ total mark
  where
    total : eqb h.kind 1 ≡ true → (pair_ok h at p ≡ true) ↔ Paired h at p
    total e =
        let bounds = both (leb (at.sums + nat_abs p.sum) (most_value * h.changes))
        (leb (at.counts + nat_abs p.count) h.changes) (le_is _ _) (le_is _ _) in
        rw (pair_total h at p e) (
          λ t. record {
            total = λ _. record { sums = (bounds.0 t).0; counts = (bounds.0 t).1 };
            mark =
                λ f. absurd (true≢false (sym e ∙ f));
          },
          λ c. bounds.1 ((c.total e).sums, (c.total e).counts),
        )

    mark : eqb h.kind 1 ≡ false → (pair_ok h at p ≡ true) ↔ Paired h at p
    mark e =
        rw (pair_mark h at p e) (
          λ t. record { total = λ f. absurd (true≢false (sym f ∙ e)); mark = λ _. t },
          λ c. c.mark e,
        )

module _ (half : ℕ) (h : Head) (at : PageContext) (s : List ℕ) where
  starts_is : (starts_ok at s ≡ true) ↔
      ((start_at s 0 ≡ at.lo)
      × (((i : ℕ) → i < entry_count s - 1 → start_at s i < start_at s (suc i)) × (start_at s (entry_count s - 1) < at.hi)))
  unfolding starts_ok
  starts_is = both _ _ (eq_is _ _) (both _ _ (each_is (entry_count s - 1) _ _ (λ i. lt_is (start_at s i) (start_at s (suc i)))) (lt_is _ _))

  children_is : (children_ok half h.pages at s ≡ true) ↔ ((i : ℕ) → i < entry_count s → Child h.pages at.level (child_at half s i))
  unfolding children_ok
  children_is = each_is (entry_count s) _ _ (λ i. child_is h.pages at.level (child_at half s i))

  pairs_is : (pairs_ok half h at s ≡ true) ↔ ((i : ℕ) → i < entry_count s → Paired h at (pair_at half s i))
  unfolding pairs_ok
  pairs_is = each_is (entry_count s) _ _ (λ i. pair_is h at (pair_at half s i))

  -- the test for a fit page passes exactly where the page is fit
  pub page_fit_is : (page_fit half h at s ≡ true) ↔ PageFit half h at s
  unfolding page_fit
  page_fit_is =
      let parts =
      both _ _ (eq_is (level_of s) at.level)
      (both _ _ (entry_count_is half at s)
      (both _ _ starts_is
      (both (unused_ok half s) _ (λ u. u, λ u. u)
      (both _ _ children_is pairs_is)))) in (
        λ e.
            let f = parts.0 e in
            record {
              level = f.0;
              least = f.1.0.0;
              most = f.1.0.1;
              first = f.1.1.0.0;
              rising = f.1.1.0.1.0;
              last = f.1.1.0.1.1;
              unused = f.1.1.1.0;
              children = f.1.1.1.1.0;
              pairs = f.1.1.1.1.1;
            },
        λ f. parts.1 (f.level, ((f.least, f.most), ((f.first, (f.rising, f.last)), (f.unused, (f.children, f.pairs))))),
      )

-- a fit page has an entry
pub entry_first : {half : ℕ} {h : Head} {at : PageContext} {s : List ℕ} → PageFit half h at s → 1 ≤ half → 1 ≤ entry_count s
entry_first {half} {at = at} fit some = omega (arith, fewest_pos half at some, fit.least)
