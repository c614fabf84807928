-- The walk down the tree: where it may go, and what it has counted so far. Assumes nothing.
use mathlib.Core.Path.{◌≡◌, refl, sym, ap, ap₂, ◌∙◌}
use mathlib.Core.Bool.{Bool, true, false, true≢false, and-eq-true_iff}
use mathlib.Core.List.{List}
use Prim.Native.Nat.{ℕ, zero, suc, ◌+◌, ◌*◌, ◌-◌, ◌≤◌, ◌<◌}
use native.Mathlib.Numerals.{add-one}
use native.Mathlib.Omega.{arith}
use lib.ListN.{length}
use borrow.Author.Count.{below_none, below_more}
use Rattle.fields.specs.Bytes.{every}
use Rattle.fields.proofs.Laws.Tests.{every_of}
use Rattle.page.specs.declared.Head.{Head}
use Rattle.page.specs.Layout.{capacity, page_size, entry_count, child_at}
use Rattle.page.specs.Fit.{PageContext, root_context, context_below, page_fit}
use Rattle.page.proofs.Laws.Offsets.{page_within}
use Rattle.image.specs.Images.{page_at, pages_in}
use Rattle.image.specs.Sound.{tree_fit, tree_pages}
use Rattle.image.proofs.Sizes.{sized}
use Rattle.fit.specs.Contexts.{Bounded}
use Rattle.fit.proofs.Laws.Pages.{PageFit, page_fit_is}
use Rattle.fit.proofs.Laws.Paths.{root_path, path_bounded, below_path}
use Rattle.std.specs.Bool.{then_some}
use Rattle.std.specs.Prelude.{Option, Some, None}
use Rattle.access.specs.Access.{PageIn, OpenImage}
use Rattle.access.proofs.Laws.{page_length, opened_ranges, opened_size}
use Rattle.audit.specs.Walks.{Standing, Inner, fit_below, page_count, page_count_below}
use Rattle.lists.specs.Lists.{total}
use Rattle.lists.proofs.Totals.{total_ones}
use Rattle.fit.proofs.Tests.{passes}
use Rattle.soundness.proofs.Tree.{top_fit, tree_parts, tree_length, tree_short}

-- ---- the answer is a number exactly where the tree is fit

pub false_of : (t : Bool) → (t ≡ true → ⊥) → t ≡ false
false_of true f = absurd (f refl)
false_of false f = refl

fit_of : (t : Bool) (n k : ℕ) → then_some t n ≡ Some k → (t ≡ true) × (n ≡ k)
fit_of true n k e = (refl, cc)
fit_of false n k e =
    let z : ◌≡◌ {A = ℕ} 0 1 = cc in
    absurd (omega arith)

unfit_of : (t : Bool) (n : ℕ) → then_some t n ≡ None → t ≡ true → ⊥
unfit_of true n e d =
    let z : ◌≡◌ {A = ℕ} 0 1 = cc in
    omega arith
unfit_of false n e d = true≢false (sym d)

module _ (half : ℕ) (h : Head) (img : List ℕ) (at : PageContext) (p : ℕ) where
  pub counted_fit : (k : ℕ) → page_count half h img at p ≡ Some k
      → (tree_fit half h img at.level at p ≡ true) × (length (tree_pages half img at.level p) ≡ k)
  unfolding page_count
  counted_fit k e = fit_of _ _ k e

  pub fit_counted : {k : ℕ} → tree_fit half h img at.level at p ≡ true → length (tree_pages half img at.level p) ≡ k
      → Some k ≡ page_count half h img at p
  unfolding page_count
  fit_counted e l = ap₂ (λ t n. then_some t n) (sym e) (sym l)

  pub counted_unfit : page_count half h img at p ≡ None → tree_fit half h img at.level at p ≡ true → ⊥
  unfolding page_count
  counted_unfit e = unfit_of _ _ e

  pub unfit_counted : (tree_fit half h img at.level at p ≡ true → ⊥) → None ≡ page_count half h img at p
  unfolding page_count
  unfit_counted f = ap (λ t. then_some t (length (tree_pages half img at.level p))) (sym (false_of _ f))

  -- ---- the page itself

  pub page_unfit : page_fit half h at (page_at half img p) ≡ false → None ≡ page_count half h img at p
  page_unfit e = unfit_counted (λ t. true≢false (sym (top_fit half h img at.level at p t) ∙ e))

  -- the test of the page's bytes as the code has them
  pub tested : {s : List ℕ} {r t : Bool} → s ≡ page_at half img p → r ≡ page_fit half h at s → r ≡ t
      → page_fit half h at (page_at half img p) ≡ t
  tested d e f = ap (page_fit half h at) (sym d) ∙ sym e ∙ f

  tree_leaf : (l : ℕ) → l ≡ 0 → page_fit half h at (page_at half img p) ≡ true
      → (tree_fit half h img l at p ≡ true) × (length (tree_pages half img l p) ≡ 1)
  unfolding tree_fit tree_pages
  tree_leaf zero z e = (e, refl)
  tree_leaf (suc l) z e = absurd (omega arith)

  pub leaf_counted : at.level ≡ 0 → page_fit half h at (page_at half img p) ≡ true → Some 1 ≡ page_count half h img at p
  leaf_counted z e =
      let leaf = tree_leaf at.level z e in
      fit_counted leaf.0 leaf.1

-- ---- where the walk may go

pub standing_within : {half : ℕ} {img : List ℕ} {h : Head} {at : PageContext} {p : ℕ} → Standing half img h at p → PageIn half img p
standing_within {half} w = omega (arith, w.size, page_within half w.below)

pub standing_size : {half : ℕ} {img : List ℕ} {h : Head} {at : PageContext} {p : ℕ} {s : List ℕ} → Standing half img h at p
    → s ≡ page_at half img p → length s ≡ page_size half
standing_size w d = ap length d ∙ page_length _ _ _ (standing_within w)

pub standing_bounded : {half : ℕ} {img : List ℕ} {h : Head} {at : PageContext} {p : ℕ} → Standing half img h at p → Bounded at
standing_bounded w = path_bounded w.path w.changes

pub root_standing : {half : ℕ} {img : List ℕ} {h : Head} {b : PageContext} → 1 ≤ half → half ≤ 12 → OpenImage half img h
    → b ≡ root_context h → Standing half img h b h.root
root_standing {half} {img} {h} least most o x =
    let r = opened_ranges o in
    rw x
    (record {
      half_least = least;
      half_most = most;
      size = opened_size o;
      most = omega (arith, (sized half img o.whole).most, r.pages_is);
      changes = r.changes_most;
      above = 0;
      path = root_path half (pages_in half img) h r;
      some = r.root_least;
      below = omega (arith, r.root_below, r.pages_is);
    })

-- the walk goes on to page q in the context b, the page below the i-th entry of page p
pub record Entered (half : ℕ) (img : List ℕ) (h : Head) (at : PageContext) (p i : ℕ) (b : PageContext) (q : ℕ) : Type 0 where
  pub standing : Standing half img h b q
  pub level : b.level ≡ at.level - 1
  pub counted : page_count half h img b q ≡ page_count_below half h img at p i

module _ {half : ℕ} {img : List ℕ} {h : Head} {at : PageContext} {p i : ℕ} (w : Standing half img h at p)
    (e : Inner half img h at p i) where
  page_is_fit : PageFit half h at (page_at half img p)
  page_is_fit = (page_fit_is half h at (page_at half img p)).0 e.fit

  pub entries_most : entry_count (page_at half img p) ≤ capacity half
  entries_most = page_is_fit.most

  pub standing_below : Standing half img h (context_below half (page_at half img p) at i) (child_at half (page_at half img p) i)
  standing_below =
      let child = (page_is_fit.children i e.entry).inner e.level in
      record {
        half_least = w.half_least;
        half_most = w.half_most;
        size = w.size;
        most = w.most;
        changes = w.changes;
        above = w.above + 1;
        path = below_path w.path page_is_fit w.half_least i e.entry e.level;
        some = child.0;
        below = child.1;
      }

  -- the page's bytes as the code has them, and the context and the page that it goes on to
  module _ {s : List ℕ} (d : s ≡ page_at half img p) where
    pub entry_reads : (i < capacity half) × (entry_count s ≤ capacity half)
    entry_reads =
        let same : entry_count s ≡ entry_count (page_at half img p) = ap entry_count d in
        (omega (arith, entries_most, e.entry), omega (arith, entries_most))

    pub entered : {b : PageContext} {q : ℕ} → b ≡ context_below half s at i → q ≡ child_at half s i → Entered half img h at p i b q
    unfolding context_below
    entered x y =
        record {
          standing = rw (x, y, d) standing_below;
          level = ap (λ a. a.level) x;
          counted = ap₂ (page_count half h img) (x ∙ ap (λ l. context_below half l at i) d) (y ∙ ap (λ l. child_at half l i) d);
        }

-- ---- what the walk has counted below a page's entries

-- the pages below the first i entries are fit, and with the page itself there are so many
pub record Passing (half : ℕ) (img : List ℕ) (h : Head) (at : PageContext) (p n pages i : ℕ) : Type 0 where
  pub standing : Standing half img h at p
  pub level : 1 ≤ at.level
  pub fit : page_fit half h at (page_at half img p) ≡ true
  pub len : n ≡ entry_count (page_at half img p)
  pub within : i ≤ n
  pub each : (j : ℕ) → j < i
      → tree_fit half h img (at.level - 1) (context_below half (page_at half img p) at j) (child_at half (page_at half img p) j) ≡ true
  pub count : pages ≡ suc (total i (λ j. length (tree_pages half img (at.level - 1) (child_at half (page_at half img p) j))))
  pub most : pages ≤ 1 + 1024 * i

pub passing_none : {half : ℕ} {img : List ℕ} {h : Head} {at : PageContext} {p n : ℕ} → Standing half img h at p → 1 ≤ at.level
    → page_fit half h at (page_at half img p) ≡ true
    → n ≡ entry_count (page_at half img p) → Passing half img h at p n 1 0
unfolding total
passing_none w l f e =
    record { standing = w; level = l; fit = f; len = e; within = omega arith; each = below_none _; count = refl; most = omega arith }

module _ {half : ℕ} {img : List ℕ} {h : Head} {at : PageContext} {p n pages i : ℕ} (r : Passing half img h at p n pages i) where
  pub passing_inner : i < n → Inner half img h at p i
  passing_inner l = record { level = r.level; fit = r.fit; entry = omega (arith, r.len) }

  pub passing_most : n ≤ capacity half
  passing_most = omega (arith, r.len, ((page_fit_is half h at (page_at half img p)).0 r.fit).most)

  level_is : at.level ≡ suc (at.level - 1)
  level_is = omega (arith, r.level)

  pub passing_more : (k : ℕ) {a : Option ℕ} → i < n → a ≡ page_count_below half h img at p i → a ≡ Some k
      → Passing half img h at p n (pages + k) (i + 1)
  unfolding context_below total
  passing_more k l e f =
      let s : List ℕ = page_at half img p in
      let b : PageContext = context_below half s at i in
      let here = counted_fit half h img b (child_at half s i) k (sym e ∙ f) in
      let w : Standing half img h b (child_at half s i) = standing_below r.standing (passing_inner l) in
      let short : length (tree_pages half img (at.level - 1) (child_at half s i)) < h.pages =
      tree_short half h img (at.level - 1) b (child_at half s i) refl w.some w.below here.0 in
      record {
        standing = r.standing;
        level = r.level;
        fit = r.fit;
        len = r.len;
        within = omega arith;
        each = below_more _ _ r.each here.0;
        count = rw add-one (omega (arith, r.count, here.1));
        most = omega (arith, r.most, here.1, r.standing.most);
      }

  pub passing_stops : {a : Option ℕ} → i < n → a ≡ page_count_below half h img at p i → a ≡ None
      → None ≡ page_count half h img at p
  unfolding context_below
  passing_stops l e f =
      unfit_counted half h img at p
      (λ t.
      counted_unfit half h img (context_below half (page_at half img p) at i) (child_at half (page_at half img p) i) (sym e ∙ f)
      ((tree_parts half h img (at.level - 1) at p (ap (λ l. tree_fit half h img l at p) (sym level_is) ∙ t)).1 i (omega (arith, r.len))))

  pub passing_all : n ≤ i → Some pages ≡ page_count half h img at p
  unfolding tree_fit
  passing_all l =
      let s : List ℕ = page_at half img p in
      let all : entry_count s ≡ i = omega (arith, r.within, r.len) in
      fit_counted half h img at p
      (ap (λ l. tree_fit half h img l at p) level_is
      ∙ (and-eq-true_iff _ _).1 (r.fit, every_of _ _ (λ j k. r.each j (omega arith))))
      (ap (λ l. length (tree_pages half img l p)) level_is
      ∙ tree_length half img (at.level - 1) p (omega (arith, passing_most, r.len))
      ∙ ap (λ k. suc (total k (λ j. length (tree_pages half img (at.level - 1) (child_at half s j))))) all
      ∙ sym r.count)

-- ---- the leaves below a page

pub leaves_counted : (half : ℕ) (h : Head) (img : List ℕ) (at : PageContext) (p : ℕ) → at.level ≡ 1
    → page_fit half h at (page_at half img p) ≡ true
    → let n = entry_count (page_at half img p) in
    then_some (every n (λ i. fit_below half h img at p i)) (1 + n) ≡ page_count half h img at p
unfolding page_count tree_fit tree_pages
leaves_counted half h img at p z fit =
    let s : List ℕ = page_at half img p in
    let n = entry_count s in
    let ones = total_ones n (λ i. length (tree_pages half img 0 (child_at half s i))) (λ i l. refl) in
    let length_is = tree_length half img 0 p ((page_fit_is half h at s).0 fit).most in
    let fits : every n (λ i. fit_below half h img at p i) ≡ tree_fit half h img 1 at p = passes fit refl in
    let pages : 1 + n ≡ length (tree_pages half img 1 p) = omega (arith, ones, length_is) in
    ap₂ then_some (fits ∙ ap (λ l. tree_fit half h img l at p) (sym z)) (pages ∙ ap (λ l. length (tree_pages half img l p)) (sym z))

pub few_entries : (half : ℕ) (h : Head) (img : List ℕ) (at : PageContext) (p : ℕ) → half ≤ 12
    → page_fit half h at (page_at half img p) ≡ true → entry_count (page_at half img p) ≤ 24
few_entries half h img at p most fit = omega (arith, ((page_fit_is half h at (page_at half img p)).0 fit).most)
