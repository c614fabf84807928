-- Tests over rows of entries, and what holds where the check stands. Assumes nothing.
use mathlib.Core.Path.{◌≡◌, refl, sym, ap, ap₂, ◌∙◌}
use mathlib.Core.Bool.{Bool, true, false, not, ◌&&◌}
use mathlib.Core.List.{List}
use Prim.Native.Nat.{ℕ, suc, ◌+◌, ◌*◌, ◌-◌, ◌/◌, ◌^◌, ◌≤◌, ◌<◌}
use native.Mathlib.Nat.{zero-add}
use native.Mathlib.Omega.{arith}
use native.Mathlib.Decide.{dec_lt}
use lib.ListN.{length}
use mir.Syntax.{w64}
use mir.Val.{to_z}
use mir.Facts.{to_z_inj}
use Rattle.rule.specs.declared.Pair.{Pair}
use Rattle.rule.specs.Pairs.{same_number, same_pair}
use Rattle.rule.specs.Bounds.{Combinable}
use Rattle.rule.proofs.Tests.{fails}
use Rattle.rule.proofs.Signed.{same_number_is}
use Rattle.fields.specs.Bytes.{every}
use Rattle.fields.proofs.Laws.Tests.{every_all, every_of}
use Rattle.page.specs.declared.Head.{Head}
use Rattle.page.specs.Layout.{capacity, page_size, entry_count, pair_at, child_at}
use Rattle.page.specs.Fit.{root_context, context_below}
use Rattle.page.proofs.Laws.Offsets.{page_within}
use Rattle.fit.specs.Contexts.{Compared}
use Rattle.fit.proofs.Laws.Pages.{PageFit, entry_first}
use Rattle.image.specs.Images.{page_at}
use Rattle.image.specs.Sound.{tree_fit, sound_before}
use Rattle.image.proofs.Sizes.{sized}
use Rattle.soundness.proofs.Sound.{the_head, sound_facts}
use Rattle.soundness.proofs.Tree.{tree_parts, tree_top}
use Rattle.soundness.proofs.Entries.{entry_within}
use Rattle.access.specs.Access.{PageIn}
use Rattle.access.proofs.Laws.{page_length}
use Rattle.lookup.proofs.Laws.Bounds.{paired_combinable}
use Rattle.neighbours.specs.declared.Edges.{Edges}
use Rattle.neighbours.specs.Edges.{joined, under_pair, in_row, leaf_edges, page_edges, entry_edges}
use Rattle.neighbours.specs.Standing.{Standing, Inner}
use Rattle.neighbours.proofs.Found.{ends_paired}

-- ---- two pairs

-- where the bits of their sums differ, the pairs do
pub bits_apart : (p q : Pair) {a b : ℕ} → a < 2 ^ 64 → b < 2 ^ 64 → to_z w64 a ≡ p.sum → to_z w64 b ≡ q.sum → (a ≡ b → ⊥)
    → true ≡ not (same_pair p q)
unfolding same_pair
bits_apart p q l m d e other =
    let bits : p.sum ≡ q.sum → _ ≡ _ = λ s. to_z_inj {w = w64} (record { fits = l }) (record { fits = m }) (d ∙ s ∙ sym e) in
    let sums : same_number p.sum q.sum ≡ false = (fails _ (same_number_is p.sum q.sum)).1 (λ s. other (bits s)) in
    ap (λ t. not (t && same_number p.count q.count)) (sym sums)

-- ---- rows

-- a row from the first entry on
pub from_first : (n : ℕ) (p : ℕ → Bool) → every n (λ i. p (0 + i)) ≡ every n p
from_first n p = λ j. every n (λ i. p (zero-add i j))

-- Of n entries, from half to twice half, each but the last stands in the first row of half, in the last one, or in the middle.
pub rows_all : (half n : ℕ) (p : ℕ → Bool) → n ≤ 2 * half → every (half - 1) p ≡ true → every 1 (λ i. p (n / 2 - 1 + i)) ≡ true
    → every (half - 1) (λ i. p (n - half + i)) ≡ true → every (n - 1) p ≡ true
rows_all half n p most low middle high = every_of (n - 1) p (λ i l. go i l (dec_lt i (half - 1)) (dec_lt i (n - half)))
  where
    go : (i : ℕ) → i < n - 1 → Dec (i < half - 1) → Dec (i < n - half) → p i ≡ true
    go i l (yes a) b = every_all (half - 1) p low i a
    go i l (no a) (yes b) =
        let e : i ≡ n / 2 - 1 + 0 = omega arith in
        ap p e ∙ every_all 1 (λ i. p (n / 2 - 1 + i)) middle 0 (omega arith)
    go i l (no a) (no b) =
        let e : i ≡ n - half + (i - (n - half)) = omega arith in
        ap p e ∙ every_all (half - 1) (λ i. p (n - half + i)) high (i - (n - half)) (omega arith)

-- ---- where the check stands

module _ {half : ℕ} {img : List ℕ} {l p : ℕ} (w : Standing half img l p) where
  pub standing_within : PageIn half img p
  standing_within = omega (arith, w.size, page_within half w.below)

  -- and so does the head
  pub head_within : PageIn half img 0
  head_within =
      let some : 0 < w.head.pages = omega (arith, w.below) in
      omega (arith, w.size, page_within half some)

  pub standing_size : {s : List ℕ} → s ≡ page_at half img p → length s ≡ page_size half
  standing_size d = ap length d ∙ page_length _ _ _ standing_within

  standing_fit : PageFit half w.head w.at (page_at half img p)
  standing_fit = tree_top half w.head img l w.at p w.fit

  pub standing_some : 1 ≤ entry_count (page_at half img p)
  standing_some = entry_first standing_fit (omega (arith, w.half_least))

  -- a page's count of entries may be used
  pub standing_compared : {s : List ℕ} → s ≡ page_at half img p → Compared half s (entry_count s)
  standing_compared d =
      let same : entry_count _ ≡ entry_count (page_at half img p) = ap entry_count d in
      record {
        size = standing_size d;
        len = refl;
        some = omega (arith, standing_some);
        most = omega (arith, standing_fit.most);
      }

  -- a leaf, as the code has it
  pub leaf_found : {s : List ℕ} {e : Edges} → l ≡ 0 → s ≡ page_at half img p → e ≡ leaf_edges half s → e ≡ page_edges half img l p
  unfolding page_edges
  leaf_found z d x = x ∙ ap (leaf_edges half) d ∙ ap (λ k. page_edges half img k p) (sym z)

  pub first_inner : 1 ≤ l → Inner half img l p 0
  first_inner a = record { standing = w; above = a; entry = omega (arith, standing_some) }

-- the root
pub root_standing : {half : ℕ} {img : List ℕ} → 2 ≤ half → half ≤ 12 → sound_before half img ≡ true → (the_head half img).kind ≡ 1
    → Standing half img ((the_head half img).height - 1) (the_head half img).root
unfolding root_context
root_standing {half} {img} least most e kind =
    let f = (sound_facts half img e).fit in
    let h : Head = the_head half img in
    record {
      half_least = least;
      half_most = most;
      head = h;
      size = (sized half img f.whole).size ∙ ap (λ n. page_size half * n) (sym f.head.pages_is);
      kind = kind;
      changes = f.head.changes_most;
      below = omega (arith, f.head.root_below, f.head.pages_is);
      at = root_context h;
      level = refl;
      end = omega arith;
      fit = f.tree;
    }

module _ {half : ℕ} {img : List ℕ} {l p i : ℕ} (e : Inner half img l p i) where
  abbrev w : Standing half img l p
  w = e.standing

  level_is : l ≡ suc (l - 1)
  level_is = omega (arith, e.above)

  parts : PageFit half w.head w.at (page_at half img p)
      × ((j : ℕ) → j < entry_count (page_at half img p)
      → tree_fit half w.head img (l - 1) (context_below half (page_at half img p) w.at j) (child_at half (page_at half img p) j)
      ≡ true)
  parts = tree_parts half w.head img (l - 1) w.at p (ap (λ k. tree_fit half w.head img k w.at p) (sym level_is) ∙ w.fit)

  -- the page below the entry
  standing_below : Standing half img (l - 1) (child_at half (page_at half img p) i)
  unfolding context_below
  standing_below =
      record {
        half_least = w.half_least;
        half_most = w.half_most;
        head = w.head;
        size = w.size;
        kind = w.kind;
        changes = w.changes;
        below = ((parts.0.children i e.entry).inner (omega (arith, w.level, e.above))).1;
        at = context_below half (page_at half img p) w.at i;
        level = omega (arith, w.level);
        end = entry_within parts.0 w.end i e.entry;
        fit = parts.1 i e.entry;
      }

  -- its totals can take the entry's pair
  below_combinable : let s = page_at half img p in
      let f = page_edges half img (l - 1) (child_at half s i) in
      Combinable (pair_at half s i) f.first × Combinable (pair_at half s i) f.last
  unfolding context_below
  below_combinable =
      let some : 1 ≤ half = omega (arith, w.half_least) in
      let ends =
      ends_paired half w.head img some w.kind (l - 1) (context_below half (page_at half img p) w.at i)
      (child_at half (page_at half img p) i) (parts.1 i e.entry) in (
        paired_combinable (parts.0.pairs i e.entry) ends.first w.changes,
        paired_combinable (parts.0.pairs i e.entry) ends.last w.changes,
      )

  -- as the code has them: the page's bytes, the entry's pair and child, what is found there
  module _ {s : List ℕ} (d : s ≡ page_at half img p) where
    pub inner_reads : (length s ≡ page_size half) × (i < capacity half)
    inner_reads = (standing_size w d, omega (arith, parts.0.most, e.entry))

    module _ {k : ℕ} (y : k ≡ child_at half s i) where
      child_is : k ≡ child_at half (page_at half img p) i
      child_is = y ∙ ap (λ b. child_at half b i) d

      pub inner_below : Standing half img (l - 1) k
      inner_below = rw child_is standing_below

      module _ {q : Pair} {f : Edges} (x : q ≡ pair_at half s i) (z : f ≡ page_edges half img (l - 1) k) where
        pair_is : q ≡ pair_at half (page_at half img p) i
        pair_is = x ∙ ap (λ b. pair_at half b i) d

        found_is : f ≡ page_edges half img (l - 1) (child_at half (page_at half img p) i)
        found_is = z ∙ ap (page_edges half img (l - 1)) child_is

        pub inner_combinable : Combinable q f.first × Combinable q f.last
        inner_combinable = rw (pair_is, found_is) below_combinable

        pub inner_found : {r : Edges} → r ≡ under_pair q f → r ≡ entry_edges half img (l - 1) p i
        unfolding entry_edges
        inner_found b = b ∙ ap₂ under_pair pair_is found_is

-- ---- what was found below the entries passed

pub record Passing (half : ℕ) (img : List ℕ) (l p n : ℕ) (found : Edges) (i : ℕ) : Type 0 where
  pub standing : Standing half img l p
  pub above : 1 ≤ l
  pub len : n ≡ entry_count (page_at half img p)
  pub some : 1 ≤ i
  pub within : i ≤ n
  pub row : found ≡ in_row (i - 1) (λ j. entry_edges half img (l - 1) p j)

pub passing_first : {half : ℕ} {img : List ℕ} {l p n : ℕ} {e : Edges} → Standing half img l p → 1 ≤ l
    → n ≡ entry_count (page_at half img p) → e ≡ entry_edges half img (l - 1) p 0 → Passing half img l p n e 1
unfolding in_row
passing_first w a d e =
    record { standing = w; above = a; len = d; some = omega arith; within = omega (arith, standing_some w, d); row = e }

module _ {half : ℕ} {img : List ℕ} {l p n : ℕ} {found : Edges} {i : ℕ} (r : Passing half img l p n found i) where
  pub passing_inner : i < n → Inner half img l p i
  passing_inner m = record { standing = r.standing; above = r.above; entry = omega (arith, r.len) }

  pub passing_more : {e : Edges} {next : Edges} → i < n → e ≡ entry_edges half img (l - 1) p i → next ≡ joined found e
      → Passing half img l p n next (i + 1)
  unfolding in_row
  passing_more m d c =
      let f : ℕ → Edges = λ j. entry_edges half img (l - 1) p j in
      let here : i ≡ suc (i - 1) = omega (arith, r.some) in
      let next : i + 1 - 1 ≡ suc (i - 1) = omega (arith, r.some) in
      record {
        standing = r.standing;
        above = r.above;
        len = r.len;
        some = omega arith;
        within = omega arith;
        row = c ∙ ap₂ joined r.row (d ∙ ap f here) ∙ ap (λ k. in_row k f) (sym next);
      }

  pub passing_all : n ≤ i → found ≡ page_edges half img l p
  unfolding page_edges entry_edges
  passing_all m =
      let last : i - 1 ≡ entry_count (page_at half img p) - 1 = omega (arith, r.within, r.len) in
      let level : suc (l - 1) ≡ l = omega (arith, r.above) in
      r.row ∙ ap (λ k. in_row k (λ j. entry_edges half img (l - 1) p j)) last ∙ ap (λ k. page_edges half img k p) level
