-- A level above another, written page after page: none, one more, all. Assumes nothing.
use Prim.Native.Nat.{ℕ, suc, ◌+◌, ◌*◌, ◌≤◌, ◌<◌}
use mathlib.Core.Path.{◌≡◌, refl, sym, ap, ◌∙◌}
use mathlib.Core.List.{List}
use native.Mathlib.Nat.{add_assoc, add-zero, mul-add}
use native.Mathlib.Numerals.{add-one}
use native.Mathlib.Omega.{arith}
use lib.ListN.{length}
use Rattle.lists.specs.Lists.{listed, total}
use Rattle.lists.proofs.Listed.{listed_same}
use Rattle.fields.specs.Bytes.{patch}
use Rattle.page.specs.declared.Entry.{Entry}
use Rattle.page.specs.Layout.{capacity, page_size, tree_bytes}
use Rattle.page.proofs.Laws.Offsets.{page_within}
use Rattle.image.proofs.Rows.{rows}
use Rattle.tight.specs.Tight.{entries_before}
use Rattle.tight.proofs.Pages.{pages_some, before_more, before_most, page_most}
use Rattle.tight.proofs.Levels.{pages, size, before}
use Rattle.rebuild.specs.Levels.{page_entry, page_entries_from, level_bytes}
use Rattle.rebuild.proofs.Laws.Patches.{lead_before}
use Rattle.rebuild.proofs.Laws.Pieces.{ahead_none, ahead_more}
use Rattle.rebuild.proofs.Laws.Pages.{page_of, piece, length_piece, level_pieces}

-- the entries that lead to the pages from `below` on
abbrev lead : ℕ → List ℕ → ℕ → ℕ → Entry
lead half s below j = page_entry half s (below + j)

-- Of the level above n pages that stand in s from page `below` on, the first i pages are written, and `child` is the next page to lead to.
pub record Upper (half n below level : ℕ) (s : List ℕ) (i child : ℕ) (t : List ℕ) : Type 0 where
  pub within : i ≤ pages half n
  pub leads : child ≡ below + before half n i
  pub long : length t ≡ length s
  pub bytes : t ≡ patch s (page_size half * (below + n)) (rows (piece half n (lead half s below) level) i)

module _ (half n below level : ℕ) (s : List ℕ) (some : 1 ≤ half) (one : 1 ≤ n)
    (room : page_size half * (below + n + pages half n) ≤ length s) where
  behind_below : page_size half * (below + n) ≤ length s
  behind_below = omega (arith, mul-add (page_size half) (below + n) (pages half n))

  pub upper_none : Upper half n below level s 0 below s
  unfolding entries_before total
  upper_none = record {
    within = omega arith;
    leads = sym (add-zero below);
    long = refl;
    bytes = ahead_none (piece half n (lead half s below) level) (pages half n) (page_size half) s (page_size half * (below + n));
  }

  -- what a page is made of stands in front of what is written
  pages_still : (i : ℕ) (t bs : List ℕ) → i < pages half n → t ≡ patch s (page_size half * (below + n)) bs
      → listed (size half n i) (λ k. page_entry half t (below + before half n i + k)) ≡ page_of half n (lead half s below) i
  pages_still i t bs h e =
      let o : ℕ = page_size half * (below + n) in
      listed_same (size half n i) (λ k. page_entry half t (below + before half n i + k))
      (λ k. page_entry half s (below + (before half n i + k)))
      (λ k l.
      let q : ℕ = below + (before half n i + k) in
      let m : q < below + n = omega (
        arith,
        before_more n (pages half n) i,
        before_most n (pages half n) (pages_some half n some one) (suc i) h,
      ) in
      ap (page_entry half t) (add_assoc below (before half n i) k)
      ∙ ap (λ u. page_entry half u q) e
      ∙ lead_before s o bs behind_below half q (page_within half m))

  pub upper_more : {t u : List ℕ} {m i child : ℕ} → i < pages half n → Upper half n below level s i child t
      → m ≡ size half n i → length u ≡ length t
      → u ≡ patch t (page_size half * (below + n + i)) (tree_bytes half level (listed m (λ k. page_entry half t (child + k))))
      → Upper half n below level s (i + 1) (child + m) u
  upper_more {t} {u} {m} {i} {child} h g e same wrote =
      let k : ℕ = page_size half in
      let f : ℕ → Entry = lead half s below in
      record {
        within = omega arith;
        leads = omega (arith, g.leads, before_more n (pages half n) i, ap (before half n) (add-one i));
        long = same ∙ g.long;
        bytes = ahead_more (piece half n f level) (pages half n) k s (k * (below + n)) i (k * (below + n + i)) h behind_below
            (λ j l. length_piece half n f some one level j) g.bytes wrote
            ((λ l. tree_bytes half level (listed (e l) (λ x. page_entry half t (g.leads l + x))))
            ∙ ap (tree_bytes half level) (pages_still i t (rows (piece half n f level) i) h g.bytes))
            (mul-add k (below + n) i);
      }

  -- the next page: it has room for its entries, they lead to pages of the level below, and it lies in the target
  pub record Above (m i child : ℕ) : Type 0 where
    pub few : m ≤ capacity half
    pub leads : child + m ≤ below + n
    pub page : page_size half * (below + n + i) + page_size half ≤ length s

  pub upper_next : {t : List ℕ} {m i child : ℕ} → i < pages half n → Upper half n below level s i child t → m ≡ size half n i
      → Above m i child
  upper_next {t} {m} {i} {child} h g e =
      let l : child + m ≤ below + n = omega (
        arith,
        g.leads,
        before_more n (pages half n) i,
        before_most n (pages half n) (pages_some half n some one) (suc i) h,
      ) in
      let a : below + n + i < below + n + pages half n = omega arith in
      record {
        few = omega (arith, page_most half n some one i);
        leads = l;
        page = omega (arith, page_within half a);
      }

  pub upper_all : {t : List ℕ} {i child : ℕ} → i ≡ pages half n → Upper half n below level s i child t
      → t ≡ patch s (page_size half * (below + n)) (level_bytes half level (page_entries_from half s below n))
  unfolding page_entries_from
  upper_all e g =
      let f : ℕ → Entry = lead half s below in
      g.bytes
      ∙ ap (λ i. patch s (page_size half * (below + n)) (rows (piece half n f level) i)) e
      ∙ ap (patch s (page_size half * (below + n))) (sym (level_pieces half n f some one level))
