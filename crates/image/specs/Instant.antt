-- Document 01, "The page": "An instant's answer combines the pairs on its way from root to leaf." Document 02, (viii): "the instant answer
-- gains the start and end of its leaf entry. Pairs are from then on combined on the way back, leaf first". Assumes nothing.
use Rattle.std.specs.Prelude.{ℕ, zero, suc, ◌-◌, Bool, true, false, cond, List}
use Rattle.rule.specs.declared.Pair.{Pair}
use Rattle.rule.specs.Pairs.{none, combine}
use Rattle.page.specs.declared.Head.{Head}
use Rattle.page.specs.Entries.{index_of}
use Rattle.page.specs.Layout.{entries_of, start_at, pair_at, child_at, head_of}
use Rattle.page.specs.Fit.{PageContext, root_context, end_at, context_below, page_fit}
use Rattle.image.specs.Images.{page_at}

-- What a lookup finds: whether every page that it met is fit, the pair, the start and the end of its leaf entry, and how many tree pages
-- it read.
pub record Lookup : Type 0 where
  pub fit : Bool
  pub pair : Pair
  pub start : ℕ
  pub end : ℕ
  pub pages : ℕ

-- "or if a page is unfit, the pages up to and including it"; "Refusals give zeros for both new numbers."
unfoldable pub stopped : Lookup
stopped = record { fit = false; pair = none; start = 0; end = 0; pages = 1 }

-- the answer at a leaf, by its entry's pair, start and end: one page was read
unfoldable pub leaf_answer : Pair → ℕ → ℕ → Lookup
leaf_answer p start end = record { fit = true; pair = p; start = start; end = end; pages = 1 }

-- an entry's pair combined with what was found below it: one page more was read
unfoldable pub above : (Pair → Pair → Pair) → Pair → Lookup → Lookup
above comb p below =
    record {
      fit = below.fit;
      pair = cond below.fit (comb p below.pair) none;
      start = below.start;
      end = below.end;
      pages = suc below.pages;
    }

-- From page p in its context, of the level named, down to the leaf that has t: in each page by the last entry starting at t or before. Its
-- end is the next one's start, or where it is the last its page's own end, which the context tells. Over any combining rule.
unfoldable pub look_by : (Pair → Pair → Pair) → ℕ → Head → List ℕ → ℕ → ℕ → PageContext → ℕ → Lookup
look_by comb half h img t zero at p =
    let s = page_at half img p in
    let i = index_of t (entries_of half s) in
    cond (page_fit half h at s) (leaf_answer (pair_at half s i) (start_at s i) (end_at s at.hi i)) stopped
look_by comb half h img t (suc l) at p =
    let s = page_at half img p in
    let i = index_of t (entries_of half s) in
    let below = look_by comb half h img t l (context_below half s at i) (child_at half s i) in
    cond (page_fit half h at s) (above comb (pair_at half s i) below) stopped

-- by the rule of the head's kind
abbrev pub look : ℕ → Head → List ℕ → ℕ → ℕ → PageContext → ℕ → Lookup
look half h = look_by (combine h.kind) half h

-- from the root
unfoldable pub look_up : ℕ → List ℕ → ℕ → Lookup
look_up half img t =
    let h = head_of (page_at half img 0) in
    look half h img t (h.height - 1) (root_context h) h.root
