-- Document 01, "The page": a page fit in its context, and the head fit. Assumes nothing.
use Rattle.std.specs.Prelude.{ℕ, suc, ◌+◌, ◌*◌, ◌-◌, Bool, true, false, cond, ◌&&◌, List, leb, ltb, eqb, nat_abs}
use Rattle.rule.specs.declared.Pair.{Pair}
use Rattle.rule.specs.Time.{END, most_value, kind_ok, window_ok}
use Rattle.rule.specs.Bounds.{value_or_none}
use Rattle.fields.specs.Bytes.{part, all_are, every}
use Rattle.page.specs.declared.Head.{Head}
use Rattle.page.specs.declared.PageContext as declared
use Rattle.page.specs.Layout.{capacity, capacity_ok, capacity_named, page_size, level_of, entry_count, start_at, pair_at, child_at, unused_ok, head_of}

-- A page's place in the tree, as the code has it (src/lib.rt).
abbrev pub PageContext : Type 0
PageContext = declared.PageContext

-- "(root: height − 1)", "(root: 0)", "(root: END)"
unfoldable pub root_context : Head → PageContext
root_context h = record { level = h.height - 1; is_root = true; lo = 0; hi = END; sums = 0; counts = 0 }

-- where the i-th entry of a page's bytes ends
unfoldable pub end_at : List ℕ → ℕ → ℕ → ℕ
end_at s hi i = cond (ltb (suc i) (entry_count s)) (start_at s (suc i)) hi

-- the context of the page under an entry of those numbers
abbrev pub context_under : PageContext → ℕ → ℕ → Pair → PageContext
context_under at start end pair =
    record {
      level = at.level - 1;
      is_root = false;
      lo = start;
      hi = end;
      sums = at.sums + nat_abs pair.sum;
      counts = at.counts + nat_abs pair.count;
    }

-- the context of the page under the i-th entry
unfoldable pub context_below : ℕ → List ℕ → PageContext → ℕ → PageContext
context_below half s at i = context_under at (start_at s i) (end_at s at.hi i) (pair_at half s i)

-- "it has 12 to 24 entries (root leaf 1 to 24, inner root 2 to 24)", which is K/2 to K at K = 24
unfoldable pub fewest : ℕ → PageContext → ℕ
fewest half at = cond at.is_root (cond (eqb at.level 0) 1 2) half

-- "it has 12 to 24 entries (root leaf 1 to 24, inner root 2 to 24)"
unfoldable pub entry_count_ok : ℕ → PageContext → List ℕ → Bool
entry_count_ok half at s = leb (fewest half at) (entry_count s) && leb (entry_count s) (capacity half)

-- "starts rise strictly, the first is the parent entry's start (root: 0), the last lies below that entry's end (root: END)"
unfoldable pub starts_ok : PageContext → List ℕ → Bool
starts_ok at s =
    eqb (start_at s 0) at.lo
    && (every (entry_count s - 1) (λ i. ltb (start_at s i) (start_at s (suc i)))
    && ltb (start_at s (entry_count s - 1)) at.hi)

-- "an inner entry's child lies in 1 to n−1, a leaf's is 0"
unfoldable pub child_ok : ℕ → ℕ → ℕ → Bool
child_ok pages level child = cond (eqb level 0) (eqb child 0) (leb 1 child && ltb child pages)

unfoldable pub children_ok : ℕ → ℕ → PageContext → List ℕ → Bool
children_ok half pages at s = every (entry_count s) (λ i. child_ok pages at.level (child_at half s i))

-- "for kind 1 the absolute sums of an entry and of those above it on its way add to at most 1,000,000 × changes, absolute
-- counts to at most changes; kinds 2 and 3 have (0, 0) or a value with 1"
unfoldable pub pair_ok : Head → PageContext → Pair → Bool
pair_ok h at p =
    cond (eqb h.kind 1)
    (leb (at.sums + nat_abs p.sum) (most_value * h.changes) && leb (at.counts + nat_abs p.count) h.changes)
    (value_or_none p)

unfoldable pub pairs_ok : ℕ → Head → PageContext → List ℕ → Bool
pairs_ok half h at s = every (entry_count s) (λ i. pair_ok h at (pair_at half s i))

-- "A page is fit at its place if its level is the one expected there", and all of the above.
-- The count of entries stands before everything that uses it.
unfoldable pub page_fit : ℕ → Head → PageContext → List ℕ → Bool
page_fit half h at s =
    eqb (level_of s) at.level
    && (entry_count_ok half at s
    && (starts_ok at s
    && (unused_ok half s
    && (children_ok half h.pages at s
    && pairs_ok half h at s))))

-- "The head is fit if n matches the length, changes ≤ 1,000,000,000, the root lies in 1 to n−1, the chain's first page is 0
-- or there, the other fields keep the ranges named, and its rest is FF." The chain's length has no range of its own. Document 02, (xi): "the
-- head's range becomes 1 to 10 at every K".
abbrev pub most_changes : ℕ
most_changes = 1000000000

abbrev pub most_height : ℕ
most_height = 10

unfoldable pub ranges_ok : ℕ → Head → Bool
ranges_ok pages h =
    eqb h.pages pages
    && (leb 1 h.height && leb h.height most_height
    && (leb 1 h.root && ltb h.root pages
    && (ltb h.free pages
    && (leb 2 h.mark && leb h.mark pages
    && (kind_ok h.kind
    && (window_ok h.window
    && leb h.changes most_changes))))))

-- the field names a capacity, and the one by which the page is read
unfoldable pub field_ok : ℕ → ℕ → Bool
field_ok half field = capacity_ok (capacity_named field) && eqb (capacity_named field) (capacity half)

unfoldable pub head_fit : ℕ → ℕ → List ℕ → Bool
head_fit half pages s =
    ranges_ok pages (head_of s)
    && (field_ok half (head_of s).capacity && all_are 255 (part s 40 (page_size half - 40)))
