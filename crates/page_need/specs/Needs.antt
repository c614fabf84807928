-- Document 01, 24: "A and B together take more pages than chain and pages from the high mark hold". How many pages the two cuts take,
-- counted along their paths in the image as the change finds it. Over half the capacity of a page. Assumes nothing.
use Rattle.std.specs.Prelude.{ℕ, zero, suc, ◌+◌, cond, length, eqb, leb}
use Rattle.rule.specs.Time.{END}
use Rattle.page.specs.declared.Entry.{Entry}
use Rattle.page.specs.Entries.{at, index_of}
use Rattle.page.specs.Layout.{capacity}
use Rattle.image.specs.Images.{Image}
use Rattle.steps.specs.Supply.{entries}
use Rattle.steps.specs.Cut.{root_entry}
use Rattle.page_need.specs.declared.Need.{Need}

abbrev pub need : ℕ → ℕ → Need
need adds pages = record { adds = adds; pages = pages }

-- what two cuts ask for together
unfoldable pub add_needs : Need → Need → Need
add_needs a b = need (a.adds + b.adds) (a.pages + b.pages)

-- "the leaf entry that has t becomes two"; nothing if t starts it
unfoldable pub leaf_need : ℕ → Entry → Need
leaf_need t e = need (cond (eqb e.start t) 0 1) 0

-- "25 entries split: .. a taken page gets 13, the parent gains an entry", K + 1 at other capacities. A page splits once at the most: its
-- halves have room for all that two cuts add.
unfoldable pub page_need : ℕ → ℕ → Need → Need
page_need half n below =
    cond (leb (n + below.adds) (capacity half)) (need 0 below.pages) (need 1 (suc below.pages))

-- An entry at a level that only the cut at t meets.
unfoldable pub one_cut : ℕ → ℕ → ℕ → Entry → Image → Need
one_cut half t zero e X = leaf_need t e
one_cut half t (suc l) e X =
    let es = entries X e.child in
    page_need half (length es) (one_cut half t l (at es (index_of t es)) X)

-- Two entries, one that only the cut at s meets and one that only that at t does.
abbrev pub parted_cuts : ℕ → ℕ → ℕ → ℕ → Entry → Entry → Image → Need
parted_cuts half s t l x y X = add_needs (one_cut half s l x X) (one_cut half t l y X)

-- An entry that the cuts at s and at t meet both: they go on to the same entry of its page, or part there.
unfoldable pub both_cuts : ℕ → ℕ → ℕ → ℕ → Entry → Image → Need
both_cuts half s t zero e X = add_needs (leaf_need s e) (leaf_need t e)
both_cuts half s t (suc l) e X =
    let es = entries X e.child in
    let i = index_of s es in
    let j = index_of t es in
    page_need half (length es)
    (cond (eqb i j) (both_cuts half s t l (at es i) X) (parted_cuts half s t l (at es i) (at es j) X))

-- from the root; "nothing if t is END"
unfoldable pub cuts_need : ℕ → ℕ → ℕ → Image → Need
cuts_need half s e X =
    let l = X.head.height in
    let r = root_entry X in
    cond (leb END e) (one_cut half s l r X) (both_cuts half s e l r X)

-- "A split root gets a new root", one page more.
unfoldable pub with_new_root : Need → ℕ
with_new_root n = n.adds + n.pages

unfoldable pub pages_needed : ℕ → ℕ → ℕ → Image → ℕ
pages_needed half s e X = with_new_root (cuts_need half s e X)
