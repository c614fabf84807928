-- Document 01, "The page": the sound image. Each page below the high mark but the head is reachable exactly once: by the tree
-- or by the chain of free pages. Document 02, (iv): and no two neighbouring leaf entries of kind 1 have equal totals. Assumes nothing.
use Rattle.std.specs.Prelude.{ℕ, zero, suc, ◌+◌, ◌-◌, Bool, true, cond, ◌&&◌, List, [], ◌∷◌, length, eqb}
use Rattle.lists.specs.Lists.{concat_map}
use Rattle.lists.specs.Lists.{times, all_of}
use Rattle.fields.specs.Bytes.{every}
use Rattle.page.specs.declared.Head.{Head}
use Rattle.page.specs.Layout.{entry_count, child_at, entries_of, next_of, free_ok, never_used_ok, head_of}
use Rattle.page.specs.Fit.{PageContext, root_context, context_below, page_fit, head_fit}
use Rattle.image.specs.Images.{page_at, pages_in, length_ok}
use Rattle.image.specs.Neighbours.{neighbours_apart}

-- "Audit goes by page and entry in turn: a page is checked by its entries, and an inner entry by its page below."
-- The level falls on the way down, so that the walk ends on every image.
unfoldable pub tree_fit : ℕ → Head → List ℕ → ℕ → PageContext → ℕ → Bool
tree_fit half h img zero at p = page_fit half h at (page_at half img p)
tree_fit half h img (suc l) at p =
    let s = page_at half img p in
    page_fit half h at s
    && every (entry_count s) (λ i. tree_fit half h img l (context_below half s at i) (child_at half s i))

-- the pages of the tree, each as often as an entry leads to it
unfoldable pub tree_pages : ℕ → List ℕ → ℕ → ℕ → List ℕ
tree_pages half img zero p = p ∷ []
tree_pages half img (suc l) p =
    p ∷ concat_map (λ e. tree_pages half img l e.child) (entries_of half (page_at half img p))

-- the pages of the chain from page p on, at most as many as asked for: a chain that returns to itself has a page twice
unfoldable pub chain_pages : ℕ → List ℕ → ℕ → ℕ → List ℕ
chain_pages half img zero p = []
chain_pages half img (suc most) p = cond (eqb p 0) [] (p ∷ chain_pages half img most (next_of (page_at half img p)))

-- "each page below the high mark except 0 is once in the tree or once in the chain"
unfoldable pub each_once : ℕ → List ℕ → List ℕ → Bool
each_once mark tree chain = every (mark - 1) (λ i. eqb (times (suc i) tree + times (suc i) chain) 1)

-- "The image is n pages of 512 bytes, n from 2 to 1,024", at other capacities of 32 + 20 × K: bytes of another length are no sound image,
-- whatever they show. "An image is sound if head and all tree pages are fit, each page below the high mark except 0 is once in the tree or
-- once in the chain, the chain length is true, and free and never used pages read as above."
-- What document 01 asks. An image that was changed before request (iv) is so; the rebuild asks no more.
unfoldable pub sound_before : ℕ → List ℕ → Bool
sound_before half img =
    let n = pages_in half img in
    let h = head_of (page_at half img 0) in
    let tree = tree_pages half img (h.height - 1) h.root in
    let chain = chain_pages half img n h.free in
    length_ok half img
    && (head_fit half n (page_at half img 0)
    && (tree_fit half h img (h.height - 1) (root_context h) h.root
    && (each_once h.mark tree chain
    && (eqb (length chain) h.chain
    && (all_of (λ p. free_ok half (page_at half img p)) chain
    && every (n - h.mark) (λ i. never_used_ok (page_at half img (h.mark + i))))))))

-- "From then on a kind 1 image is sound only if no two neighbouring leaf entries have equal totals"; the other kinds as before.
unfoldable pub sound : ℕ → List ℕ → Bool
sound half img =
    sound_before half img && cond (eqb (head_of (page_at half img 0)).kind 1) (neighbours_apart half img) true
