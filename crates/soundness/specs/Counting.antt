-- Soundness by counting, as the audit does it. No page is marked: a page is fit at no two places (places of one level have different
-- starts, and other levels differ in the level field), a chain that ends has no page twice, and tree pages, free pages and pages
-- never used exclude each other. So if tree and chain have as many pages as lie below the high mark, each is there once.
-- Assumes nothing.
use Rattle.std.specs.Prelude.{ℕ, zero, suc, ◌+◌, ◌-◌, Bool, ◌&&◌, List, length, eqb, leb, ltb}
use Rattle.fields.specs.Bytes.{every}
use Rattle.page.specs.Layout.{next_of, free_ok, never_used_ok, head_of}
use Rattle.page.specs.Fit.{root_context, head_fit}
use Rattle.image.specs.Images.{page_at, pages_in, length_ok}
use Rattle.image.specs.Sound.{tree_fit, tree_pages}

-- the chain from page p on ends after k free pages
unfoldable pub chain_ends : ℕ → List ℕ → ℕ → ℕ → Bool
chain_ends half img zero p = eqb p 0
chain_ends half img (suc k) p =
    leb 1 p
    && (ltb p (pages_in half img)
    && (free_ok half (page_at half img p) && chain_ends half img k (next_of (page_at half img p))))

-- The length is in range, head and tree are fit, tree and chain have as many pages as lie below the high mark, the chain ends after as
-- many free pages as the head says, and the rest was never used. The chain's length is compared before it is used: any number may stand
-- in the head.
unfoldable pub sound_by_counting : ℕ → List ℕ → Bool
sound_by_counting half img =
    let n = pages_in half img in
    let h = head_of (page_at half img 0) in
    length_ok half img
    && (head_fit half n (page_at half img 0)
    && (tree_fit half h img (h.height - 1) (root_context h) h.root
    && (eqb (length (tree_pages half img (h.height - 1) h.root) + h.chain) (h.mark - 1)
    && (chain_ends half img h.chain h.free
    && every (n - h.mark) (λ i. never_used_ok (page_at half img (h.mark + i)))))))
