-- What the looks of a walk find, and all looks of an audit: at the pages of the tree, of the chain and from the high mark on, the head
-- apart. Assumes nothing.
use Rattle.std.specs.Prelude.{ℕ, zero, suc, ◌+◌, ◌-◌, cond, ◌&&◌, List, [], ◌∷◌, ◌++◌, map, length, eqb, leb, ltb}
use Rattle.page.specs.declared.Head.{Head}
use Rattle.page.specs.Layout.{next_of, free_ok, head_of}
use Rattle.lists.specs.Lists.{listed}
use Rattle.image.specs.Images.{page_at, pages_in}
use Rattle.image.specs.Trail.{Visit, finds_fit, all_fit, audit_trail}

-- the pages looked at, in turn
unfoldable pub pages_of : List Visit → List ℕ
pages_of vs = map (λ v. v.page) vs

-- those of them that were found fit
unfoldable pub found_fit : ℕ → Head → List ℕ → List Visit → List ℕ
found_fit half h img [] = []
found_fit half h img (v ∷ vs) =
    let rest = found_fit half h img vs in
    cond (finds_fit half h img v) (v.page ∷ rest) rest

-- The chain's pages from page p on, with k to go: it ends at a number that is no page of the image, which is not looked at, or at a
-- page that is not free.
unfoldable pub chain_looks : ℕ → List ℕ → ℕ → ℕ → List ℕ
chain_looks half img zero p = []
chain_looks half img (suc k) p =
    let s = page_at half img p in
    let next = chain_looks half img k (next_of s) in
    let here = p ∷ cond (free_ok half s) next [] in
    cond (leb 1 p && ltb p (pages_in half img)) here []

-- Only if every page of the tree is fit, and tree and chain have as many pages as lie below the high mark but the head, an audit goes
-- on to the chain, and then, whatever it found there, to the pages from the high mark on.
unfoldable pub audit_looks : ℕ → List ℕ → List ℕ
audit_looks half img =
    let h = head_of (page_at half img 0) in
    let tree = audit_trail half img in
    let chain = chain_looks half img h.chain h.free in
    let unused = listed (pages_in half img - h.mark) (λ i. h.mark + i) in
    let counted = all_fit half h img tree && eqb (length tree + h.chain) (h.mark - 1) in
    pages_of tree ++ cond counted (chain ++ unused) []
