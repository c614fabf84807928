-- Document 01, "Turned back by the input" and "Turned back by the state". Assumes nothing.
use Rattle.std.specs.Prelude.{ℕ, ◌+◌, ◌/◌, Bool, cond, List, [], ◌∷◌, length, replicate, eqb, leb}
use Rattle.fields.specs.Bytes.{patch}

-- A row of the two tables as a call meets it: the status, and whether it turns the call back.
abbrev pub Row : Type 0
Row = ℕ × Bool

-- "The order is 16, 17, 11 or 12, 13, 14, 21, 22, 23, 24, and 15 last." A call's rows stand in that order, and the first that
-- turns it back is its status. "A call that no row here or later turns back is accepted. An accepted call returns 0".
unfoldable pub first : List Row → ℕ
first [] = 0
first (r ∷ rows) =
    let later = first rows in
    cond r.1 r.0 later

-- Document 02, (vi): "Audit, changes and the rebuild shall borrow n/8 bytes, rounded up": how many bytes for n pages
unfoldable pub borrowed : ℕ → ℕ
borrowed pages = (pages + 7) / 8

-- Over how many bytes a call borrows of its scratch for n pages: in the index as many as `borrowed` says, in document 01 n.
module _ (bytes_for : ℕ → ℕ) where
  unfoldable pub scratch_ok : ℕ → List ℕ → Bool
  scratch_ok pages scratch = leb (bytes_for pages) (length scratch)

  -- (vi): "those bytes are 0 afterwards"; document 01: "any beyond keep theirs"
  unfoldable pub cleared : ℕ → List ℕ → List ℕ
  cleared pages scratch = patch scratch 0 (replicate (bytes_for pages) 0)

  -- "scratch is untouched at 16 and 17, also at 11 and 13, else its n bytes are 0", by (vi) those borrowed: at the rows of a call
  -- that stand before it goes to work on its image
  unfoldable pub scratch_after : List Row → ℕ → List ℕ → List ℕ
  scratch_after early pages scratch = cond (eqb (first early) 0) (cleared pages scratch) scratch
