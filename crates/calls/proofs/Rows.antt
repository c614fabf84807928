-- The rows of a call and its status, which is that of the first row that turns it back. Assumes nothing.
use Prim.Native.Nat.{ℕ, ◌<◌}
use mathlib.Core.Path.{◌≡◌, refl, sym, ap}
use mathlib.Core.Logic.{◌≢◌}
use mathlib.Core.Bool.{Bool, true, false, cond}
use mathlib.Core.List.{List, [], ◌∷◌, ◌++◌}
use native.Mathlib.Omega.{arith}
use lib.Dec.{eqb}
use borrow.Author.Tests.{ne_eqb}
use Rattle.lists.specs.Lists.{All, all_none, all_more}
use Rattle.calls.specs.Refusals.{Row, first}

-- a row that doesn't turn the call back may be left out, wherever it stands
pub first_without : (xs : List Row) (n : ℕ) {b : Bool} (ys : List Row) → b ≡ false → first (xs ++ ((n, b) ∷ ys)) ≡ first (xs ++ ys)
unfolding first
first_without [] n ys e = rw e
first_without (x ∷ xs) n ys e = ap (cond x.1 x.0) (first_without xs n ys e)

pub first_off : (n : ℕ) {b : Bool} (rows : List Row) → b ≡ false → first ((n, b) ∷ rows) ≡ first rows
first_off n rows e = first_without [] n rows e

pub first_on : (n : ℕ) {b : Bool} (rows : List Row) → b ≡ true → first ((n, b) ∷ rows) ≡ n
unfolding first
first_on n rows e = rw e

-- a status that isn't the first row's is that of the others
pub first_later : (n k : ℕ) (b : Bool) (rows : List Row) → n ≢ k → first ((n, b) ∷ rows) ≡ k → (b ≡ false) × (first rows ≡ k)
unfolding first
first_later n k true rows d e = absurd (d e)
first_later n k false rows d e = (refl, e)

-- a call that is accepted is turned back by no row
pub first_none : (n : ℕ) (b : Bool) (rows : List Row) → 0 < n → first ((n, b) ∷ rows) ≡ 0 → (b ≡ false) × (first rows ≡ 0)
first_none n b rows l e = first_later n 0 b rows (λ z. omega arith) e

-- and one that is refused by the last row's number is turned back by that
pub first_last : (n : ℕ) (b : Bool) → 0 < n → first ((n, b) ∷ []) ≡ n → b ≡ true
unfolding first
first_last n true l e = refl
first_last n false l e = absurd (omega arith)

-- a status that no row has
pub first_not : (k : ℕ) (rows : List Row) → 0 ≢ k → All (λ r. r.0 ≢ k) rows → first rows ≢ k
unfolding first
first_not k [] z all_none e = z e
first_not k ((n, true) ∷ rows) z (all_more d ds) e = d e
first_not k ((n, false) ∷ rows) z (all_more d ds) e = first_not k rows z ds e

-- rows behind others count where none of these turns the call back
pub first_behind : (xs ys : List Row) → All (λ r. r.0 ≢ 0) xs → first (xs ++ ys) ≡ cond (eqb (first xs) 0) (first ys) (first xs)
unfolding first
first_behind [] ys all_none = refl
first_behind ((n, true) ∷ xs) ys (all_more d ds) = ap (λ t. cond t (first ys) n) (sym (ne_eqb n 0 d))
first_behind ((n, false) ∷ xs) ys (all_more d ds) = first_behind xs ys ds
