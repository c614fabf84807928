-- What the rows of refusals decide: the first that turns a call back is its status. Assumes nothing.
use Prim.Native.Nat.{ℕ}
use mathlib.Core.Path.{◌≡◌, refl, ap}
use mathlib.Core.Logic.{◌≢◌}
use mathlib.Core.Bool.{Bool, true, false, cond, not, ◌||◌}
use mathlib.Core.List.{[], ◌∷◌}
use native.Mathlib.Omega.{arith}
use lib.Dec.{eqb}
use borrow.Author.Tests.{ne_eqb}
use Rattle.calls.specs.Refusals.{first}

-- a refused call keeps what it had
pub kept : {A : Type 0} (number : ℕ) (done had : A) → number ≢ 0 → cond (eqb number 0) done had ≡ had
kept number done had n = ap (λ c. cond c done had) (ne_eqb number 0 n)

-- ---- an instant

pub record Asked (fits past met : Bool) : Type 0 where
  pub length_fits : fits ≡ true
  pub before_end : past ≡ false
  pub pages_fit : met ≡ true

pub asked : (x y z : Bool) → first ((16, not x) ∷ (12, y) ∷ (21, not z) ∷ []) ≡ 0 → Asked x y z
unfolding first
asked false y z e = absurd (omega arith)
asked true true z e = absurd (omega arith)
asked true false false e = absurd (omega arith)
asked true false true e = record { length_fits = refl; before_end = refl; pages_fit = refl }

-- ---- scratch: the rows before a call works on its image have the numbers 16, 17, 11 and 13, the others have none of them

unfoldable pub untouched_at : ℕ → Bool
untouched_at number = eqb number 16 || (eqb number 17 || (eqb number 11 || eqb number 13))

pub book_scratch : {A : Type 0} (b16 b17 b11 b13 b21 b22 b23 b24 : Bool) (had done : A)
    → cond (eqb (first ((16, b16) ∷ (17, b17) ∷ (11, b11) ∷ (13, b13) ∷ [])) 0) done had
    ≡ cond (untouched_at
    (first ((16, b16) ∷ (17, b17) ∷ (11, b11) ∷ (13, b13) ∷ (21, b21) ∷ (22, b22) ∷ (23, b23) ∷ (24, b24) ∷ []))) had done
unfolding first untouched_at
book_scratch true b17 b11 b13 b21 b22 b23 b24 had done = refl
book_scratch false true b11 b13 b21 b22 b23 b24 had done = refl
book_scratch false false true b13 b21 b22 b23 b24 had done = refl
book_scratch false false false true b21 b22 b23 b24 had done = refl
book_scratch false false false false true b22 b23 b24 had done = refl
book_scratch false false false false false true b23 b24 had done = refl
book_scratch false false false false false false true b24 had done = refl
book_scratch false false false false false false false true had done = refl
book_scratch false false false false false false false false had done = refl

pub audit_scratch : {A : Type 0} (b16 b17 b21 : Bool) (had done : A)
    → cond (eqb (first ((16, b16) ∷ (17, b17) ∷ [])) 0) done had
    ≡ cond (untouched_at (first ((16, b16) ∷ (17, b17) ∷ (21, b21) ∷ []))) had done
unfolding first untouched_at
audit_scratch true b17 b21 had done = refl
audit_scratch false true b21 had done = refl
audit_scratch false false true had done = refl
audit_scratch false false false had done = refl
