-- Lists whose elements go over from one to the other, one at a time, and the entries of a page that are changed in turn. Assumes nothing.
use mathlib.Core.Path.{◌≡◌, refl, ap}
use mathlib.Core.List.{List, [], ◌∷◌, ◌++◌, map}
use Prim.Native.Nat.{ℕ, zero, suc, ◌+◌, ◌<◌, ◌≤◌}
use native.Mathlib.Omega.{arith}
use lib.ListN.{length, take, drop}
use Rattle.page.specs.declared.Entry.{Entry}
use Rattle.page.specs.Entries.{at, inserted}
use Rattle.lists.specs.Lists.{splice}

-- ---- one after another

-- the i-th of ys behind those before it, which stand behind xs
pub appended : (xs ys : List Entry) (i m : ℕ) → i < length ys → m ≡ length xs + i
    → inserted m (at ys i) (xs ++ take i ys) ≡ xs ++ take (suc i) ys
unfolding inserted
appended [] [] i m h e = absurd (omega arith)
appended [] (y ∷ ys) zero zero h e = refl
appended [] (y ∷ ys) zero (suc m) h e = absurd (omega arith)
appended [] (y ∷ ys) (suc i) zero h e = absurd (omega arith)
appended [] (y ∷ ys) (suc i) (suc m) h e = ap (λ zs. y ∷ zs) (appended [] ys i m (omega arith) (omega arith))
appended (x ∷ xs) ys i zero h e = absurd (omega arith)
appended (x ∷ xs) ys i (suc m) h e = ap (λ zs. x ∷ zs) (appended xs ys i m h (omega arith))

-- ---- one over: xs and ys are two parts of one list, and m of it are in the first

-- the first of ys goes to the end of xs
pub over_left : (m : ℕ) (xs ys : List Entry) → m ≡ length xs → 1 ≤ length ys
    → (inserted m (at ys 0) xs ≡ take (suc m) (xs ++ ys)) × (splice 0 [] ys ≡ drop (suc m) (xs ++ ys))
unfolding inserted splice
over_left zero [] [] e h = absurd (omega arith)
over_left zero [] (y ∷ ys) e h = (refl, refl)
over_left zero (x ∷ xs) ys e h = absurd (omega arith)
over_left (suc m) [] ys e h = absurd (omega arith)
over_left (suc m) (x ∷ xs) ys e h =
    let (a, b) = over_left m xs ys (omega arith) h in
    (ap (λ zs. x ∷ zs) a, b)

-- the last of xs goes to the front of ys
pub over_right : (m : ℕ) (xs ys : List Entry) → suc m ≡ length xs
    → (splice m [] xs ≡ take m (xs ++ ys)) × (inserted 0 (at xs m) ys ≡ drop m (xs ++ ys))
unfolding inserted splice
over_right m [] ys e = absurd (omega arith)
over_right zero (x ∷ []) ys e = (refl, refl)
over_right zero (x ∷ (y ∷ xs)) ys e = absurd (omega arith)
over_right (suc m) (x ∷ xs) ys e =
    let (a, b) = over_right m xs ys (omega arith) in
    (ap (λ zs. x ∷ zs) a, b)

-- ---- the first i elements changed

module _ (f : Entry → Entry) where
  unfoldable pub changed : ℕ → List Entry → List Entry
  changed zero es = es
  changed (suc i) [] = []
  changed (suc i) (e ∷ es) = f e ∷ changed i es

  pub length_changed : (i : ℕ) (es : List Entry) → length (changed i es) ≡ length es
  unfolding changed
  length_changed zero es = refl
  length_changed (suc i) [] = refl
  length_changed (suc i) (e ∷ es) = ap suc (length_changed i es)

  -- the next one stands as it was
  pub at_changed : (i : ℕ) (es : List Entry) → at (changed i es) i ≡ at es i
  unfolding changed
  at_changed zero es = refl
  at_changed (suc i) [] = refl
  at_changed (suc i) (e ∷ es) = at_changed i es

  -- and is changed
  pub changed_more : (i : ℕ) (es : List Entry) → i < length es → splice i (f (at es i) ∷ []) (changed i es) ≡ changed (suc i) es
  unfolding changed splice
  changed_more i [] h = absurd (omega arith)
  changed_more zero (e ∷ es) h = refl
  changed_more (suc i) (e ∷ es) h = ap (λ zs. f e ∷ zs) (changed_more i es (omega arith))

  pub changed_all : (i : ℕ) (es : List Entry) → length es ≤ i → changed i es ≡ map f es
  unfolding changed
  changed_all zero [] h = refl
  changed_all zero (e ∷ es) h = absurd (omega arith)
  changed_all (suc i) [] h = refl
  changed_all (suc i) (e ∷ es) h = ap (λ zs. f e ∷ zs) (changed_all i es (omega arith))

-- ---- other elements in the place of one

-- the entry before it stays
at_front : (i : ℕ) (es rest : List Entry) → i < length es → at (take (suc i) es ++ rest) i ≡ at es i
at_front i [] rest h = absurd (omega arith)
at_front zero (e ∷ es) rest h = refl
at_front (suc i) (e ∷ es) rest h = at_front i es rest (omega arith)

pub at_splice : (i : ℕ) (xs es : List Entry) → i < length es → at (splice (suc i) xs es) i ≡ at es i
unfolding splice
at_splice i xs es h = at_front i es (xs ++ drop (suc (suc i)) es) h
