-- Where a byte stands next, and a list cut at every such byte. Assumes nothing.
use mathlib.Core.Path.{◌≡◌, refl, ap, ap₂, ◌∙◌}
use mathlib.Core.Bool.{Bool, true, false, cond}
use Prim.Native.Nat.{ℕ, suc, ◌≤◌, ◌<◌}
use native.Mathlib.Omega.{arith}
use mathlib.Core.List.{List, [], ◌∷◌}
use lib.ListN.{length, take, drop}
use lib.Dec.{eqb}
use Rattle.std.specs.List as list
use Rattle.std.specs.List.{slice_split}
use Rattle.calls.specs.Program.{cut_at, onto_first}

-- ---- where a byte stands next

-- how many bytes stand before the first c, or in all if there is none
unfoldable pub ahead : ℕ → List ℕ → ℕ
ahead c [] = 0
ahead c (x ∷ xs) = cond (eqb x c) 0 (suc (ahead c xs))

-- ---- a list cut there

-- at a byte: what stands before it, and what is cut behind it
pub cut_there : (b : ℕ) (s : List ℕ) → ahead b s < length s → cut_at b s ≡ take (ahead b s) s ∷ cut_at b (drop (suc (ahead b s)) s)
unfolding ahead cut_at onto_first
cut_there b [] h = absurd (omega arith)
cut_there b (x ∷ xs) h = step (eqb x b) h (cut_there b xs)
  where
    step : (t : Bool) → cond t 0 (suc (ahead b xs)) < suc (length xs)
        → (ahead b xs < length xs → cut_at b xs ≡ take (ahead b xs) xs ∷ cut_at b (drop (suc (ahead b xs)) xs))
        → cond t ([] ∷ cut_at b xs) (onto_first x (cut_at b xs))
        ≡ take (cond t 0 (suc (ahead b xs))) (x ∷ xs) ∷ cut_at b (drop (suc (cond t 0 (suc (ahead b xs)))) (x ∷ xs))
    step true g f = refl
    step false g f = ap (onto_first x) (f (omega arith))

-- no such byte: the whole list
pub cut_whole : (b : ℕ) (s : List ℕ) → length s ≤ ahead b s → cut_at b s ≡ s ∷ []
unfolding ahead cut_at onto_first
cut_whole b [] h = refl
cut_whole b (x ∷ xs) h = step (eqb x b) h (cut_whole b xs)
  where
    step : (t : Bool) → suc (length xs) ≤ cond t 0 (suc (ahead b xs)) → (length xs ≤ ahead b xs → cut_at b xs ≡ xs ∷ [])
        → cond t ([] ∷ cut_at b xs) (onto_first x (cut_at b xs)) ≡ (x ∷ xs) ∷ []
    step true g f = absurd (omega arith)
    step false g f = ap (onto_first x) (f (omega arith))

-- there is a first piece
pub record Pieces (ls : List (List ℕ)) : Type 0 where
  pub first : List ℕ
  pub others : List (List ℕ)
  pub same : ls ≡ first ∷ others

pub cut_some : (b : ℕ) (s : List ℕ) → Pieces (cut_at b s)
unfolding cut_at onto_first
cut_some b [] = record { first = []; others = []; same = refl }
cut_some b (x ∷ xs) = step (eqb x b) (cut_some b xs)
  where
    step : (t : Bool) → Pieces (cut_at b xs) → Pieces (cond t ([] ∷ cut_at b xs) (onto_first x (cut_at b xs)))
    step true p = record { first = []; others = cut_at b xs; same = refl }
    step false p = record { first = x ∷ p.first; others = p.others; same = ap (onto_first x) p.same }

-- ---- a list cut by the library's `split`

onto_same : (x : ℕ) (ls : List (List ℕ)) → onto_first x ls ≡ list.onto_first x ls
unfolding onto_first
onto_same x [] = refl
onto_same x (l ∷ ls) = refl

pub cut_split : (b : ℕ) (s : List ℕ) → cut_at b s ≡ slice_split (λ x. eqb x b) s
unfolding cut_at
cut_split b [] = refl
cut_split b (x ∷ xs) =
    ap₂ (λ p q. cond (eqb x b) ([] ∷ p) q) (cut_split b xs) (ap (onto_first x) (cut_split b xs) ∙ onto_same x (slice_split (λ y. eqb y b) xs))
