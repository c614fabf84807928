-- Pages taken one after the other: which they are, how many, and what is left. Assumes nothing.
use Prim.Native.Nat.{ℕ, zero, suc, ◌+◌}
use mathlib.Core.Path.{◌≡◌, refl, ap, ◌∙◌}
use mathlib.Core.List.{List, [], ◌∷◌}
use native.Mathlib.Omega.{arith}
use native.Mathlib.Nat.{zero-add, suc-add}
use Rattle.lists.specs.Lists.{hit}
use Rattle.lists.proofs.Times.{times_cons, times_none}
use Rattle.image.specs.Images.{Image}
use Rattle.lists.specs.Lists.{times}
use Rattle.steps.specs.Supply.{taken, spares, pages_taken}
use Rattle.tree.specs.Supply.{Supply, next_page, without_next}
use Rattle.tree.specs.Conserved.{times_spare}
use Rattle.tree.specs.Counts.{later}
use Rattle.tree.proofs.Conservation.Supply.{later_add, later_mark, later_length}
use Rattle.refinement.specs.Represents.{Supplied}
use Rattle.refinement.proofs.Moves.{spare_next, spare_is, taken_supplied}

-- the first k pages that would be taken
unfoldable pub firsts : ℕ → Supply → List ℕ
firsts zero S = []
firsts (suc k) S = next_page S ∷ firsts k (without_next S)

pub firsts_none : (q : ℕ) (S : Supply) → times q (firsts zero S) ≡ 0
unfolding firsts
firsts_none q S = times_none q

pub firsts_more : (q k : ℕ) (S : Supply) → times q (firsts (suc k) S) ≡ times q (firsts k S) + hit q (next_page (later k S))
unfolding firsts later
firsts_more q zero S = omega (arith, times_cons q (next_page S) [], times_none q)
firsts_more q (suc k) S =
    let r : times q (firsts (suc k) (without_next S)) ≡ times q (firsts k (without_next S))
    + hit q (next_page (later k (without_next S))) = firsts_more q k (without_next S) in
    omega (arith, times_cons q (next_page S) (firsts (suc k) (without_next S)), times_cons q (next_page S) (firsts k (without_next S)))

pub firsts_add : (q j k : ℕ) (S : Supply) → times q (firsts (j + k) S) ≡ times q (firsts k S) + times q (firsts j (later k S))
firsts_add q zero k S = rw (zero-add k) (omega (arith, firsts_none q (later k S)))
firsts_add q (suc j) k S =
    rw (suc-add j k, firsts_more q (j + k) S, firsts_more q j (later k S), later_add j k S)
    (let r : times q (firsts (j + k) S) ≡ times q (firsts k S) + times q (firsts j (later k S)) = firsts_add q j k S in omega arith)

-- a page of the supply is one of those taken, or still there
pub later_held : (q k : ℕ) (S : Supply) → times q (firsts k S) + times_spare q (later k S) ≡ times_spare q S
unfolding firsts later
later_held q zero S = omega (arith, times_none q)
later_held q (suc k) S =
    let r : times q (firsts k (without_next S)) + times_spare q (later k (without_next S)) ≡ times_spare q (without_next S) =
    later_held q k (without_next S) in
    omega (arith, times_cons q (next_page S) (firsts k (without_next S)), spare_next q S)

pub spares_are : (k : ℕ) {X : Image} {S : Supply} → Supplied X S → spares k X ≡ firsts k S
unfolding spares firsts
spares_are zero s = refl
spares_are (suc k) {X} {S} s =
    ap (λ (p : ℕ). p ∷ spares k (taken X)) (spare_is s) ∙ ap (λ (r : List ℕ). next_page S ∷ r) (spares_are k (taken_supplied s))

pub taken_is : (k : ℕ) {X Y : Image} {S : Supply} → Supplied X S → Supplied Y (later k S) → pages_taken X Y ≡ k
unfolding pages_taken
taken_is k {X} {Y} {S} s r = omega (arith, s.length_true, r.length_true, s.mark, r.mark, later_length k S, later_mark k S)
