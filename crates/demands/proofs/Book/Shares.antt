-- The share of a change in an instant's pair: its effect where a test of its span passes, else nothing. Assumes nothing.
use Prim.Native.Nat.{ℕ}
use mathlib.Core.Path.{◌≡◌, refl, sym, ap, subst⁻¹}
use mathlib.Core.Bool.{Bool, true, false, cond, not, ◌&&◌, and-false, true≢false}
use mathlib.Core.List.{List, [], ◌∷◌}
use lib.Dec.{eqb}
use borrow.Author.Tests.{eqb-true}
use Rattle.lists.specs.Lists.{All, all_none, all_more}
use Rattle.lists.proofs.All.{all_weaken}
use Rattle.rule.specs.declared.Pair.{Pair}
use Rattle.rule.specs.Pairs.{none, combine, opposite, entry_effect}
use Rattle.rule.proofs.Laws.{lawful, invertible}
use Rattle.calls.specs.Changes.{withdraws, effect, Change}
use Rattle.claims.specs.Demands.{Booking}
use Rattle.demands.specs.Items.{effect_of, Enters, Sided}
use Rattle.demands.proofs.Book.Struck.{entry, withdrawal, Undone}

unfoldable pub share : (ℕ → ℕ → Bool) → Change → Pair
share test c = cond (test c.s c.e) (effect_of c) none

-- kind 1: a withdrawal undoes its entry
undone : (kind : ℕ) (test : ℕ → ℕ → Bool) (b : Booking) → eqb kind 1 ≡ true
    → combine kind (share test (entry b)) (share test (withdrawal b)) ≡ none
unfolding share effect_of effect
undone kind test b k = go (test b.s b.e)
  where
    go : (x : Bool) → combine kind (cond x (entry_effect b.v) none) (cond x (opposite (entry_effect b.v)) none) ≡ none
    go true =
        subst⁻¹ (λ (n : ℕ). combine n (entry_effect b.v) (opposite (entry_effect b.v)) ≡ none) (eqb-true kind 1 k)
        (invertible.undone (entry_effect b.v))
    go false = (lawful kind).unit none

-- where 22 turns back the withdrawals of the other kinds, there are none that would have to undo
pub sided_undone : (kind : ℕ) (test : ℕ → ℕ → Bool) {cs : List Change} → All (Sided kind) cs → All (Undone (combine kind) (share test)) cs
sided_undone kind test = all_weaken (λ c h w b. undone kind test b (go (withdraws c.side) (eqb kind 1) h w))
  where
    go : (x y : Bool) → x && not y ≡ false → x ≡ true → y ≡ true
    go true true h w = refl
    go true false h w = absurd (true≢false h)
    go false y h w = absurd (true≢false (sym w))

-- so every list will do for kind 1, and entries for every kind
pub sided_totals : (cs : List Change) → All (Sided 1) cs
sided_totals [] = all_none
sided_totals (c ∷ cs) = all_more (and-false (withdraws c.side)) (sided_totals cs)

pub sided_entries : (kind : ℕ) {cs : List Change} → All Enters cs → All (Sided kind) cs
sided_entries kind = all_weaken (λ c n. ap (λ x. x && not (eqb kind 1)) n)
