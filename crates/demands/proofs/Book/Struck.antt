-- Entries struck out with their matching withdrawals: the total is that of what is left, wherever a withdrawal undoes its entry.
-- Assumes nothing.
use mathlib.Core.Path.{◌≡◌, refl, sym, ap, ◌∙◌}
use mathlib.Core.Bool.{true}
use mathlib.Core.List.{List, [], ◌∷◌, ◌++◌}
use Rattle.lists.specs.Lists.{All, all_more}
use Rattle.rule.specs.declared.Pair.{Pair}
use Rattle.rule.specs.Pairs.{none, Lawful}
use Rattle.calls.specs.Changes.{Side, entering, withdrawing, withdraws, Change}
use Rattle.claims.specs.Demands.{Booking, couples, Reordered, SameChanges}
use Rattle.demands.proofs.Book.Totals.{total, total_reordered, all_reordered}

abbrev pub entry : Booking → Change
entry b = record { side = entering; v = b.v; s = b.s; e = b.e }

abbrev pub withdrawal : Booking → Change
withdrawal b = record { side = withdrawing; v = b.v; s = b.s; e = b.e }

-- what holds of entries and of withdrawals holds of every change
pub by_side {ℓ} : (P : Change → Type ℓ) → ((b : Booking) → P (entry b)) → ((b : Booking) → P (withdrawal b)) → (c : Change) → P c
by_side P p q c = go c.side
  where
    go : (x : Side) → P (record { side = x; v = c.v; s = c.s; e = c.e })
    go entering = p (record { v = c.v; s = c.s; e = c.e })
    go withdrawing = q (record { v = c.v; s = c.s; e = c.e })

-- if the change is a withdrawal, then withdrawals undo their entries
abbrev pub Undone : (Pair → Pair → Pair) → (Change → Pair) → Change → Type 0
Undone rule share c = withdraws c.side ≡ true → (b : Booking) → rule (share (entry b)) (share (withdrawal b)) ≡ none

module _ {◌⊕◌ : Pair → Pair → Pair} (L : Lawful ◌⊕◌) (share : Change → Pair) where
  infixl 60 ◌⊕◌
  pub couples_total : (bs : List Booking) (left : List Change) → All (Undone ◌⊕◌ share) (couples bs ++ left)
      → total ◌⊕◌ share (couples bs ++ left) ≡ total ◌⊕◌ share left
  unfolding total couples withdraws
  couples_total [] left h = refl
  couples_total (b ∷ bs) left (all_more p (all_more q h)) =
      sym (L.assoc (share (entry b)) (share (withdrawal b)) (total ◌⊕◌ share (couples bs ++ left)))
      ∙ ap (λ z. z ⊕ total ◌⊕◌ share (couples bs ++ left)) (q refl b)
      ∙ L.unit (total ◌⊕◌ share (couples bs ++ left))
      ∙ couples_total bs left h

  left_total : {xs : List Change} (bs : List Booking) (left : List Change) → Reordered xs (couples bs ++ left)
      → All (Undone ◌⊕◌ share) xs → total ◌⊕◌ share xs ≡ total ◌⊕◌ share left
  left_total bs left r h = total_reordered L share r ∙ couples_total bs left (all_reordered r h)

  pub same_changes_total : {xs ys : List Change} → SameChanges xs ys → All (Undone ◌⊕◌ share) xs → All (Undone ◌⊕◌ share) ys
      → total ◌⊕◌ share xs ≡ total ◌⊕◌ share ys
  same_changes_total S h k = left_total S.struck_x S.left S.of_x h ∙ sym (left_total S.struck_y S.left S.of_y k)
