-- Live bookings: if every withdrawal matches an earlier entry not yet withdrawn, their total is that of all changes. Assumes nothing.
use mathlib.Core.Path.{◌≡◌, refl, sym, ap, ◌∙◌}
use mathlib.Core.Bool.{Bool, true, false, cond, ◌&&◌, false≢true}
use mathlib.Core.List.{List, [], ◌∷◌}
use lib.Dec.{eqb}
use borrow.Author.Tests.{eqb-true, eq-eqb}
use Rattle.lists.specs.Lists.{All, all_none, all_more}
use Rattle.rule.specs.declared.Pair.{Pair}
use Rattle.rule.specs.Pairs.{none, same_number, Lawful}
use Rattle.rule.proofs.Tests.{both}
use Rattle.rule.proofs.Signed.{same_number_is}
use Rattle.calls.specs.Changes.{entering, withdraws, Change}
use Rattle.book.specs.Aggregate.{same_booking, without, live_has, live_after, live_from, Matched}
use Rattle.claims.specs.Demands.{Booking}
use Rattle.demands.specs.Items.{Enters}
use Rattle.demands.proofs.Book.Totals.{total, left_comm, between}
use Rattle.demands.proofs.Book.Struck.{entry, withdrawal, by_side, Undone}

-- an entry of the same v, s and e is the booking's
matching : (b : Booking) (d : Change) → same_booking (withdrawal b) d ≡ true → Enters d → entry b ≡ d
unfolding same_booking withdraws
matching b = by_side (λ d. same_booking (withdrawal b) d ≡ true → Enters d → entry b ≡ d) found (λ d e n. absurd (false≢true (sym n)))
  where
    found : (d : Booking) → same_booking (withdrawal b) (entry d) ≡ true → Enters (entry d) → entry b ≡ entry d
    found d e n =
        let h =
        (both (same_number b.v d.v) (eqb b.s d.s && eqb b.e d.e) (same_number_is b.v d.v)
        (both (eqb b.s d.s) (eqb b.e d.e) (eqb-true b.s d.s, eq-eqb b.s d.s)
        (eqb-true b.e d.e, eq-eqb b.e d.e))
        ).0 e in
        λ i. record { side = entering; v = h.0 i; s = h.1.0 i; e = h.1.1 i }

without_enters : (c : Change) {live : List Change} → All Enters live → All Enters (without c live)
unfolding without
without_enters c all_none = all_none
without_enters c (all_more {x = d} {xs = ds} p h) = go (same_booking c d) (without_enters c h)
  where
    go : (x : Bool) → All Enters (without c ds) → All Enters (cond x ds (d ∷ without c ds))
    go true k = h
    go false k = all_more p k

after_enters : (c : Change) (live : List Change) → All Enters live → All Enters (live_after c live)
unfolding live_after withdraws
after_enters c live h = by_side (λ c. All Enters (live_after c live)) (λ b. all_more refl h) (λ b. without_enters (withdrawal b) h) c

-- the live bookings are entries
pub live_enters : (live cs : List Change) → All Enters live → All Enters (live_from live cs)
unfolding live_from
live_enters live [] h = h
live_enters live (c ∷ cs) h = live_enters (live_after c live) cs (after_enters c live h)

module _ {◌⊕◌ : Pair → Pair → Pair} (L : Lawful ◌⊕◌) (share : Change → Pair) where
  infixl 60 ◌⊕◌
  without_total : (b : Booking) {live : List Change} → share (entry b) ⊕ share (withdrawal b) ≡ none → All Enters live
      → live_has (withdrawal b) live ≡ true
      → total ◌⊕◌ share (without (withdrawal b) live) ≡ share (withdrawal b) ⊕ total ◌⊕◌ share live
  unfolding total without live_has
  without_total b u all_none e = absurd (false≢true e)
  without_total b u (all_more {x = d} {xs = ds} p h) e = go (same_booking (withdrawal b) d) refl e (without_total b u h)
    where
      W : Pair
      W = share (withdrawal b)

      go : (x : Bool) → same_booking (withdrawal b) d ≡ x → cond x true (live_has (withdrawal b) ds) ≡ true
          → (live_has (withdrawal b) ds ≡ true → total ◌⊕◌ share (without (withdrawal b) ds) ≡ W ⊕ total ◌⊕◌ share ds)
          → total ◌⊕◌ share (cond x ds (d ∷ without (withdrawal b) ds)) ≡ W ⊕ (share d ⊕ total ◌⊕◌ share ds)
      go true m k ih =
          sym (L.unit (total ◌⊕◌ share ds))
          ∙ ap (λ z. z ⊕ total ◌⊕◌ share ds) (sym u ∙ L.comm (share (entry b)) W ∙ ap (λ z. W ⊕ share z) (matching b d m p))
          ∙ L.assoc W (share d) (total ◌⊕◌ share ds)
      go false m k ih = ap (λ z. share d ⊕ z) (ih k) ∙ left_comm L (share d) W (total ◌⊕◌ share ds)

  after_total : (live cs : List Change) (c : Change) → All Enters live → Undone ◌⊕◌ share c → Matched live (c ∷ cs)
      → total ◌⊕◌ share (live_after c live) ≡ share c ⊕ total ◌⊕◌ share live
  unfolding total live_after Matched withdraws
  after_total live cs c n =
      by_side (λ c. Undone ◌⊕◌ share c → Matched live (c ∷ cs) → total ◌⊕◌ share (live_after c live) ≡ share c ⊕ total ◌⊕◌ share live)
      (λ b p m. refl)
      (λ b p m. without_total b (p refl b) n m.0)
      c

  pub live_total : (live cs : List Change) → All Enters live → All (Undone ◌⊕◌ share) cs → Matched live cs
      → total ◌⊕◌ share (live_from live cs) ≡ total ◌⊕◌ share cs ⊕ total ◌⊕◌ share live
  unfolding total live_from Matched
  live_total live [] n h m = sym (L.unit (total ◌⊕◌ share live))
  live_total live (c ∷ cs) n (all_more p h) m =
      live_total (live_after c live) cs (after_enters c live n) h m.1
      ∙ ap (λ z. total ◌⊕◌ share cs ⊕ z) (after_total live cs c n p m)
      ∙ between L (total ◌⊕◌ share cs) (share c) (total ◌⊕◌ share live)
