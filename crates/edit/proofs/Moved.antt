-- Entries that a loop moves, a slot each turn: none, one more, all. Assumes nothing.
use mathlib.Core.Path.{◌≡◌, refl, sym, ap, ◌∙◌}
use mathlib.Core.List.{[], ◌∷◌, ◌++◌, append_assoc, append-nil}
use Prim.Native.Nat.{ℕ, suc, ◌+◌, ◌-◌, ◌≤◌, ◌<◌}
use native.Mathlib.Omega.{arith}
use native.Mathlib.Numerals.{add-one}
use lib.ListN.{length, drop, drop_of_length-le}
use lib.Seq.{drop-append-le}
use Rattle.page.specs.declared.Entry.{Entry}
use Rattle.page.specs.declared.Page.{Page}
use Rattle.page.specs.Decoded.{slot_at, with_slot, entry_list}
use Rattle.page.proofs.Laws.Decoded.{Wide, with_slot_wide}
use Rattle.edit.specs.Contents.{HasEntries, first_slots}
use Rattle.edit.proofs.Slots.{first_slots_more, first_slots_length, first_slots_put, entry_list_first_slots, cut, cut_first_slots}

-- Behind the first slots of p, `to` of them, stand in r those of p from `from` up to i.
pub record Moved (p : Page) (from to i : ℕ) (r : Page) : Type 0 where
  pub begun : from ≤ i
  pub wide : Wide r
  pub level : r.level ≡ p.level
  pub slots : first_slots (to + (i - from)) r ≡ first_slots to p ++ drop from (first_slots i p)

module _ (p : Page) (from to : ℕ) where
  pub moved_none : Wide p → Moved p from to from p
  moved_none w =
      let nothing : length (first_slots from p) ≤ from = rw (first_slots_length p from) (omega arith) in
      let here : to + (from - from) ≡ to = omega arith in
      record {
        begun = omega arith;
        wide = w;
        level = refl;
        slots = rw (here, drop_of_length-le (first_slots from p) nothing, append-nil) refl;
      }

  pub moved_more : {i : ℕ} {r q : Page} (e : Entry) → q ≡ with_slot (to + (i - from)) e r → e ≡ slot_at p i → to + (i - from) < 25
      → Moved p from to i r → Moved p from to (i + 1) q
  moved_more {i} {r} e put same h m =
      let k : ℕ = to + (i - from) in
      let begun : from ≤ length (first_slots i p) = rw (first_slots_length p i) m.begun in
      let next : to + (i + 1 - from) ≡ suc k = omega (arith, m.begun) in
      record {
        begun = omega (arith, m.begun);
        wide = rw put (with_slot_wide k e r m.wide);
        level = rw put m.level;
        slots =
            rw (put, next, add-one i, first_slots_put k e r m.wide h, m.slots, first_slots_more p i, drop-append-le from, same)
            (append_assoc (first_slots to p) (drop from (first_slots i p)) (slot_at p i ∷ []));
      }

  pub moved_all : {i : ℕ} {r : Page} → i ≡ p.len → Moved p from to i r
      → HasEntries p.level (first_slots to p ++ drop from (entry_list p)) (cut (to + (p.len - from)) r)
  moved_all {i} {r} last m =
      record {
        level = m.level;
        entries =
            cut_first_slots (to + (p.len - from)) r
            ∙ ap (λ k. first_slots (to + (k - from)) r) (sym last)
            ∙ m.slots
            ∙ ap (λ l. first_slots to p ++ drop from l) (sym (entry_list_first_slots p (sym last)));
      }
