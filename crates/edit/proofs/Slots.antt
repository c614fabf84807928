-- The slots of a decoded page, and a store of an entry at one of them. Assumes nothing.
use mathlib.Core.Path.{◌≡◌, refl, sym, ap, ◌∙◌}
use mathlib.Core.List.{[], ◌∷◌, ◌++◌}
use Prim.Native.Nat.{ℕ, suc, ◌≤◌, ◌<◌}
use native.Mathlib.Decide.{ℕ_discrete}
use lib.ListN.{length, get_or, take, set, length-set}
use lib.Seq.{get_or-set_same, get_or-set_other, set_at, ext_get_or}
use Rattle.lists.specs.Lists.{listed}
use Rattle.lists.proofs.Listed.{length_listed, get_or_listed, listed_take}
use Rattle.page.specs.declared.Entry.{Entry}
use Rattle.page.specs.declared.Page.{Page}
use Rattle.page.specs.Entries.{no_entry}
use Rattle.page.specs.Decoded.{slot_at, with_slot, entry_list}
use Rattle.page.proofs.Laws.Decoded.{Wide, with_slot_same, with_slot_other}
use Rattle.edit.specs.Contents.{first_slots}

module _ (p : Page) where
  pub first_slots_more : (n : ℕ) → first_slots (suc n) p ≡ first_slots n p ++ (slot_at p n ∷ [])
  unfolding first_slots listed
  first_slots_more n = refl

  pub first_slots_length : (n : ℕ) → length (first_slots n p) ≡ n
  unfolding first_slots
  first_slots_length n = length_listed n (λ i. slot_at p i)

  pub first_slots_at : (n : ℕ) (d : Entry) (i : ℕ) → i < n → get_or (first_slots n p) i d ≡ slot_at p i
  unfolding first_slots
  first_slots_at n d i h = get_or_listed n (λ i. slot_at p i) d i h

  pub first_slots_take : (n k : ℕ) → k ≤ n → take k (first_slots n p) ≡ first_slots k p
  unfolding first_slots
  first_slots_take n k h = listed_take n k (λ i. slot_at p i) no_entry h

  pub entry_list_first_slots : {n : ℕ} → p.len ≡ n → entry_list p ≡ first_slots n p
  unfolding entry_list first_slots
  entry_list_first_slots h = ap (λ n. first_slots n p) h

-- the page said to have n entries
abbrev pub cut : ℕ → Page → Page
cut n p =
    record {
      level = p.level;
      len = n;
      starts = p.starts;
      sums = p.sums;
      counts = p.counts;
      children = p.children;
    }

pub cut_first_slots : (n : ℕ) (p : Page) → entry_list (cut n p) ≡ first_slots n p
unfolding entry_list first_slots slot_at
cut_first_slots n p = refl

module _ (i : ℕ) (e : Entry) (p : Page) where
  -- The one law of a store: of the slots as a list it is a store too.
  pub first_slots_with : Wide p → i < 25 → (n : ℕ) → first_slots n (with_slot i e p) ≡ set (first_slots n p) i e
  first_slots_with w h n =
      ext_get_or no_entry _ _ (first_slots_length (with_slot i e p) n ∙ sym (length-set (first_slots n p) i e ∙ first_slots_length p n))
      (λ k below.
      let inside : k < n = rw (first_slots_length (with_slot i e p) n) at below in
      first_slots_at (with_slot i e p) n no_entry k inside ∙ go k inside (ℕ_discrete k i))
    where
      go : (k : ℕ) → k < n → Dec (k ≡ i) → slot_at (with_slot i e p) k ≡ get_or (set (first_slots n p) i e) k no_entry
      go k inside (yes same) =
          rw same (with_slot_same i e p w h ∙ sym (get_or-set_same (first_slots n p) i e no_entry (rw (first_slots_length p n, ← same) inside)))
      go k inside (no other) =
          with_slot_other i e p k other
          ∙ sym (get_or-set_other (first_slots n p) i k e no_entry other ∙ first_slots_at p n no_entry k inside)

  pub first_slots_put : Wide p → i < 25 → first_slots (suc i) (with_slot i e p) ≡ first_slots i p ++ (e ∷ [])
  first_slots_put w h =
      first_slots_with w h (suc i)
      ∙ rw (first_slots_more p i) (set_at (first_slots i p) (slot_at p i) [] e i (first_slots_length p i))
