-- What each edit makes of the list of entries. Assumes nothing.
use mathlib.Core.Path.{◌≡◌, refl, sym, ap, ◌∙◌}
use mathlib.Core.List.{List, [], ◌∷◌, ◌++◌, append_assoc}
use Prim.Native.Nat.{ℕ, suc, ◌+◌, ◌≤◌, ◌<◌}
use native.Mathlib.Omega.{arith}
use native.Mathlib.Numerals.{add-one}
use lib.ListN.{length, take, drop}
use lib.Seq.{take-append-le, take-suc, drop_at, set_split}
use Rattle.page.specs.declared.Entry.{Entry}
use Rattle.page.specs.declared.Page.{Page}
use Rattle.page.specs.Entries.{at, no_entry, inserted}
use Rattle.lists.specs.Lists.{splice}
use Rattle.page.specs.Decoded.{with_slot, entry_list}
use Rattle.edit.specs.Contents.{HasEntries, first_slots}
use Rattle.page.proofs.Laws.Decoded.{Wide, length_shown}
use Rattle.edit.proofs.Slots.{first_slots_length, first_slots_take, first_slots_with, entry_list_first_slots}

-- the number follows from the entries
pub has_len : {l : ℕ} {es : List Entry} {r : Page} → HasEntries l es r → r.len ≡ length es
has_len {r = r} s = sym (length_shown r) ∙ ap length s.entries

pub has_as : {l : ℕ} {es es' : List Entry} {r : Page} → HasEntries l es r → es ≡ es' → HasEntries l es' r
has_as s same = record { level = s.level; entries = s.entries ∙ same }

-- an edit of an edited page
pub has_then : {l : ℕ} {es : List Entry} (f : List Entry → List Entry) {q r : Page} → HasEntries l es q
    → HasEntries q.level (f (entry_list q)) r → HasEntries l (f es) r
has_then f s t = record { level = t.level ∙ s.level; entries = t.entries ∙ ap f s.entries }

-- an entry that becomes two is kept, with the second put in behind it
pub splice_inserted : (i : ℕ) (e e' : Entry) (es : List Entry) → i < length es → at es i ≡ e
    → splice i (e ∷ e' ∷ []) es ≡ inserted (suc i) e' es
unfolding splice inserted
splice_inserted i e e' es h same =
    sym (rw (take-suc es i no_entry h, same) (append_assoc (take i es) (e ∷ []) (e' ∷ drop (suc i) es)))

module _ (p : Page) where
  pub slots_first : (k : ℕ) → k ≤ p.len → first_slots k p ≡ take k (entry_list p)
  slots_first k h = rw (entry_list_first_slots p refl) (sym (first_slots_take p p.len k h))

  pub replace_entries : (i : ℕ) (e : Entry) → Wide p → i < p.len → p.len ≤ 25
      → entry_list (with_slot i e p) ≡ splice i (e ∷ []) (entry_list p)
  unfolding splice
  replace_entries i e w h b =
      entry_list_first_slots (with_slot i e p) refl ∙ first_slots_with i e p w (omega arith) p.len
      ∙ rw (entry_list_first_slots p refl) (set_split (first_slots p.len p) i e (rw (first_slots_length p) h))

  -- e at the slot that was made free
  pub insert_entries : (i : ℕ) (e : Entry) → i ≤ p.len
      → splice i (e ∷ []) (first_slots (i + 1) p ++ drop i (entry_list p)) ≡ inserted i e (entry_list p)
  unfolding splice inserted
  insert_entries i e h =
      let behind : List Entry = drop i (entry_list p) in
      rw (
        add-one i,
        take-append-le i (first_slots (suc i) p) behind (rw (first_slots_length p) (omega arith)),
        drop_at (first_slots (suc i) p) behind (suc i) (first_slots_length p (suc i)),
        first_slots_take p (suc i) i (omega arith),
        slots_first i h,
      )
