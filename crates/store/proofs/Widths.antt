-- An entry's numbers and those of a decoded page have their widths: that is what a struct's type says of its fields. Assumes nothing.
use Prim.Native.Nat.{ℕ, zero, suc, ◌<◌, ◌^◌}
use mathlib.Core.List.{List, [], ◌∷◌}
use lib.IntN.{pos}
use lib.ListN.{get_or}
use lib.Dec.{lit<}
use borrow.Author.Rules.{rules}
use mir.Syntax.{w32, w64}
use mir.Val.{Val, SFits}
use base.Fml.{Fml}
use denote.Shadow.{shadow}
use denote.Laws.{Is}
use denote.Array.{each}
use denote.Builtin.{u32, i32, i64}
use denote.Struct.Declared.{row}
use Rattle.page.specs.declared.Entry.{Entry}
use Rattle.page.specs.declared.Page.{Page}
use Rattle.page.specs.Entries.{no_entry}
use Rattle.page.specs.Decoded.{slot_at, entry_list}
use Rattle.page.specs.Widths.{EntryFits, EntriesFit}
use Rattle.page.specs.contracts.Entry as EntryType
use Rattle.page.specs.contracts.Page.{the_type}
use Rattle.page.proofs.Laws.Entries.{no_entry_fits}
use Rattle.lists.proofs.Listed.{listed_each}

-- what an array's type says of each element, and what holds of what stands past the end, holds in every slot
module _ {A : Type 0} (own : A → List Val → Fml) (P : A → Type 0) (tells : (x : A) (vs : List Val) → shadow (own x vs) → P x)
    (d : A) (none : P d) where
  each_at : (xs : List A) (us : List Val) → shadow (each A own xs us) → (i : ℕ) → P (get_or xs i d)
  each_at [] [] s i = none
  each_at [] (u ∷ us) s i = absurd s
  each_at (x ∷ xs) [] s i = absurd s
  each_at (x ∷ xs) (u ∷ us) s zero = tells x (u ∷ []) s.0
  each_at (x ∷ xs) (u ∷ us) s (suc i) = each_at xs us s.1 i

module _ (p : Page) (vs : List Val) (g : Is (row the_type) p vs) where
  slot_fits : (i : ℕ) → EntryFits (slot_at p i)
  unfolding slot_at
  slot_fits i =
      let arrays = g.1.1.1.1 in
      record {
        start = each_at u32.own_val (λ x. x < 2 ^ 32) (λ x us s. s.1) 0 (lit< tt) p.starts arrays.0.0 arrays.0.1.1 i;
        sum = each_at i64.own_val (SFits w64) (λ x us s. record { sfits = s.1 }) (pos 0) (record { sfits = lit< tt }) p.sums
            arrays.1.0.0 arrays.1.0.1.1 i;
        count = each_at i32.own_val (SFits w32) (λ x us s. record { sfits = s.1 }) (pos 0) (record { sfits = lit< tt }) p.counts
            arrays.1.1.0.0 arrays.1.1.0.1.1 i;
        child = each_at u32.own_val (λ x. x < 2 ^ 32) (λ x us s. s.1) 0 (lit< tt) p.children arrays.1.1.1.0.0
            arrays.1.1.1.0.1.1 i;
      }

  pub shown_fits : EntriesFit (entry_list p)
  unfolding entry_list
  shown_fits = listed_each EntryFits p.len (λ i. slot_at p i) no_entry no_entry_fits slot_fits

pub entry_fits : (e : Entry) (vs : List Val) → Is (row EntryType.the_type) e vs → EntryFits e
entry_fits e vs g = record { start = search rules; sum = search rules; count = search rules; child = search rules }
