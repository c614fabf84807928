-- The laws of a decoded page as the list of its entries. Assumes nothing.
use mathlib.Core.Path.{◌≡◌, sym, ap, ◌∙◌}
use mathlib.Core.List.{List}
use Prim.Native.Nat.{ℕ, ◌+◌, ◌≤◌, ◌<◌}
use native.Mathlib.Nat.{min-eq_left}
use native.Mathlib.Omega.{arith}
use lib.ListN.{length, get_or, set, length-set}
use lib.IntN.{pos}
use lib.Seq.{get_or-set_same, get_or-set_other}
use borrow.Author.Count.{below_none, below_more}
use Rattle.page.specs.declared.Entry.{Entry}
use Rattle.page.specs.declared.Page.{Page}
use Rattle.page.specs.Entries.{entry, at, no_entry}
use Rattle.page.specs.Layout.{capacity, entry_count, entry_at, entries_of}
use Rattle.lists.specs.Lists.{listed}
use Rattle.page.specs.Decoded.{slot_at, with_slot, entry_list}
use Rattle.lists.proofs.Listed.{length_listed, get_or_listed, listed_same}

module _ (p : Page) where
  pub length_shown : length (entry_list p) ≡ p.len
  unfolding entry_list
  length_shown = length_listed p.len (λ i. slot_at p i)

  pub at_shown : (i : ℕ) → i < p.len → at (entry_list p) i ≡ slot_at p i
  unfolding entry_list
  at_shown i h = get_or_listed p.len (λ j. slot_at p j) no_entry i h

  -- a page whose arrays have what stands in s shows the entries of s
  pub shown_entries : (half : ℕ) (s : List ℕ) → p.len ≡ entry_count s → ((i : ℕ) → i < capacity half → slot_at p i ≡ entry_at half s i)
      → entry_count s ≤ capacity half → entry_list p ≡ entries_of half s
  unfolding entry_list entries_of
  shown_entries half s e f h =
      let n : ℕ = entry_count s in
      ap (λ k. listed k (λ i. slot_at p i)) e
      ∙ listed_same n (λ i. slot_at p i) (λ i. entry_at half s i) (λ i l. f i (omega arith))
      ∙ ap (λ k. listed k (λ i. entry_at half s i)) (sym (min-eq_left h))

-- ---- a store of an entry

-- each array has its 25 slots
pub record Wide (p : Page) : Type 0 where
  pub starts : length p.starts ≡ 25
  pub sums : length p.sums ≡ 25
  pub counts : length p.counts ≡ 25
  pub children : length p.children ≡ 25

module _ (i : ℕ) (e : Entry) (p : Page) where
  pub with_slot_wide : Wide p → Wide (with_slot i e p)
  with_slot_wide w =
      record {
        starts = simp length-set w.starts;
        sums = simp length-set w.sums;
        counts = simp length-set w.counts;
        children = simp length-set w.children;
      }

  pub with_slot_same : Wide p → i < 25 → slot_at (with_slot i e p) i ≡ e
  unfolding slot_at
  with_slot_same w h =
      λ k.
      entry (there p.starts e.start 0 w.starts k)
      (record {
        sum = there p.sums e.pair.sum (pos 0) w.sums k;
        count = there p.counts e.pair.count (pos 0) w.counts k;
      })
      (there p.children e.child 0 w.children k)
    where
      there : {A : Type 0} (l : List A) (a d : A) → length l ≡ 25 → get_or (set l i a) i d ≡ a
      there l a d long = get_or-set_same l i a d (omega arith)

  pub with_slot_other : (k : ℕ) → (k ≡ i → ⊥) → slot_at (with_slot i e p) k ≡ slot_at p k
  unfolding slot_at
  with_slot_other k h = simp get_or-set_other

-- p's first i slots hold what f gives
abbrev pub Slots : Page → (ℕ → Entry) → ℕ → Type 0
Slots p f i = (j : ℕ) → j < i → slot_at p j ≡ f j

pub slots_none : (p : Page) (f : ℕ → Entry) → Slots p f 0
slots_none p f = below_none (λ j. slot_at p j ≡ f j)

pub slots_more : (p : Page) (f : ℕ → Entry) (i : ℕ) (e : Entry) → Wide p → i < 25 → e ≡ f i → Slots p f i → Slots (with_slot i e p) f (i + 1)
slots_more p f i e w h same got =
    below_more (λ j. slot_at (with_slot i e p) j ≡ f j) i (λ j l. with_slot_other i e p j (λ q. omega arith) ∙ got j l)
    (with_slot_same i e p w h ∙ same)

-- a page that is read, i slots of it: the level and the count of entries stand from the start
abbrev pub Got : ℕ → List ℕ → ℕ → ℕ → ℕ → Page → Type 0
Got half s level len i p = Wide p × (p.level ≡ level) × (p.len ≡ len) × Slots p (entry_at half s) i

pub got_more : (half : ℕ) (s : List ℕ) {level len : ℕ} {p q : Page} (i : ℕ) (e : Entry) → i < 25 → q ≡ with_slot i e p
    → e ≡ entry_at half s i → Got half s level len i p → Got half s level len (i + 1) q
got_more half s {p = p} i e h same read g =
    rw same (with_slot_wide i e p g.0, g.1, g.2, slots_more p (entry_at half s) i e g.0 h read g.3)
