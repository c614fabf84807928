-- A page of an image that is written slot by slot: none, one more, all. Assumes nothing.
use Prim.Native.Nat.{ℕ, ◌+◌, ◌*◌, ◌-◌, ◌≤◌, ◌<◌}
use mathlib.Core.Path.{◌≡◌, refl, sym, ap, ◌∙◌}
use mathlib.Core.List.{List, ◌++◌}
use native.Mathlib.Omega.{arith}
use lib.ListN.{length}
use Rattle.lists.specs.Lists.{listed}
use Rattle.lists.proofs.Listed.{length_listed}
use Rattle.fields.specs.Bytes.{part, patch, unused}
use Rattle.fields.specs.Numbers.{u32_bytes}
use Rattle.fields.proofs.Laws.Parts.{part_patch_same, patch_again}
use Rattle.page.specs.declared.Entry.{Entry}
use Rattle.page.specs.Layout.{capacity, page_size, with_entry, tree_bytes}
use Rattle.page.proofs.Laws.Trees.{page_bytes, page_none, page_listed_more, page_whole, length_page}

-- b is an image whose page p was made blank; f gives the entries that an image has for that page.
module _ (half p level size : ℕ) (f : List ℕ → ℕ → Entry) (b : List ℕ) where
  abbrev offset : ℕ
  offset = page_size half * p

  -- s is the image before
  pub record Blank (s : List ℕ) : Type 0 where
    pub room : page_size half * p + page_size half ≤ length s
    pub bytes : b ≡ patch s (page_size half * p) (u32_bytes level ++ (u32_bytes size ++ unused (page_size half - 8)))

  -- the page once i of its slots are written
  abbrev filled : List ℕ → ℕ → List ℕ
  filled s i = page_bytes half level size (listed i (f s))

  pub record Slots (i : ℕ) (t : List ℕ) : Type 0 where
    pub within : i ≤ size
    pub long : length t ≡ length b
    pub bytes : (s : List ℕ) → Blank s → t ≡ patch s (page_size half * p) (page_bytes half level size (listed i (f s)))

  pub slots_none : Slots 0 b
  unfolding listed
  slots_none = record {
    within = omega arith;
    long = refl;
    bytes = λ s k. k.bytes ∙ ap (patch s offset) (sym (page_none half level size));
  }

  pub slots_more : {t u : List ℕ} {i : ℕ} {e : Entry} → size ≤ capacity half → i < size → Slots i t → e ≡ f t i
      → ((s bs : List ℕ) → page_size half * p ≤ length s → f (patch s (page_size half * p) bs) i ≡ f s i) → length u ≡ length t
      → u ≡ patch t (page_size half * p) (with_entry half i e (part t (page_size half * p) (page_size half)))
      → Slots (i + 1) u
  slots_more {t} {u} {i} {e} few h g is still same wrote = record {
    within = omega arith;
    long = same ∙ g.long;
    bytes = λ s k.
        let t_is : t ≡ patch s offset (filled s i) = g.bytes s k in
        let r : offset + page_size half ≤ length s = k.room in
        let long : (j : ℕ) → j ≤ size → length (filled s j) ≡ page_size half =
        λ j l. length_page half level size (listed j (f s)) (omega (arith, length_listed j (f s))) in
        wrote
        ∙ (λ j. patch (t_is j) offset (page_listed_more half level size i (f s) (omega arith) refl
        (is ∙ ap (λ l. f l i) t_is ∙ still s (filled s i) (omega arith))
        (ap (λ l. part l offset (page_size half)) t_is
        ∙ part_patch_same s offset (filled s i) (page_size half) (long i (omega arith)) (omega arith)) j))
        ∙ patch_again s offset (filled s i) (filled s (i + 1)) (long (i + 1) (omega arith) ∙ sym (long i (omega arith))) (omega arith);
  }

  pub slots_all : {t : List ℕ} {i : ℕ} (s : List ℕ) → i ≡ size → Slots i t → Blank s
      → t ≡ patch s (page_size half * p) (tree_bytes half level (listed size (f s)))
  slots_all s e g k =
      g.bytes s k
      ∙ ap (λ i. patch s offset (filled s i)) e
      ∙ ap (patch s offset) (page_whole half level size (listed size (f s)) (length_listed size (f s)))
