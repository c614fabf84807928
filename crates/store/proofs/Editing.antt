-- A tree page that is lent to be edited in place, as its bytes from a to n: what it shows, and what the image's bytes encode
-- once it came back with other entries. Assumes nothing.
use Prim.Native.Nat.{ℕ, ◌+◌, ◌*◌, ◌-◌, ◌≤◌, ◌<◌}
use mathlib.Core.Path.{◌≡◌, sym, ap, subst, ◌∙◌}
use mathlib.Core.List.{List, [], ◌∷◌}
use native.Mathlib.Omega.{arith}
use lib.ListN.{length}
use borrow.Rule.Slice.PartMut.{mid_of, put_mid}
use Rattle.fields.specs.Bytes.{Bytes}
use Rattle.page.specs.declared.Entry.{Entry}
use Rattle.lists.specs.Lists.{splice}
use Rattle.lists.proofs.Edits.{length_splice_one}
use Rattle.page.specs.Entries.{inserted}
use Rattle.page.specs.Layout.{capacity, page_size, entry_count, with_entry, tree_bytes}
use Rattle.page.specs.Slots.{Edits}
use Rattle.page.specs.Widths.{EntryFits, EntriesFit}
use Rattle.page.proofs.Laws.Fits.{set_fit, inserted_fit, removed_fit}
use Rattle.page.proofs.Laws.Lent.{lent_range, back_range}
use Rattle.page.proofs.Laws.Shifts.{length_inserted, length_removed}
use Rattle.page.proofs.Laws.Trees.{length_tree, tree_count, tree_set, entries_of_fit}
use Rattle.image.specs.Images.{Image, tree, page_at, cell_bytes, Canonical}
use Rattle.image.proofs.Cells.{bytes_cell, canonical_edited}
use Rattle.steps.specs.Supply.{entries, put}
use Rattle.store.specs.Encoding.{Encodes}
use Rattle.store.specs.Preconditions.{TreePage}
use Rattle.store.proofs.Encoding.{tree_written, holds_page, tree_read, holds_put}
use Rattle.store.proofs.Reading.{lent_within}

module _ {half : ℕ} {img : List ℕ} {X : Image} {l p : ℕ} (h : Encodes half img X) (t : TreePage l p X) where
  pub few_entries : length (entries X p) ≤ capacity half
  few_entries = (tree_read h t).few

  pub entries_fit : EntriesFit (entries X p)
  entries_fit =
      let b : Bytes (page_at half img p) = subst Bytes (sym (holds_page h t.within)) (bytes_cell half (X.page p)) in
      subst EntriesFit (tree_read h t).entries (entries_of_fit half (page_at half img p) b)

  module _ {a n : ℕ} (at : (a ≡ page_size half * p) × (n ≡ page_size half * p + page_size half)) where
    abbrev lent : List ℕ
    lent = mid_of a (n - a) img

    lent_tree : lent ≡ tree_bytes half l (entries X p)
    unfolding page_at
    lent_tree = lent_range img (page_size half) p at ∙ holds_page h t.within ∙ tree_written half t.page

    -- how long it is, and how many entries it has
    pub lent_sizes : (length lent ≡ page_size half) × ((entry_count lent ≡ length (entries X p)) × (length (entries X p) ≤ capacity half))
    lent_sizes =
        let few = few_entries in
        let sized = ap length lent_tree ∙ length_tree half l (entries X p) few in
        (sized, (tree_count half l (entries X p) few (omega (arith, h.half_most)) lent_tree, few))

    module _ {ys : List ℕ} (kept : length ys ≡ length lent) where
      -- it came back with the entries fs
      back_edited : (fs : List Entry) → length fs ≤ capacity half → EntriesFit fs → ys ≡ tree_bytes half l fs
          → Encodes half (put_mid a (n - a) img ys) (put p (tree l fs) X)
      unfolding cell_bytes
      back_edited fs few fit e =
          let w = t.within in
          let k : Canonical half (tree l (entries X p)) = subst (Canonical half) t.page (h.sized_kept p w.least w.below) in
          holds_put h (tree l fs) w (canonical_edited half l (entries X p) fs k few (omega (arith, h.half_most)) fit)
          (back_range img (page_size half) p at (lent_within h t) kept e)

      pub back_set : {i : ℕ} {e : Entry} → i < length (entries X p) → EntryFits e → ys ≡ with_entry half i e lent
          → Encodes half (put_mid a (n - a) img ys) (put p (tree l (splice i (e ∷ []) (entries X p))) X)
      back_set {i} {e} inside fit same =
          let es : List Entry = entries X p in
          let few = few_entries in
          back_edited (splice i (e ∷ []) es) (omega (arith, length_splice_one i e es inside)) (set_fit i es entries_fit fit)
          (same ∙ tree_set half l es e i inside few lent_tree)

      pub back_inserted : (i : ℕ) (e : Entry) → length (entries X p) < capacity half → EntryFits e → Edits half lent ys (inserted i e)
          → Encodes half (put_mid a (n - a) img ys) (put p (tree l (inserted i e (entries X p))) X)
      back_inserted i e room fit edits =
          let es : List Entry = entries X p in
          back_edited (inserted i e es) (omega (arith, length_inserted i e es)) (inserted_fit i es entries_fit fit)
          (edits l es few_entries lent_tree)

      pub back_removed : (i : ℕ) → i < length (entries X p) → Edits half lent ys (splice i [])
          → Encodes half (put_mid a (n - a) img ys) (put p (tree l (splice i [] (entries X p))) X)
      back_removed i inside edits =
          let es : List Entry = entries X p in
          let few = few_entries in
          back_edited (splice i [] es) (omega (arith, length_removed i es inside)) (removed_fit i es entries_fit)
          (edits l es few lent_tree)
