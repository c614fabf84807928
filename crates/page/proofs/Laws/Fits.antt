-- Entries whose numbers have their widths still have them in a list that was edited. Assumes nothing.
use mathlib.Core.List.{List, [], ◌∷◌, ◌++◌}
use Prim.Native.Nat.{ℕ, zero, suc}
use lib.ListN.{take, drop}
use Rattle.lists.specs.Lists.{splice}
use Rattle.page.specs.declared.Entry.{Entry}
use Rattle.page.specs.Entries.{inserted}
use Rattle.page.specs.Widths.{EntryFits, EntriesFit}
use Rattle.page.proofs.Laws.Entries.{no_entry_fits}

none_fit : EntriesFit []
none_fit i = no_entry_fits

append_fit : (xs ys : List Entry) → EntriesFit xs → EntriesFit ys → EntriesFit (xs ++ ys)
append_fit [] ys f g i = g i
append_fit (x ∷ xs) ys f g zero = f zero
append_fit (x ∷ xs) ys f g (suc i) = append_fit xs ys (λ j. f (suc j)) g i

take_fit : (n : ℕ) (xs : List Entry) → EntriesFit xs → EntriesFit (take n xs)
take_fit zero xs f i = no_entry_fits
take_fit (suc n) [] f i = no_entry_fits
take_fit (suc n) (x ∷ xs) f zero = f zero
take_fit (suc n) (x ∷ xs) f (suc i) = take_fit n xs (λ j. f (suc j)) i

drop_fit : (n : ℕ) (xs : List Entry) → EntriesFit xs → EntriesFit (drop n xs)
drop_fit zero xs f i = f i
drop_fit (suc n) [] f i = no_entry_fits
drop_fit (suc n) (x ∷ xs) f i = drop_fit n xs (λ j. f (suc j)) i

one_fits : {e : Entry} → EntryFits e → EntriesFit (e ∷ [])
one_fits w zero = w
one_fits w (suc i) = no_entry_fits

module _ (i : ℕ) (es : List Entry) (fit : EntriesFit es) where
  pub removed_fit : EntriesFit (splice i [] es)
  unfolding splice
  removed_fit = append_fit (take i es) (drop (suc i) es) (take_fit i es fit) (drop_fit (suc i) es fit)

  module _ {e : Entry} (w : EntryFits e) where
    pub set_fit : EntriesFit (splice i (e ∷ []) es)
    unfolding splice
    set_fit =
        append_fit (take i es) (e ∷ drop (suc i) es) (take_fit i es fit)
        (append_fit (e ∷ []) (drop (suc i) es) (one_fits w) (drop_fit (suc i) es fit))

    pub inserted_fit : EntriesFit (inserted i e es)
    unfolding inserted
    inserted_fit =
        append_fit (take i es) (e ∷ drop i es) (take_fit i es fit)
        (append_fit (e ∷ []) (drop i es) (one_fits w) (drop_fit i es fit))
