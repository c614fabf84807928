-- The plain book over lists of changes: entering step by step, and its pair as a total. Assumes nothing.
use Prim.Native.Nat.{ℕ, ◌+◌}
use mathlib.Core.Path.{◌≡◌, refl, sym, ap, ◌∙◌}
use mathlib.Core.Bool.{Bool, true, false, cond}
use mathlib.Core.List.{List, [], ◌∷◌, ◌++◌}
use native.Mathlib.Omega.{arith}
use lib.Dec.{eqb}
use lib.ListN.{length}
use lib.IntN.{ℤ}
use Rattle.lists.specs.Lists.{All}
use Rattle.rule.specs.Time.{effect_end, covers}
use Rattle.rule.specs.Pairs.{combine}
use Rattle.rule.proofs.Laws.{lawful}
use Rattle.calls.specs.Changes.{Side, effect, Change}
use Rattle.book.specs.Book.{Item, Book, empty_book, entered, entered_all, book_of, items_pair, book_pair}
use Rattle.claims.specs.Trace.{change_made}
use Rattle.claims.specs.Demands.{SameChanges}
use Rattle.demands.specs.Items.{effect_of, item_of, items_onto, items_of, Sided}
use Rattle.demands.proofs.Book.Totals.{total, between, unit_right, cond_unit}
use Rattle.demands.proofs.Book.Struck.{same_changes_total}
use Rattle.demands.proofs.Book.Shares.{share, sided_undone}

-- ---- one more change

module _ (side : Side) (v : ℤ) (s e : ℕ) (B : Book) where
  pub entered_pair : (t : ℕ) → book_pair (entered 0 side v s e B) t
      ≡ cond (covers s (effect_end e B.window) t) (combine B.kind (effect side v) (book_pair B t)) (book_pair B t)
  unfolding entered book_pair items_pair
  entered_pair t = refl

  -- the old pair combined with the effect
  pub entered_onto : (t : ℕ) → book_pair (entered 0 side v s e B) t
      ≡ cond (covers s (effect_end e B.window) t) (combine B.kind (book_pair B t) (effect side v)) (book_pair B t)
  entered_onto t =
      entered_pair t
      ∙ ap (λ z. cond (covers s (effect_end e B.window) t) z (book_pair B t)) ((lawful B.kind).comm (effect side v) (book_pair B t))

-- ---- the book of a list

pub entered_all_append : (xs ys : List Change) (B : Book) → entered_all (xs ++ ys) B ≡ entered_all ys (entered_all xs B)
unfolding entered_all
entered_all_append [] ys B = refl
entered_all_append (c ∷ xs) ys B = entered_all_append xs ys (entered 0 c.side c.v c.s c.e B)

-- a booking is entered by the status that it returned
pub book_fed : (kind w : ℕ) (cs : List Change) (r : ℕ) (c : Change)
    → book_of kind w (cs ++ change_made r c) ≡ entered r c.side c.v c.s c.e (book_of kind w cs)
unfolding book_of change_made entered entered_all
book_fed kind w cs r c = entered_all_append cs (change_made r c) (empty_book kind w) ∙ go (eqb r 0) (book_of kind w cs)
  where
    go : (x : Bool) (B : Book) → entered_all (cond x (c ∷ []) []) B ≡ cond x (entered 0 c.side c.v c.s c.e B) B
    go true B = refl
    go false B = refl

-- where a change counts in a book of window w
abbrev pub within : ℕ → ℕ → ℕ → ℕ → Bool
within w t s e = covers s (effect_end e w) t

entered_all_pair : (cs : List Change) (B : Book) (t : ℕ)
    → book_pair (entered_all cs B) t ≡ combine B.kind (total (combine B.kind) (share (within B.window t)) cs) (book_pair B t)
unfolding entered_all entered total share effect_of
entered_all_pair [] B t = sym ((lawful B.kind).unit (book_pair B t))
entered_all_pair (c ∷ cs) B t =
    let L = lawful B.kind in
    let test = within B.window t in
    let T = total (combine B.kind) (share test) cs in
    entered_all_pair cs (entered 0 c.side c.v c.s c.e B) t
    ∙ ap (λ z. combine B.kind T z)
    (entered_pair c.side c.v c.s c.e B t ∙ sym (cond_unit L (test c.s c.e) (effect_of c) (book_pair B t)))
    ∙ between L T (share test c) (book_pair B t)

module _ (kind w : ℕ) (t : ℕ) where
  -- its pair is the total of the changes' shares
  pub book_total : (cs : List Change) → book_pair (book_of kind w cs) t ≡ total (combine kind) (share (within w t)) cs
  unfolding book_of empty_book book_pair items_pair
  book_total cs = entered_all_pair cs (empty_book kind w) t ∙ unit_right (lawful kind) (total (combine kind) (share (within w t)) cs)

  -- neither the order counts, nor entries that are struck out with their matching withdrawals
  pub book_same_changes : {xs ys : List Change} → SameChanges xs ys → All (Sided kind) xs → All (Sided kind) ys
      → book_pair (book_of kind w xs) t ≡ book_pair (book_of kind w ys) t
  book_same_changes {xs} {ys} S h k =
      book_total xs
      ∙ same_changes_total (lawful kind) (share (within w t)) S (sided_undone kind (within w t) h) (sided_undone kind (within w t) k)
      ∙ sym (book_total ys)

-- ---- its items

entered_all_is : (cs : List Change) (B : Book)
    → entered_all cs B ≡ record { kind = B.kind; window = B.window; items = items_onto B.window cs B.items }
unfolding entered_all entered items_onto item_of effect_of
entered_all_is [] B = refl
entered_all_is (c ∷ cs) B = entered_all_is cs (entered 0 c.side c.v c.s c.e B)

pub book_is : (kind w : ℕ) (cs : List Change) → book_of kind w cs ≡ record { kind = kind; window = w; items = items_of w cs }
unfolding book_of empty_book items_of
book_is kind w cs = entered_all_is cs (empty_book kind w)

items_onto_length : (w : ℕ) (cs : List Change) (items : List Item) → length (items_onto w cs items) ≡ length cs + length items
unfolding items_onto
items_onto_length w [] items = omega arith
items_onto_length w (c ∷ cs) items = omega (arith, items_onto_length w cs (item_of w c ∷ items))

pub items_length : (w : ℕ) (cs : List Change) → length (items_of w cs) ≡ length cs
unfolding items_of
items_length w cs = omega (arith, items_onto_length w cs [])
